-- What the types of this crate are seen as.
use Rattle.vt_shard.specs.declared.shard.Shard.TheInside.{Inside}
use Rattle.vt_shard.specs.Shard.{ShardState, read_bucket}

-- a shard in memory
abbrev pub state_of : {D : Type 0} → Inside D → ShardState D
state_of s = record {
  section = s.section;
  index = s.index;
  lumps = s.lumps;
  bucket = read_bucket s.bucket;
  writeback = s.writeback;
  filed = s.filed;
  ended_at = s.ended_at;
}
