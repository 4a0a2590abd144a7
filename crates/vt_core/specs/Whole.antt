-- What a store in memory keeps, whatever its devices hold.
use Rattle.std.specs.Prelude.{◌≡◌, ℕ, ◌<◌, ◌≤◌, ◌^◌, None, Some, length, slice_get}
use Rattle.std.specs.List.{Contains}
use Rattle.vt_base.specs.declared.place.Info.{Info}
use Rattle.vt_disk.specs.Members.{DiskOf}
use Rattle.vt_bloom.specs.Bits.{HasBitsOf}
use Rattle.vt_bloom.specs.Bloom.{BloomState, HasCounts}
use Rattle.vt_isect.specs.Layout.{buckets_in}
use Rattle.vt_isect.specs.Section.{IsAtRest}
use Rattle.vt_shard.specs.Shard.{ShardState}
use Rattle.vt_twin.specs.Twin.{twin_calls_made}
use Rattle.vt_core.specs.Core.{CoreState, setup_of, history_len}
use Rattle.vt_recover.specs.Sections.{IsLive}

-- A shard is that of section i, which is at rest while no writeback is under way. What it wrote
-- back, and each of its marks, are of the first so many blocks. Its dirty entries are of blocks that
-- were accepted, whose bits the filter has.
pub record IsShardOf {D : Type 0} (disk : DiskOf D) (k : CoreState D) (i durable : ℕ)
    (s : ShardState D) : Type 0 where
  pub live : IsLive (setup_of k) i s.section.head
  pub buckets : s.section.buckets ≡ buckets_in (disk.size s.section.disk)
  pub some : 0 < s.section.buckets
  pub rest : s.writeback ≡ None → IsAtRest s.section
  pub filed : s.filed ≤ durable
  pub writeback : (below : ℕ) → s.writeback ≡ Some below → below ≤ durable
  pub mark : s.section.head.mark ≤ durable
  pub next : s.section.next.mark ≤ durable
  pub numbers : (info : Info) → Contains s.index.dirty info → info.number < history_len k
  pub bits : (info : Info) → Contains s.index.dirty info → HasBitsOf k.bits info.key.score.0

-- A saved filter has the form of the bits in memory, and its marks are of the first so many blocks.
-- The fourth call of a save is the last.
pub record IsFilterOf {D : Type 0} (k : CoreState D) (durable : ℕ) (b : BloomState D) : Type 0
  where
    pub counts : HasCounts b k.bits
    pub mark : b.mark ≤ durable
    pub next : b.next ≤ durable
    pub made : twin_calls_made b.twin ≤ 3

-- The invariant of a store in memory: its log, shards, filter and sessions fit each other.
pub record IsWhole {D : Type 0} (disk : DiskOf D) (k : CoreState D) : Type 0 where
  pub some_arena : 0 < length k.log.layout
  pub some_shard : 0 < length k.shards
  pub few_shards : length k.shards < 2 ^ 32
  pub few_sessions : length k.waiting < 2 ^ 32
  pub shards : (i : ℕ) (s : ShardState D) → slice_get k.shards i ≡ Some s
      → IsShardOf disk k i k.log.durable s
  pub filter : (b : BloomState D) → k.bloom ≡ Some b → IsFilterOf k k.log.durable b
  -- synced blocks are durable, and a session waits for accepted ones
  pub synced : k.synced ≤ k.log.durable
  pub waiting : (session number : ℕ) → slice_get k.waiting session ≡ Some (Some number)
      → number ≤ history_len k
