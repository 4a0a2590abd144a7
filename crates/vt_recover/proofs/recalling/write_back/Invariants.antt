use Rattle.vt_isect.specs.Writeback.{calls_left}
use Rattle.vt_recover.proofs.WritingBack.{IsWriting}
use Rattle.vt_recover.proofs.recalling.write_back.Given as goal

-- the writeback goes on
abbrev pub invariant-loop-shard : goal.invariant-loop-shard
invariant-loop-shard g l = IsWriting g.D.Disk l.fn.shard l.shard

abbrev pub decreases-loop-shard : goal.decreases-loop-shard
decreases-loop-shard g l = calls_left l.shard.section
