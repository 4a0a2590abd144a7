use Rattle.vt_recover.proofs.TakingAllBack.{AreTaken}
use Rattle.vt_recover.proofs.recalling.recall.Given as goal

-- the shards so far took the block back
abbrev pub invariant-loop-i : goal.invariant-loop-i
invariant-loop-i g l = AreTaken g.D.Disk l.part l.info l.i l.fn.shards l.shards
