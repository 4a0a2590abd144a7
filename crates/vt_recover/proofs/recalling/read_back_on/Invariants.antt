use Rattle.vt_recover.specs.Recalling.{opened}
use Rattle.vt_recover.proofs.ReadingBack.{IsReading, ReadsEachOnce}
use Rattle.vt_recover.proofs.recalling.read_back_on.Given as goal

-- the blocks from the walk's place on were read back
abbrev pub invariant-loop-tail : goal.invariant-loop-tail
invariant-loop-tail g l =
    IsReading g.S.Scorer.score_of g.D.Disk (opened l.fn.log l.fn.shards l.fn.bits) (opened l.log l.shards l.bits) l.tail
    × ReadsEachOnce g.D.Disk l.fn.least (opened l.fn.log l.fn.shards l.fn.bits) (opened l.log l.shards l.bits) l.tail

abbrev pub decreases-loop-tail : goal.decreases-loop-tail
decreases-loop-tail g l = l.tail.left
