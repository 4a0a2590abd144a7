use Rattle.vt_isect.specs.Writeback.{calls_left}
use Rattle.vt_rebuild.proofs.HeadWork.{UnderWay}
use Rattle.vt_rebuild.proofs.heads.change_head.Given as goal

-- the change is under way, or was made
abbrev pub invariant-loop-section : goal.invariant-loop-section
invariant-loop-section g l = UnderWay g.D.Disk l.initial.section l.section

abbrev pub decreases-loop-section : goal.decreases-loop-section
decreases-loop-section g l = calls_left l.section
