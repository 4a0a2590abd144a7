use Rattle.vt_rebuild.proofs.Ending.{AreEnding, work}
use Rattle.vt_rebuild.proofs.rebuilding.finish_all.Given as goal

-- the sections so far are finished
abbrev pub invariant-loop-section : goal.invariant-loop-section
invariant-loop-section g l =
    AreEnding g.S.Scorer.score_of g.D.Disk l.blocks l.section-index (work l.fn.log l.fn.sections l.fn.gathered) (work l.log l.sections l.gathered)
