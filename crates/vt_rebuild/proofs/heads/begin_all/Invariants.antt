use Rattle.vt_rebuild.proofs.Beginning.{AreBeginning}
use Rattle.vt_rebuild.proofs.heads.begin_all.Given as goal

-- the sections so far say that they are being built, and the others are as they were
abbrev pub invariant-loop-section : goal.invariant-loop-section
invariant-loop-section g l = AreBeginning g.D.Disk l.total l.section-index l.first l.fn.sections l.sections
