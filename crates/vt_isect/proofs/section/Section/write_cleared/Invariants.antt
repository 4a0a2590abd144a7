use Rattle.vt_isect.proofs.Fills.{HasCleared}
use Rattle.vt_isect.proofs.section.Section.write_cleared.Given as goal

abbrev pub invariant-loop-i : goal.invariant-loop-i
invariant-loop-i g l = HasCleared g.D.Disk l.initial.self l.self l.first l.i
