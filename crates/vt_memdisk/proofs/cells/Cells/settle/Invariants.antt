use Rattle.std.proofs.Common.{◌≡◌}
use Rattle.vt_memdisk.proofs.cells.Cells.settle.Given as goal

abbrev pub invariant-loop-self : goal.invariant-loop-self
invariant-loop-self l = l.self.content ≡ l.initial.self.content

abbrev pub decreases-loop-self : goal.decreases-loop-self
decreases-loop-self l = l.self.dirty.count
