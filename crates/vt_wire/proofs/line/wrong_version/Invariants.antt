use Rattle.std.proofs.Common.{◌≡◌, ◌+◌, drop, true}
use Rattle.vt_wire.specs.Lines.{wrong_version}
use Rattle.vt_wire.proofs.line.wrong_version.Given as goal

abbrev pub invariant-loop-i : goal.invariant-loop-i
invariant-loop-i l = wrong_version l.fresh (6 + l.i) (drop l.i l.rest) ≡ wrong_version true 6 l.rest
