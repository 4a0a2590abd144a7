use Rattle.std.proofs.Common.{◌≡◌, length}
use Rattle.std.specs.List.{list_any}
use Rattle.vt_wire.specs.Lines.{cut_at_colons, is_02}
use Rattle.vt_wire.proofs.line.offers_02.Given as goal

abbrev pub invariant-loop-end : goal.invariant-loop-end
invariant-loop-end l = list_any is_02 (cut_at_colons l.rest) ≡ list_any is_02 (cut_at_colons l.versions)

abbrev pub decreases-loop-end : goal.decreases-loop-end
decreases-loop-end l = length l.rest
