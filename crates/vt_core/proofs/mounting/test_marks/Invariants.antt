use Rattle.std.proofs.Common.{◌≡◌, ◌<◌, ◌≤◌, ℕ, Some}
use Rattle.std.specs.Prelude.{slice_get}
use Rattle.vt_isect.specs.Section.{SectionState}
use Rattle.vt_core.proofs.mounting.test_marks.Given as goal

abbrev pub invariant-loop-i : goal.invariant-loop-i
invariant-loop-i g l = (i : ℕ) (s : SectionState g.row.D.Denot) → i < l.i → slice_get l.sections i ≡ Some s → s.head.mark ≤ l.len
