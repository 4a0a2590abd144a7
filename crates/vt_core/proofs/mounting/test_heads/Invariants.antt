use Rattle.std.proofs.Common.{◌≡◌, ◌<◌, ℕ, Some, None}
use Rattle.std.specs.Prelude.{slice_get}
use Rattle.vt_isect.specs.Section.{SectionState}
use Rattle.vt_model.specs.Places.{first_bucket}
use Rattle.vt_core.specs.Opening.{buckets_in_each, wrong_at}
use Rattle.vt_core.proofs.mounting.test_heads.Given as goal

abbrev pub invariant-loop-i : goal.invariant-loop-i
invariant-loop-i g l = record {
  first : l.first ≡ first_bucket (buckets_in_each l.sections) l.i;
  right : (i : ℕ) (s : SectionState g.row.D.Denot) → i < l.i → slice_get l.sections i ≡ Some s → wrong_at l.part l.sections i s ≡ None;
}
