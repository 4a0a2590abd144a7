-- The answer to a request of a fid, where it is known, and where it isn't.
use Rattle.std.proofs.Common.{◌≡◌, ℕ, true, false, Option, Some, None, List, refl, sym, subst}
use Rattle.std.specs.Prelude.{is_some}
use Rattle.std.specs.Option.{option_map_or}
use Rattle.nine_view.specs.declared.fid.Fid.{Fid}
use Rattle.nine_view.specs.declared.request_error.RequestError.TheVariants.{UnknownFid}
use Rattle.nine_view.specs.Answers.{Answer, of_fid, refused_answer}
use Rattle.nine_view.specs.Known.{ViewState, fid_at, is_known}

module _ (P : Answer → Type 0) (known : ViewState) (fid : ℕ) (answer : Fid → Answer) where
  pub of_known : (f : Fid) → fid_at fid known.fids ≡ Some f → P (answer f)
      → P (of_fid known fid answer)
  of_known f at is =
      subst (λ (o : Option Fid). P (option_map_or answer o (refused_answer known UnknownFid))) (sym at) is

  pub of_unknown : fid_at fid known.fids ≡ None → P (refused_answer known UnknownFid)
      → P (of_fid known fid answer)
  of_unknown none is =
      subst (λ (o : Option Fid). P (option_map_or answer o (refused_answer known UnknownFid))) (sym none)
      is

some_one : (o : Option Fid) → is_some o ≡ true → (f : Fid) × (o ≡ Some f)
some_one None is = absurd (cc)
some_one (Some f) is = (f, refl)

no_one : (o : Option Fid) → is_some o ≡ false → o ≡ None
no_one None is = refl
no_one (Some f) is = absurd (cc)

pub one_known : (fid : ℕ) (fids : List (ℕ × Fid)) → is_known fid fids ≡ true
    → (f : Fid) × (fid_at fid fids ≡ Some f)
one_known fid fids is = some_one (fid_at fid fids) is

pub none_known : (fid : ℕ) (fids : List (ℕ × Fid)) → is_known fid fids ≡ false
    → fid_at fid fids ≡ None
none_known fid fids is = no_one (fid_at fid fids) is
