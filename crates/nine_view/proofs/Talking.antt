-- Messages that are answered one after another.
use Rattle.std.proofs.Common.{◌≡◌, ◌++◌, ℕ, Option, Some, None, List, [], ◌∷◌, refl, sym, ◌∙◌, ap, subst}
use Rattle.std.specs.Option.{option_or}
use Rattle.vt_tree.specs.Calls.{Call}
use Rattle.vt_tree.specs.Maps.{Maps}
use Rattle.vac_read.specs.declared.error.VacBad.{VacBad}
use Rattle.nine_view.specs.Known.{ViewState}
use Rattle.nine_view.specs.Serving.{AnswersInTurn, MessageTurn, first_failure}

module _ {S : Type 0} (does : S → Call → S → Type 0) (holds : S → Maps → Type 0)
    (score_of : List ℕ → List ℕ) where
  pub talks_more : (turns more : List MessageTurn) (a b c : S) (u v w : ViewState)
      → AnswersInTurn does holds score_of a u turns b v → AnswersInTurn does holds score_of b v more c w
      → AnswersInTurn does holds score_of a u (turns ++ more) c w
  talks_more [] more a b c u v w (at, known) later =
      subst (λ (s : S). AnswersInTurn does holds score_of s u more c w) at
      (subst (λ (k : ViewState). AnswersInTurn does holds score_of b k more c w) known later)
  talks_more (turn ∷ turns) more a b c u v w (short, (next, replies, rest)) later = (
    short,
    (next, replies, talks_more turns more next b c turn.known v w rest later),
  )

or_more : (a b c : Option VacBad) → option_or (option_or a b) c ≡ option_or a (option_or b c)
or_more None b c = refl
or_more (Some bad) b c = refl

pub failure_more : (turns more : List MessageTurn)
    → first_failure (turns ++ more) ≡ option_or (first_failure turns) (first_failure more)
failure_more [] more = refl
failure_more (turn ∷ turns) more =
    ap (λ (o : Option VacBad). option_or turn.failure o) (failure_more turns more)
    ∙ sym (or_more turn.failure (first_failure turns) (first_failure more))
