-- What was put behind what was put before, or a front of it.
use Rattle.std.proofs.Common.{◌≡◌, ◌++◌, [], List, ℕ, sym, ◌∙◌, ap, subst, append_assoc, append-nil}
use Rattle.vt_out.specs.Streams.{AppendsPrefix}
use Rattle.run_base.proofs.Puts.{front_behind}

-- both were put
pub whole_then : (old mid new a b : List ℕ) → mid ≡ old ++ a → new ≡ mid ++ b
    → new ≡ old ++ (a ++ b)
whole_then old mid new a b first then =
    then ∙ ap (λ (w : List ℕ). w ++ b) first ∙ append_assoc old a b

-- of the second a front
pub front_then : (old mid new a b : List ℕ) → mid ≡ old ++ a → AppendsPrefix mid new b
    → AppendsPrefix old new (a ++ b)
front_then old mid new a b first then =
    subst (λ (l : List ℕ). AppendsPrefix old new (a ++ l)) (append-nil b)
    (front_behind old a b [] new (subst (λ (w : List ℕ). AppendsPrefix w new b) first then))

-- of the first a front
pub front_first : (old new a b : List ℕ) → AppendsPrefix old new a → AppendsPrefix old new (a ++ b)
front_first old new a b first =
    front_behind old [] a b new
    (subst (λ (w : List ℕ). AppendsPrefix w new a) (sym (append-nil old)) first)
