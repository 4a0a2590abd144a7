-- What holds of each element of a list, of its parts.
use Rattle.std.proofs.Common.{ℕ, zero, suc, ◌+◌, ◌<◌, List, [], ◌∷◌, ◌++◌, length, get_or, refl, subst, arith, length-append}
use Rattle.std.specs.List.{All, flat_map}
use Rattle.std.proofs.lemmas.List.{get_or_append_left, get_or-append-add, get_or_at, length_push}

pub front_of : {A : Type 0} (P : A → Type 0) (xs ys : List A) → All P (xs ++ ys) → All P xs
front_of P xs ys each k d within =
    subst P (get_or_append_left xs ys d k within) (each k d (omega (arith, length-append xs ys)))

pub back_of : {A : Type 0} (P : A → Type 0) (xs ys : List A) → All P (xs ++ ys) → All P ys
back_of P xs ys each k d within =
    subst P (get_or-append-add xs ys k d)
    (each (length xs + k) d (omega (arith, length-append xs ys)))

pub last_of : {A : Type 0} (P : A → Type 0) (xs : List A) (x : A) → All P (xs ++ x ∷ []) → P x
last_of P xs x each =
    subst P (get_or_at xs x [] x (length xs) refl)
    (each (length xs) x (omega (arith, length_push xs x)))

-- the part that one element has made
pub part_of : {A X : Type 0} (P : A → Type 0) (f : X → List A) (xs : List X) (i : ℕ) (e : X)
    → All P (flat_map f xs) → i < length xs → All P (f (get_or xs i e))
part_of P f [] i e each within = absurd (omega arith)
part_of P f (x ∷ xs) zero e each within = front_of P (f x) (flat_map f xs) each
part_of P f (x ∷ xs) (suc i) e each within =
    part_of P f xs i e (back_of P (f x) (flat_map f xs) each) (omega arith)
