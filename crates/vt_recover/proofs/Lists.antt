-- Lists and their fronts.
use Rattle.std.proofs.Common.{◌≡◌, ℕ, zero, suc, ◌≤◌, List, [], ◌∷◌, ◌++◌, length, take, drop, map, Option, Some, None, refl, sym, ◌∙◌, ap, arith}
use Rattle.std.specs.Prelude.{slice_get, slice_index, replicate}
use Rattle.std.specs.Option.{option_map, option_to_list}
use Rattle.std.specs.List.{All, AllByRecursion}
use Rattle.std.proofs.lemmas.List.Elements.{All-from_recursion}
use Rattle.std.proofs.lemmas.List.{take-append-drop, take-take}
use Rattle.std.proofs.lemmas.Option.{slice_get-map, get_or_from_slice_get}

-- a longer front is a shorter one and more
pub longer_take : {X : Type 0} (d n : ℕ) (h : List X) → d ≤ n → take d h ++ drop d (take n h) ≡ take n h
longer_take d n h le =
    ap (λ l. l ++ drop d (take n h)) (sym (take-take d n h le)) ∙ take-append-drop d (take n h)

pub at_map : {X Y : Type 0} (f : X → Y) (xs : List X) (i : ℕ) (x : X) → slice_get xs i ≡ Some x → slice_get (map f xs) i ≡ Some (f x)
at_map f xs i x at = slice_get-map f xs i ∙ ap (option_map f) at

pub index_map : {X : Type 0} (f : X → ℕ) (xs : List X) (i : ℕ) (x : X) → slice_get xs i ≡ Some x → slice_index (map f xs) i ≡ f x
index_map f xs i x at = get_or_from_slice_get (map f xs) i (f x) 0 (at_map f xs i x at)

-- lists of one length that have the same at each place are one
pub same_lists : {X : Type 0} (xs ys : List X) → length xs ≡ length ys
    → ((i : ℕ) (x y : X) → slice_get xs i ≡ Some x → slice_get ys i ≡ Some y → x ≡ y) → xs ≡ ys
same_lists [] [] many each = refl
same_lists [] (b ∷ ys) many each = absurd (omega (arith, many))
same_lists (a ∷ xs) [] many each = absurd (omega (arith, many))
same_lists (a ∷ xs) (b ∷ ys) many each =
    let head : a ≡ b = each zero a b refl refl in
    let few : length xs ≡ length ys = omega (arith, many) in
    let tail : xs ≡ ys = same_lists xs ys few (λ i x y. each (suc i) x y) in
    cc

-- each of a list of nothing is nothing
none_replicate : (n : ℕ) → AllByRecursion (λ (o : Option ℕ). o ≡ None) (replicate n None)
none_replicate zero = tt
none_replicate (suc n) = (refl, none_replicate n)

pub All-replicate : (n : ℕ) → All (λ (o : Option ℕ). o ≡ None) (replicate n None)
All-replicate n = All-from_recursion (λ o. o ≡ None) (replicate n None) (none_replicate n)

-- of a list of one or none, what stands there
pub only_one : {X : Type 0} (o : Option X) (i : ℕ) (x : X) → slice_get (option_to_list o) i ≡ Some x → o ≡ Some x
only_one None i x at = absurd (cc)
only_one (Some y) zero x at = at
only_one (Some y) (suc i) x at = absurd (cc)
