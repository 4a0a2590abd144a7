-- Places of lists.
use Rattle.std.proofs.Common.{◌≡◌, ◌≢◌, ℕ, zero, suc, ◌<◌, List, [], ◌∷◌, length, map, Some, refl, sym, ◌∙◌, ap, arith, ◌⊎◌, ⊎_elim, inl, inr, get_or}
use Rattle.std.specs.Prelude.{slice_get, slice_set}
use Rattle.std.proofs.lemmas.Option.{same_Some}

pub length-set : {X : Type 0} (xs : List X) (i : ℕ) (x : X) → length (slice_set xs i x) ≡ length xs
length-set [] i x = refl
length-set (y ∷ xs) zero x = refl
length-set (y ∷ xs) (suc i) x = omega (arith, length-set xs i x)

pub get_set : {X : Type 0} (xs : List X) (i : ℕ) (x y : X) → slice_get xs i ≡ Some y → slice_get (slice_set xs i x) i ≡ Some x
get_set [] i x y at = absurd (cc)
get_set (z ∷ xs) zero x y at = refl
get_set (z ∷ xs) (suc i) x y at = get_set xs i x y at

pub get_other : {X : Type 0} (xs : List X) (i j : ℕ) (x : X) → j ≢ i → slice_get (slice_set xs i x) j ≡ slice_get xs j
get_other [] i j x other = refl
get_other (z ∷ xs) zero zero x other = absurd (other refl)
get_other (z ∷ xs) zero (suc j) x other = refl
get_other (z ∷ xs) (suc i) zero x other = refl
get_other (z ∷ xs) (suc i) (suc j) x other = get_other xs i j x (λ e. other (ap (λ (n : ℕ). suc n) e))

pub within_get : {X : Type 0} (xs : List X) (i : ℕ) (x : X) → slice_get xs i ≡ Some x → i < length xs
within_get [] i x at = absurd (cc)
within_get (y ∷ xs) zero x at = omega arith
within_get (y ∷ xs) (suc i) x at = omega (arith, within_get xs i x at)

-- what is the same of the new thing as of the old is the same of all
pub map_set : {X Y : Type 0} (f : X → Y) (xs : List X) (i : ℕ) (x y : X) → slice_get xs i ≡ Some y → f x ≡ f y → map f (slice_set xs i x) ≡ map f xs
map_set f [] i x y at same = refl
map_set f (z ∷ xs) zero x y at same = let e : f x ≡ f z = same ∙ ap f (sym (same_Some z y at)) in ap (λ w. w ∷ map f xs) e
map_set f (z ∷ xs) (suc i) x y at same = ap (λ ws. f z ∷ ws) (map_set f xs i x y at same)

-- two mappings, one behind the other
pub map_then : {X Y Z : Type 0} (f : X → Y) (g : Y → Z) (xs : List X) → map (λ x. g (f x)) xs ≡ map g (map f xs)
map_then f g [] = refl
map_then f g (x ∷ xs) = ap (λ zs. g (f x) ∷ zs) (map_then f g xs)

pub map_over_set : {X Y : Type 0} (f : X → Y) (xs : List X) (i : ℕ) (x : X) → map f (slice_set xs i x) ≡ slice_set (map f xs) i (f x)
map_over_set f [] i x = refl
map_over_set f (y ∷ xs) zero x = refl
map_over_set f (y ∷ xs) (suc i) x = ap (λ zs. f y ∷ zs) (map_over_set f xs i x)

pub one_or_other : (i j : ℕ) → (i ≡ j) ⊎ (i ≢ j)
one_or_other zero zero = inl refl
one_or_other zero (suc j) = inr (λ e. cc)
one_or_other (suc i) zero = inr (λ e. cc)
one_or_other (suc i) (suc j) = ⊎_elim (λ (e : i ≡ j). inl (ap (λ (n : ℕ). suc n) e)) (λ (other : i ≢ j). inr (λ e. let f : i ≡ j = omega (arith, e) in other f)) (one_or_other i j)

-- what stands at a place is there
pub there_is : {X : Type 0} (xs : List X) (i : ℕ) (d x : X) → i < length xs → get_or xs i d ≡ x → slice_get xs i ≡ Some x
there_is [] i d x below is = absurd (omega (arith, below))
there_is (w ∷ xs) zero d x below is = ap Some is
there_is (w ∷ xs) (suc i) d x below is = there_is xs i d x (omega (arith, below)) is
