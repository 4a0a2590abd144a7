-- Elements of lists at their places.
use Rattle.std.proofs.Common.{◌≡◌, ℕ, zero, suc, ◌+◌, ◌-◌, ◌<◌, ◌≤◌, List, [], ◌∷◌, ◌++◌, length, get_or, take, drop, map, refl, sym, ◌∙◌, ap, subst, arith, Some, option_map, set}
use Rattle.std.specs.Prelude.{All, slice_get}
use Rattle.std.proofs.lemmas.Option.{slice_get_within, slice_get-map, same_Some, get_or_from_slice_get}
use Rattle.std.proofs.lemmas.List.Elements.{All-get_or}
use Rattle.std.proofs.lemmas.List.{get_or-drop, get_or-take, length-take, length-drop, length-map}
use Rattle.vt_part.specs.declared.layout.ArenaRegion.{ArenaRegion}

-- what an index reads where a list of regions has none
abbrev pub no_region : ArenaRegion
no_region = record { part = 0; number = 0; region = record { start = 0; len = 0 } }

-- lists of one length have elements at the same places
pub slice_get_other : {X Y : Type 0} (xs : List X) (ys : List Y) (i : ℕ) (y : Y) → length ys ≡ length xs → slice_get ys i ≡ Some y → (x : X) × (slice_get xs i ≡ Some x)
slice_get_other [] (y ∷ ys) i z many at = absurd (cc)
slice_get_other [] [] i z many at = absurd (cc)
slice_get_other (x ∷ xs) [] i z many at = absurd (cc)
slice_get_other (x ∷ xs) (y ∷ ys) zero z many at = (x, refl)
slice_get_other (x ∷ xs) (y ∷ ys) (suc i) z many at = slice_get_other xs ys i z (omega (arith, many)) at

-- an element is at each place within
pub slice_get_there : {X : Type 0} (xs : List X) (i : ℕ) → i < length xs → (x : X) × (slice_get xs i ≡ Some x)
slice_get_there [] i below = absurd (omega (arith, below))
slice_get_there (x ∷ xs) zero below = (x, refl)
slice_get_there (x ∷ xs) (suc i) below = slice_get_there xs i (omega (arith, below))

-- what holds of each element
pub at_slice : {X : Type 0} (P : X → Type 0) (xs : List X) (i : ℕ) (x : X) → All P xs → slice_get xs i ≡ Some x → P x
at_slice P xs i x all at =
    subst P (get_or_from_slice_get xs i x x at) (All-get_or P xs i x (slice_get_within xs i x at) all)

-- what holds of each element behind the first ones
pub at_drop : {X : Type 0} (P : X → Type 0) (n : ℕ) (xs : List X) (i : ℕ) (x : X) → All P (drop n xs) → n ≤ i → slice_get xs i ≡ Some x → P x
at_drop P n xs i x all behind at =
    let below = slice_get_within xs i x at in
    subst P (get_or-drop n xs (i - n) x ∙ ap (λ (k : ℕ). get_or xs k x) (omega (arith, behind)) ∙ get_or_from_slice_get xs i x x at)
    (All-get_or P (drop n xs) (i - n) x (omega (arith, below, behind, length-drop n xs)) all)

-- and among the first ones
pub at_take : {X : Type 0} (P : X → Type 0) (n : ℕ) (xs : List X) (i : ℕ) (x : X) → All P (take n xs) → i < n → slice_get xs i ≡ Some x → P x
at_take P n xs i x all before at =
    let below = slice_get_within xs i x at in
    subst P (get_or-take n xs i x before ∙ get_or_from_slice_get xs i x x at)
    (All-get_or P (take n xs) i x (omega (arith, below, before, length-take n xs)) all)

-- the elements of two lists, one behind the other
pub slice_get_left : {X : Type 0} (xs ys : List X) (i : ℕ) → i < length xs → slice_get (xs ++ ys) i ≡ slice_get xs i
slice_get_left [] ys i below = absurd (omega (arith, below))
slice_get_left (x ∷ xs) ys zero below = refl
slice_get_left (x ∷ xs) ys (suc i) below = slice_get_left xs ys i (omega (arith, below))

pub slice_get_right : {X : Type 0} (xs ys : List X) (i : ℕ) → slice_get (xs ++ ys) (length xs + i) ≡ slice_get ys i
slice_get_right [] ys i = ap (slice_get ys) (omega arith)
slice_get_right (x ∷ xs) ys i =
    let e : suc (length xs) + i ≡ suc (length xs + i) = omega arith in
    ap (slice_get (x ∷ xs ++ ys)) e ∙ slice_get_right xs ys i

-- a list with another element at one place
pub slice_get_set_same : {X : Type 0} (xs : List X) (i : ℕ) (y : X) → i < length xs → slice_get (set xs i y) i ≡ Some y
slice_get_set_same [] i y below = absurd (omega (arith, below))
slice_get_set_same (x ∷ xs) zero y below = refl
slice_get_set_same (x ∷ xs) (suc i) y below = slice_get_set_same xs i y (omega (arith, below))

pub slice_get_set_other : {X : Type 0} (xs : List X) (i j : ℕ) (y : X) → (j ≡ i → ⊥) → slice_get (set xs i y) j ≡ slice_get xs j
slice_get_set_other [] i j y other = refl
slice_get_set_other (x ∷ xs) zero zero y other = absurd (other refl)
slice_get_set_other (x ∷ xs) zero (suc j) y other = refl
slice_get_set_other (x ∷ xs) (suc i) zero y other = refl
slice_get_set_other (x ∷ xs) (suc i) (suc j) y other = slice_get_set_other xs i j y (λ same. other (ap (λ (k : ℕ). suc k) same))

pub slice_get_drop : {X : Type 0} (n i : ℕ) (xs : List X) → slice_get (drop n xs) i ≡ slice_get xs (n + i)
slice_get_drop zero i xs = ap (slice_get xs) (let e : i ≡ 0 + i = omega arith in e)
slice_get_drop (suc n) i [] = refl
slice_get_drop (suc n) i (x ∷ xs) = slice_get_drop n i xs ∙ ap (slice_get (x ∷ xs)) (let e : suc (n + i) ≡ suc n + i = omega arith in e)

-- lists of one image have one length, and one image of the elements at a place
pub map_long : {X Y : Type 0} (f : X → Y) (xs ys : List X) → map f ys ≡ map f xs → length ys ≡ length xs
map_long {Y = Y} f xs ys same = sym (length-map ys f) ∙ ap (λ (zs : List Y). length zs) same ∙ length-map xs f

pub map_there : {X Y : Type 0} (f : X → Y) (xs ys : List X) (i : ℕ) (x y : X) → map f ys ≡ map f xs → slice_get xs i ≡ Some x → slice_get ys i ≡ Some y → f y ≡ f x
map_there {Y = Y} f xs ys i x y same at_x at_y =
    same_Some (f y) (f x) (sym (slice_get-map f ys i ∙ ap (option_map f) at_y) ∙ ap (λ (zs : List Y). slice_get zs i) same ∙ slice_get-map f xs i ∙ ap (option_map f) at_x)
