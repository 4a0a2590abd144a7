-- Two lists, place by place.
use Rattle.std.proofs.Common.{◌≡◌, ℕ, zero, suc, List, [], ◌∷◌, ◌++◌, length, map, Some, refl, sym, ◌∙◌, subst, arith}
use Rattle.std.specs.Prelude.{slice_get}
use Rattle.std.specs.List.{AllZip}
use Rattle.std.proofs.lemmas.Option.{same_Some}

pub zip_length : {X Y : Type 0} (R : X → Y → Type 0) (xs : List X) (ys : List Y) → AllZip R xs ys → length ys ≡ length xs
zip_length R [] [] it = refl
zip_length R [] (y ∷ ys) it = absurd it
zip_length R (x ∷ xs) [] it = absurd it
zip_length R (x ∷ xs) (y ∷ ys) it = omega (arith, zip_length R xs ys it.1)

pub zip_append : {X Y : Type 0} (R : X → Y → Type 0) (xs more : List X) (ys rest : List Y) → AllZip R xs ys → AllZip R more rest → AllZip R (xs ++ more) (ys ++ rest)
zip_append R [] more [] rest it also = also
zip_append R [] more (y ∷ ys) rest it also = absurd it
zip_append R (x ∷ xs) more [] rest it also = absurd it
zip_append R (x ∷ xs) more (y ∷ ys) rest it also = (it.0, zip_append R xs more ys rest it.1 also)

pub zip_push : {X Y : Type 0} (R : X → Y → Type 0) (xs : List X) (ys : List Y) (x : X) (y : Y) → AllZip R xs ys → R x y → AllZip R (xs ++ x ∷ []) (ys ++ y ∷ [])
zip_push R xs ys x y it also = zip_append R xs (x ∷ []) ys (y ∷ []) it (also, tt)

-- what stands beside an element of the second list
pub zip_beside : {X Y : Type 0} (R : X → Y → Type 0) (xs : List X) (ys : List Y) (i : ℕ) (y : Y) → AllZip R xs ys → slice_get ys i ≡ Some y
    → (x : X) × (slice_get xs i ≡ Some x) × R x y
zip_beside R [] [] i y it at = absurd (cc)
zip_beside R [] (b ∷ ys) i y it at = absurd it
zip_beside R (a ∷ xs) [] i y it at = absurd it
zip_beside {X} {Y} R (a ∷ xs) (b ∷ ys) zero y it at = (a, refl, subst (λ (z : Y). R a z) (same_Some b y at) it.0)
zip_beside R (a ∷ xs) (b ∷ ys) (suc i) y it at = zip_beside R xs ys i y it.1 at

-- and beside one of the first
pub zip_other : {X Y : Type 0} (R : X → Y → Type 0) (xs : List X) (ys : List Y) (i : ℕ) (x : X) → AllZip R xs ys → slice_get xs i ≡ Some x
    → (y : Y) × (slice_get ys i ≡ Some y) × R x y
zip_other R [] [] i x it at = absurd (cc)
zip_other R [] (b ∷ ys) i x it at = absurd it
zip_other R (a ∷ xs) [] i x it at = absurd it
zip_other {X} {Y} R (a ∷ xs) (b ∷ ys) zero x it at = (b, refl, subst (λ (z : X). R z b) (same_Some a x at) it.0)
zip_other R (a ∷ xs) (b ∷ ys) (suc i) x it at = zip_other R xs ys i x it.1 at

pub zip_at : {X Y : Type 0} (R : X → Y → Type 0) (xs : List X) (ys : List Y) (i : ℕ) (x : X) (y : Y) → AllZip R xs ys → slice_get xs i ≡ Some x → slice_get ys i ≡ Some y → R x y
zip_at {X} {Y} R xs ys i x y it here there =
    let b = zip_beside R xs ys i y it there in
    subst (λ (z : X). R z y) (same_Some b.0 x (sym b.1 ∙ here)) b.2

-- the same of a relation that follows
pub zip_implies : {X Y : Type 0} (R S : X → Y → Type 0) (xs : List X) (ys : List Y) → ((x : X) (y : Y) → R x y → S x y) → AllZip R xs ys → AllZip S xs ys
zip_implies R S [] [] so it = tt
zip_implies R S [] (y ∷ ys) so it = absurd it
zip_implies R S (x ∷ xs) [] so it = absurd it
zip_implies R S (x ∷ xs) (y ∷ ys) so it = (so x y it.0, zip_implies R S xs ys so it.1)

pub zip_map : {X Y Z : Type 0} (R : X → Z → Type 0) (f : Y → Z) (xs : List X) (ys : List Y) → AllZip (λ x y. R x (f y)) xs ys → AllZip R xs (map f ys)
zip_map R f [] [] it = tt
zip_map R f [] (y ∷ ys) it = absurd it
zip_map R f (x ∷ xs) [] it = absurd it
zip_map R f (x ∷ xs) (y ∷ ys) it = (it.0, zip_map R f xs ys it.1)

pub zip_self : {X : Type 0} (R : X → X → Type 0) (xs : List X) → ((x : X) → R x x) → AllZip R xs xs
zip_self R [] each = tt
zip_self R (x ∷ xs) each = (each x, zip_self R xs each)

-- what is the same of each is the same of all
pub zip_same : {X Y Z : Type 0} (f : X → Z) (g : Y → Z) (xs : List X) (ys : List Y) → AllZip (λ x y. g y ≡ f x) xs ys → map g ys ≡ map f xs
zip_same f g [] [] it = refl
zip_same f g [] (y ∷ ys) it = absurd it
zip_same f g (x ∷ xs) [] it = absurd it
zip_same f g (x ∷ xs) (y ∷ ys) it =
    let head : g y ≡ f x = it.0 in
    let tail : map g ys ≡ map f xs = zip_same f g xs ys it.1 in
    cc
