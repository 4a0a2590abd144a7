-- Lists without equals, and two lists place by place.
use Rattle.std.proofs.Common.{◌≡◌, ◌⊎◌, ⊎_elim, inl, inr, ◌<◌, ℕ, zero, suc, List, [], ◌∷◌, ◌++◌, length, Some, refl, sym, subst, arith}
use Rattle.std.specs.Prelude.{slice_get, slice_index_or}
use Rattle.std.specs.List.{AllPairs, AllZip, Contains}
use Rattle.std.proofs.lemmas.List.Elements.{Contains-append_cases, Contains-append_left, Contains-append_right}

module _ {X : Type 0} where
  pub has_none : (x : X) → ¬ Contains [] x
  has_none x (k, within, is) = absurd (omega (arith, within))

  pub has_first : (x : X) (xs : List X) → Contains (x ∷ xs) x
  has_first x xs = (0, omega arith, refl)

  pub has_later : (x : X) (xs : List X) (y : X) → Contains xs y → Contains (x ∷ xs) y
  has_later x xs y (k, within, is) = (suc k, omega (arith, within), is)

  pub has_cases : (x : X) (xs : List X) (y : X) → Contains (x ∷ xs) y → (y ≡ x) ⊎ Contains xs y
  has_cases x xs y (zero, within, is) = inl (sym is)
  has_cases x xs y (suc k, within, is) = inr (k, omega (arith, within), is)

  pub pairs_tail : (R : X → X → Type 0) (x : X) (xs : List X) → AllPairs R (x ∷ xs) → AllPairs R xs
  pairs_tail R x xs pairs i j d lt within = pairs (suc i) (suc j) d (omega (arith, lt)) (omega (arith, within))

  pub pairs_first : (R : X → X → Type 0) (x : X) (xs : List X) (y : X) → AllPairs R (x ∷ xs) → Contains xs y → R x y
  pairs_first R x xs y pairs (k, within, is) =
      subst (λ (z : X). R x z) is (pairs 0 (suc k) y (omega arith) (omega (arith, within)))

  default_free : (xs : List X) (j : ℕ) (d : X) → j < length xs → slice_index_or xs j (slice_index_or xs j d) ≡ slice_index_or xs j d
  default_free [] j d lt = absurd (omega (arith, lt))
  default_free (x ∷ xs) zero d lt = refl
  default_free (x ∷ xs) (suc j) d lt =
      let less : j < length xs = omega (arith, lt) in
      default_free xs j d less

  pub pairs_more : (R : X → X → Type 0) (x : X) (xs : List X) → ((y : X) → Contains xs y → R x y) → AllPairs R xs → AllPairs R (x ∷ xs)
  pairs_more R x xs each rest zero zero d lt within = absurd (omega (arith, lt))
  pairs_more R x xs each rest zero (suc j) d lt within =
      let in_xs : j < length xs = omega (arith, within) in
      each (slice_index_or xs j d) (j, in_xs, default_free xs j d in_xs)
  pairs_more R x xs each rest (suc i) zero d lt within = absurd (omega (arith, lt))
  pairs_more R x xs each rest (suc i) (suc j) d lt within = rest i j d (omega (arith, lt)) (omega (arith, within))

  pub pairs_none : (R : X → X → Type 0) → AllPairs R []
  pairs_none R i j d lt within = absurd (omega (arith, within))

  pub pairs_one : (R : X → X → Type 0) (x : X) → AllPairs R (x ∷ [])
  pairs_one R x = pairs_more R x [] (λ y has. absurd (has_none y has)) (pairs_none R)

  pub pairs_append : (R : X → X → Type 0) (xs ys : List X) → AllPairs R xs → AllPairs R ys
      → ((x y : X) → Contains xs x → Contains ys y → R x y) → AllPairs R (xs ++ ys)
  pairs_append R [] ys these those cross = those
  pairs_append R (x ∷ xs) ys these those cross =
      pairs_more R x (xs ++ ys)
      (λ y has. ⊎_elim (λ (here : Contains xs y). pairs_first R x xs y these here)
      (λ (there : Contains ys y). cross x y (has_first x xs) there) (Contains-append_cases xs ys y has))
      (pairs_append R xs ys (pairs_tail R x xs these) those (λ a b has also. cross a b (has_later x xs a has) also))

  pub pairs_left : (R : X → X → Type 0) (xs ys : List X) → AllPairs R (xs ++ ys) → AllPairs R xs
  pairs_left R [] ys pairs = pairs_none R
  pairs_left R (x ∷ xs) ys pairs =
      pairs_more R x xs (λ y has. pairs_first R x (xs ++ ys) y pairs (Contains-append_left xs ys y has)) (pairs_left R xs ys (pairs_tail R x (xs ++ ys) pairs))

  pub pairs_right : (R : X → X → Type 0) (xs ys : List X) → AllPairs R (xs ++ ys) → AllPairs R ys
  pairs_right R [] ys pairs = pairs
  pairs_right R (x ∷ xs) ys pairs = pairs_right R xs ys (pairs_tail R x (xs ++ ys) pairs)

  pub pairs_cross : (R : X → X → Type 0) (xs ys : List X) (x y : X) → AllPairs R (xs ++ ys) → Contains xs x → Contains ys y → R x y
  pairs_cross R [] ys x y pairs has also = absurd (has_none x has)
  pairs_cross R (z ∷ xs) ys x y pairs has also =
      ⊎_elim (λ (same : x ≡ z). subst (λ (w : X). R w y) (sym same) (pairs_first R z (xs ++ ys) y pairs (Contains-append_right xs ys y also)))
      (λ (later : Contains xs x). pairs_cross R xs ys x y (pairs_tail R z (xs ++ ys) pairs) later also)
      (has_cases z xs x has)

module _ {X Y : Type 0} (R : X → Y → Type 0) where
  pub zip_length : (xs : List X) (ys : List Y) → AllZip R xs ys → length ys ≡ length xs
  zip_length [] [] it = refl
  zip_length [] (y ∷ ys) it = absurd it
  zip_length (x ∷ xs) [] it = absurd it
  zip_length (x ∷ xs) (y ∷ ys) it = omega (arith, zip_length xs ys it.1)

  pub zip_append : (xs more : List X) (ys rest : List Y) → AllZip R xs ys → AllZip R more rest → AllZip R (xs ++ more) (ys ++ rest)
  zip_append [] more [] rest it also = also
  zip_append [] more (y ∷ ys) rest it also = absurd it
  zip_append (x ∷ xs) more [] rest it also = absurd it
  zip_append (x ∷ xs) more (y ∷ ys) rest it also = (it.0, zip_append xs more ys rest it.1 also)

  pub zip_left : (xs more : List X) (ys rest : List Y) → length ys ≡ length xs → AllZip R (xs ++ more) (ys ++ rest) → AllZip R xs ys
  zip_left [] more [] rest same it = tt
  zip_left [] more (y ∷ ys) rest same it = absurd (omega (arith, same))
  zip_left (x ∷ xs) more [] rest same it = absurd (omega (arith, same))
  zip_left (x ∷ xs) more (y ∷ ys) rest same it = let few : length ys ≡ length xs = omega (arith, same) in (it.0, zip_left xs more ys rest few it.1)

  pub zip_right : (xs more : List X) (ys rest : List Y) → length ys ≡ length xs → AllZip R (xs ++ more) (ys ++ rest) → AllZip R more rest
  zip_right [] more [] rest same it = it
  zip_right [] more (y ∷ ys) rest same it = absurd (omega (arith, same))
  zip_right (x ∷ xs) more [] rest same it = absurd (omega (arith, same))
  zip_right (x ∷ xs) more (y ∷ ys) rest same it = let few : length ys ≡ length xs = omega (arith, same) in zip_right xs more ys rest few it.1

  pub zip_at : (xs : List X) (ys : List Y) (i : ℕ) (x : X) (y : Y) → AllZip R xs ys → slice_get xs i ≡ Some x → slice_get ys i ≡ Some y → R x y
  zip_at [] ys i x y it here there = absurd (cc)
  zip_at (a ∷ xs) [] i x y it here there = absurd it
  zip_at (a ∷ xs) (b ∷ ys) zero x y it here there =
      let e : a ≡ x = cc in let f : b ≡ y = cc in subst (λ (z : X). R z y) e (subst (λ (z : Y). R a z) f it.0)
  zip_at (a ∷ xs) (b ∷ ys) (suc i) x y it here there = zip_at xs ys i x y it.1 here there
