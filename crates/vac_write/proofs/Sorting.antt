-- A stable sort of a list has one outcome.
use Rattle.std.proofs.Common.{◌≡◌, ℕ, zero, suc, ◌<◌, ◌≤◌, Bool, true, false, List, [], ◌∷◌, length, get_or, filter, refl, sym, ◌∙◌, ap, inl, inr, suc-le-suc, zero-le}
use Rattle.std.specs.Prelude.{⊤, not, ◌&&◌}
use Rattle.std.specs.Cmp.{IsStrictWeakOrder}
use Rattle.std.specs.List.Sorted.{ties, IsSortedBy}
use Rattle.std.proofs.lemmas.Bool.{cond-true, cond-false, cases_Bool, and_parts, not-true, true≢false}
use Rattle.std.proofs.lemmas.List.Sorted.{sorted_far}

pub filter-kept : {X : Type 0} (p : X → Bool) (y : X) (ys : List X) → p y ≡ true
    → filter p (y ∷ ys) ≡ y ∷ filter p ys
filter-kept p y ys h = cond-true _ _ _ h

pub filter-dropped : {X : Type 0} (p : X → Bool) (y : X) (ys : List X) → p y ≡ false
    → filter p (y ∷ ys) ≡ filter p ys
filter-dropped p y ys h = cond-false _ _ _ h

module _ {X : Type 0} (lt : X → X → Bool) (o : IsStrictWeakOrder lt) where
  -- no element of a list is less than this one
  abbrev pub NoneBelow : X → List X → Type 0
  NoneBelow x [] = ⊤
  NoneBelow x (y ∷ ys) = (lt y x ≡ false) × NoneBelow x ys

  -- and none is less than one before it
  abbrev pub Rises : List X → Type 0
  Rises [] = ⊤
  Rises (y ∷ ys) = NoneBelow y ys × Rises ys

  none_at : (x : X) (ys : List X)
      → ((j : ℕ) → j < length ys → lt (get_or ys j x) x ≡ false) → NoneBelow x ys
  none_at x [] h = tt
  none_at x (y ∷ ys) h =
      (h zero (suc-le-suc zero-le), none_at x ys (λ j low. h (suc j) (suc-le-suc low)))

  rises_far : (ys : List X)
      → ((i j : ℕ) (d : X) → i ≤ j → j < length ys → lt (get_or ys j d) (get_or ys i d) ≡ false)
      → Rises ys
  rises_far [] h = tt
  rises_far (y ∷ ys) h = (
    none_at y ys (λ j low. h zero (suc j) y zero-le (suc-le-suc low)),
    rises_far ys (λ i j d le low. h (suc i) (suc j) d (suc-le-suc le) (suc-le-suc low)),
  )

  pub rises_sorted : (ys : List X) → IsSortedBy lt ys → Rises ys
  rises_sorted ys sorted = rises_far ys (λ i j d le low. sorted_far lt o ys sorted i j d le low)

  -- ---- ties

  never_less : (x : X) → lt x x ≡ false
  never_less x = elim (cases_Bool (lt x x)) [
    | inl less ↦ o.one_way x x less
    | inr not_less ↦ not_less
  ]

  tied : (x y : X) → ties lt x y ≡ true → (lt x y ≡ false) × (lt y x ≡ false)
  tied x y h =
      let two = and_parts (not (lt x y)) (not (lt y x)) h in
      (not-true (lt x y) two.0, not-true (lt y x) two.1)

  pub ties_from : (x y : X) → lt x y ≡ false → lt y x ≡ false → ties lt x y ≡ true
  ties_from x y below above = (λ i. not (below i) && not (above i))

  pub ties_self : (x : X) → ties lt x x ≡ true
  ties_self x = ties_from x x (never_less x) (never_less x)

  -- no element ties with two of which one is less
  pub no_third : (x y z : X) → lt y z ≡ true → ties lt x y ≡ true → ties lt x z ≡ true → ⊥
  no_third x y z less first then =
      true≢false (sym less ∙ o.chain y x z (tied x y first).1 (tied x z then).0)

  -- what ties with some element of a list is not less than all of them
  found_above : (x z : X) (ys : List X) (w : X) (ws : List X) → NoneBelow z ys
      → filter (ties lt x) ys ≡ w ∷ ws → lt x z ≡ false
  found_above x z [] w ws none is = let never : ⊥ = cc in absurd never
  found_above x z (y ∷ ys) w ws none is = elim (cases_Bool (ties lt x y)) [
    | inl with ↦ o.chain x y z (tied x y with).0 none.0
    | inr without ↦
        found_above x z ys w ws none.1 (sym (filter-dropped (ties lt x) y ys without) ∙ is)
  ]

  pub same_sorted : (ys zs : List X) → Rises ys → Rises zs
      → ((x : X) → filter (ties lt x) ys ≡ filter (ties lt x) zs) → ys ≡ zs
  same_sorted [] [] left right same = refl
  same_sorted [] (z ∷ zs) left right same =
      let clash : [] ≡ z ∷ filter (ties lt z) zs =
      same z ∙ filter-kept (ties lt z) z zs (ties_self z) in
      let never : ⊥ = cc in absurd never
  same_sorted (y ∷ ys) [] left right same =
      let clash : [] ≡ y ∷ filter (ties lt y) ys =
      sym (same y) ∙ filter-kept (ties lt y) y ys (ties_self y) in
      let never : ⊥ = cc in absurd never
  same_sorted (y ∷ ys) (z ∷ zs) left right same =
      let at_y = filter-kept (ties lt y) y ys (ties_self y) in
      let at_z = filter-kept (ties lt z) z zs (ties_self z) in
      let up : lt y z ≡ false =
      found_above y z (z ∷ zs) y (filter (ties lt y) ys) (never_less z, right.0)
      (sym (same y) ∙ at_y) in
      let down : lt z y ≡ false =
      found_above z y (y ∷ ys) z (filter (ties lt z) zs) (never_less y, left.0)
      (same z ∙ at_z) in
      let heads : y ∷ filter (ties lt y) ys ≡ z ∷ filter (ties lt y) zs =
      sym at_y ∙ same y ∙ filter-kept (ties lt y) z zs (ties_from y z up down) in
      let head : y ≡ z = cc in
      let tails : (x : X) → filter (ties lt x) ys ≡ filter (ties lt x) zs =
      λ x. elim (cases_Bool (ties lt x y)) [
        | inl with ↦
            let both : y ∷ filter (ties lt x) ys ≡ z ∷ filter (ties lt x) zs =
            sym (filter-kept (ties lt x) y ys with) ∙ same x
            ∙ filter-kept (ties lt x) z zs (ap (ties lt x) (sym head) ∙ with) in cc
        | inr without ↦
            sym (filter-dropped (ties lt x) y ys without) ∙ same x
            ∙ filter-dropped (ties lt x) z zs (ap (ties lt x) (sym head) ∙ without)
      ] in
      (λ i. head i ∷ same_sorted ys zs left.1 right.1 tails i)
