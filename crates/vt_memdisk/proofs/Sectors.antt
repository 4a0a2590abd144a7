-- A sparse set of numbers.
use Rattle.std.proofs.Common.{◌≡◌, ◌≢◌, ℕ, ◌+◌, ◌<◌, ◌≤◌, List, length, get_or, sym, ◌∙◌, ap, arith, ⊎_elim}
use Rattle.std.proofs.lemmas.Bool.{cases_eq}
use Rattle.std.specs.List.{SwappedAt}
use Rattle.vt_memdisk.specs.Sectors.{AreInverse}

-- at first each number stands at its own place
pub inverse_at_first : (order place : List ℕ) → length place ≡ length order
    → ((k : ℕ) → k < length order → get_or order k 0 ≡ k)
    → ((s : ℕ) → s < length order → get_or place s 0 ≡ s)
    → AreInverse order place
inverse_at_first order place same own_number own_place = record {
  same_length = same;
  number_in_range = λ k below. omega (arith, own_number k below);
  place_in_range = λ s below. omega (arith, own_place s below);
  place_of_number = λ k below. ap (λ (i : ℕ). get_or place i 0) (own_number k below)
      ∙ own_place k below;
  number_at_place = λ s below. ap (λ (i : ℕ). get_or order i 0) (own_place s below)
      ∙ own_number s below;
}

-- the number g and the one at place k change places
module _ (order place order' place' : List ℕ) (g k : ℕ) (inverse : AreInverse order place)
    (number : g < length order) (in_order : k < length order)
    (same_order : length order' ≡ length order) (same_place : length place' ≡ length place)
    (moved_order : SwappedAt order order' k (get_or place g 0))
    (moved_place : SwappedAt place place' g (get_or order k 0)) where
  at_k : get_or order' k 0 ≡ g
  at_k = moved_order.0 0 ∙ inverse.number_at_place g number

  pub place_of_g : get_or place' g 0 ≡ k
  place_of_g = moved_place.0 0 ∙ inverse.place_of_number k in_order

  -- a number other than g that stands at another place stays there
  pub stays : (s : ℕ) → s < length order → s ≢ g → get_or place s 0 ≢ k → get_or place' s 0
      ≡ get_or place s 0
  stays s below other elsewhere = moved_place.2 s 0 other
      (λ same. elsewhere (ap (λ (x : ℕ). get_or place x 0) same
      ∙ inverse.place_of_number k in_order))

  place_again : (j : ℕ) → j < length order → get_or place' (get_or order' j 0) 0 ≡ j
  place_again j below = ⊎_elim
      (λ at. ap (λ (i : ℕ). get_or place' (get_or order' i 0) 0) at
      ∙ ap (λ (i : ℕ). get_or place' i 0) at_k ∙ place_of_g ∙ sym at)
      (λ not_k. ⊎_elim
      (λ at. ap (λ (i : ℕ). get_or place' (get_or order' i 0) 0) at
      ∙ ap (λ (i : ℕ). get_or place' i 0) (moved_order.1 0) ∙ moved_place.1 0 ∙ sym at)
      (λ not_a. ap (λ (i : ℕ). get_or place' i 0) (moved_order.2 j 0 not_k not_a)
      ∙ stays (get_or order j 0) (inverse.number_in_range j below)
      (λ same. not_a (sym (inverse.place_of_number j below)
      ∙ ap (λ (i : ℕ). get_or place i 0) same))
      (λ same. not_k (sym (inverse.place_of_number j below) ∙ same))
      ∙ inverse.place_of_number j below)
      (cases_eq j (get_or place g 0)))
      (cases_eq j k)

  number_again : (s : ℕ) → s < length order → get_or order' (get_or place' s 0) 0 ≡ s
  number_again s below = ⊎_elim
      (λ at. ap (λ (i : ℕ). get_or order' (get_or place' i 0) 0) at
      ∙ ap (λ (i : ℕ). get_or order' i 0) place_of_g ∙ at_k ∙ sym at)
      (λ not_g. ⊎_elim
      (λ at. ap (λ (i : ℕ). get_or order' (get_or place' i 0) 0) at
      ∙ ap (λ (i : ℕ). get_or order' i 0) (moved_place.1 0) ∙ moved_order.1 0 ∙ sym at)
      (λ not_x. ap (λ (i : ℕ). get_or order' i 0) (moved_place.2 s 0 not_g not_x)
      ∙ moved_order.2 (get_or place s 0) 0
      (λ same. not_x (sym (inverse.number_at_place s below)
      ∙ ap (λ (i : ℕ). get_or order i 0) same))
      (λ same. not_g (sym (inverse.number_at_place s below) ∙ ap (λ (i : ℕ). get_or order i 0) same
      ∙ inverse.number_at_place g number))
      ∙ inverse.number_at_place s below)
      (cases_eq s (get_or order k 0)))
      (cases_eq s g)

  in_range : (s : ℕ) → s < length order → get_or place' s 0 < length order
  in_range s below = ⊎_elim
      (λ at. omega (arith, ap (λ (i : ℕ). get_or place' i 0) at, place_of_g))
      (λ not_g. ⊎_elim
      (λ at. omega (
        arith,
        ap (λ (i : ℕ). get_or place' i 0) at,
        moved_place.1 0,
        inverse.place_in_range g number,
      ))
      (λ not_x. omega (arith, moved_place.2 s 0 not_g not_x, inverse.place_in_range s below))
      (cases_eq s (get_or order k 0)))
      (cases_eq s g)

  number_range : (j : ℕ) → j < length order → get_or order' j 0 < length order
  number_range j below = ⊎_elim
      (λ at. omega (arith, ap (λ (i : ℕ). get_or order' i 0) at, at_k))
      (λ not_k. ⊎_elim
      (λ at. omega (
        arith,
        ap (λ (i : ℕ). get_or order' i 0) at,
        moved_order.1 0,
        inverse.number_in_range k in_order,
      ))
      (λ not_a. omega (arith, moved_order.2 j 0 not_k not_a, inverse.number_in_range j below))
      (cases_eq j (get_or place g 0)))
      (cases_eq j k)

  pub still_inverse : AreInverse order' place'
  still_inverse = record {
    same_length = same_place ∙ inverse.same_length ∙ sym same_order;
    number_in_range = λ j below. omega (arith, number_range j (omega arith));
    place_in_range = λ s below. omega (arith, in_range s (omega arith));
    place_of_number = λ j below. place_again j (omega arith);
    number_at_place = λ s below. number_again s (omega arith);
  }

  -- where k numbers are in the set and g isn't, g alone comes in
  pub only_g : k ≤ get_or place g 0 → (s : ℕ) → s < length order → s ≢ g → get_or place' s 0 < k + 1
      → get_or place s 0 < k
  only_g out s below other here = ⊎_elim
      (λ at.
      let moved : s ≡ get_or order k 0 = sym (inverse.number_at_place s below)
      ∙ ap (λ (i : ℕ). get_or order i 0) at in
      let there : get_or place' s 0 ≡ get_or place g 0 = ap (λ (i : ℕ). get_or place' i 0) moved
      ∙ moved_place.1 0 in
      let last : get_or place g 0 ≡ k = omega arith in
      absurd (other (moved ∙ ap (λ (i : ℕ). get_or order i 0) (sym last)
      ∙ inverse.number_at_place g number)))
      (λ elsewhere. omega (arith, stays s below other elsewhere))
      (cases_eq (get_or place s 0) k)
