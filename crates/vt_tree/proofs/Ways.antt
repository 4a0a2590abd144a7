-- The blocks on the way to leaves, place by place of a pointer block.
use Rattle.std.proofs.Common.{◌≡◌, ℕ, zero, suc, ◌+◌, ◌-◌, ◌*◌, ◌/◌, ◌<◌, ◌≤◌, ◌⊎◌, inl, inr, min, Option, Result, List, ◌∷◌, ◌++◌, sym, ◌∙◌, ap, arith, append-nil}
use Rattle.std.specs.List.{range_with_len, flat_map}
use Rattle.std.proofs.Math.Nat.{mul-add-div_right, suc-mul}
use Rattle.std.proofs.lemmas.Bool.{cases_lt}
use Rattle.std.proofs.lemmas.List.Concat.{flat_map-append}
use Rattle.std.proofs.lemmas.Nat.{le-div, div_below, div-mul-add}
use Rattle.vt_base.specs.Protocol.{Operation}
use Rattle.vt_tree.specs.declared.plain.ContentError.{ContentError}
use Rattle.vt_tree.specs.Content.{led, way_through}

-- ---- numbers one after another

pub range_split : (a n m : ℕ)
    → range_with_len a (n + m) ≡ range_with_len a n ++ range_with_len (a + n) m
range_split a zero m =
    ap (range_with_len a) (zero_and m) ∙ ap (λ (k : ℕ). range_with_len k m) (sym (by_zero a))
  where
    by_zero : (k : ℕ) → k + 0 ≡ k
    by_zero k = omega arith

    zero_and : (k : ℕ) → 0 + k ≡ k
    zero_and k = omega arith
range_split a (suc n) m =
    let more : suc n + m ≡ suc (n + m) = omega arith in
    let next : a + 1 + n ≡ a + suc n = omega arith in
    ap (range_with_len a) more
    ∙ ap (λ (l : List ℕ). a ∷ l) (range_split (a + 1) n m)
    ∙ ap (λ (k : ℕ). a ∷ (range_with_len (a + 1) n ++ range_with_len k m)) next

-- ---- the places so far

module _ (leaves : ℕ) (score_at : ℕ → Result (Option (List ℕ)) ContentError)
    (way : List ℕ → (first end : ℕ) → List Operation) (first end : ℕ) where
  -- the way at one place
  abbrev pub at_place : (place : ℕ) → List Operation
  at_place place = led (score_at place)
      (λ s. way s (first - place * leaves) (min (end - place * leaves) leaves))

  abbrev pub places : ℕ
  places = (end - 1) / leaves + 1 - first / leaves

  -- the way at the first so many places
  abbrev pub so_far : (count : ℕ) → List Operation
  so_far count = flat_map at_place (range_with_len (first / leaves) count)

  pub one_more : (count : ℕ) → so_far (count + 1)
      ≡ so_far count ++ at_place (first / leaves + count)
  one_more count =
      ap (flat_map at_place) (range_split (first / leaves) count 1)
      ∙ flat_map-append at_place (range_with_len (first / leaves) count)
      (range_with_len (first / leaves + count) 1)
      ∙ ap (λ (l : List Operation). so_far count ++ l)
      (append-nil (at_place (first / leaves + count)))

  pub the_rest : (count : ℕ) → count ≤ places
      → (rest : List Operation) × (so_far count ++ rest ≡ way_through leaves score_at way first end)
  the_rest count few =
      let m : ℕ = places - count in
      let sum : count + m ≡ places = omega arith in (
        flat_map at_place (range_with_len (first / leaves + count) m),
        sym (flat_map-append at_place (range_with_len (first / leaves) count)
            (range_with_len (first / leaves + count) m))
            ∙ ap (flat_map at_place) (sym (range_split (first / leaves) count m))
            ∙ ap so_far sum,
      )

-- ---- which leaves stand below a place

-- A reading stands at `place * (leaves * dsize) + inside`, inside the tree at a place.
by_leaf : (leaves dsize place n : ℕ) → 0 < dsize
    → (place * (leaves * dsize) + n) / dsize ≡ place * leaves + n / dsize
by_leaf leaves dsize place n some =
    let turned : place * (leaves * dsize) + n ≡ place * leaves * dsize + n = omega arith in
    ap (λ (k : ℕ). k / dsize) turned ∙ mul-add-div_right some (place * leaves) n

-- The first leaf that is wanted there: the reading began there, or goes on at the tree's beginning.
pub first_there : (leaves dsize place inside first : ℕ) → 0 < dsize
    → (first ≡ (place * (leaves * dsize) + inside) / dsize)
    ⊎ ((inside ≡ 0) × (first ≤ place * leaves))
    → first - place * leaves ≡ inside / dsize
first_there leaves dsize place inside first some (inl began) =
    let is : first ≡ place * leaves + inside / dsize =
    began ∙ by_leaf leaves dsize place inside some in
    omega arith
first_there leaves dsize place inside first some (inr goes_on) =
    let none : inside / dsize ≡ 0 =
    ap (λ (k : ℕ). k / dsize) goes_on.0 ∙ nothing dsize in
    omega (arith, goes_on.1)
  where
    nothing : (d : ℕ) → 0 / d ≡ 0
    nothing d = omega arith

-- and the end of those that are wanted there, where so many bytes are left to read
pub end_there : (leaves dsize place inside left end : ℕ) → 0 < dsize → 0 < leaves
    → inside < leaves * dsize → 0 < left
    → end ≡ (place * (leaves * dsize) + inside + left - 1) / dsize + 1
    → min (end - place * leaves) leaves
    ≡ (inside + min (leaves * dsize - inside) left - 1) / dsize + 1
end_there leaves dsize place inside left end some many within go_on is =
    let n : ℕ = inside + left - 1 in
    let sum : place * (leaves * dsize) + inside + left - 1 ≡ place * (leaves * dsize) + n =
    omega arith in
    let there : end ≡ place * leaves + n / dsize + 1 =
    is ∙ ap (λ (k : ℕ). k / dsize + 1) sum
    ∙ ap (λ (k : ℕ). k + 1) (by_leaf leaves dsize place n some) in
    elim (cases_lt n (leaves * dsize)) [
      | inl ends ↦
          let small : n / dsize < leaves = div_below n dsize leaves some ends in
          let most : min (leaves * dsize - inside) left ≡ left = omega arith in
          let same : inside + min (leaves * dsize - inside) left - 1 ≡ n =
          ap (λ (k : ℕ). inside + k - 1) most in
          let low : min (end - place * leaves) leaves ≡ n / dsize + 1 = omega arith in
          low ∙ ap (λ (k : ℕ). k / dsize + 1) (sym same)
      | inr goes_on ↦
          let large : leaves ≤ n / dsize = le-div leaves n dsize some goes_on in
          let most : min (leaves * dsize - inside) left ≡ leaves * dsize - inside = omega arith in
          let last : inside + min (leaves * dsize - inside) left - 1 ≡ leaves * dsize - 1 =
          omega arith in
          let split : leaves * dsize - 1 ≡ (leaves - 1) * dsize + (dsize - 1) =
          last_place leaves dsize many some in
          let whole : (leaves * dsize - 1) / dsize ≡ leaves - 1 =
          ap (λ (k : ℕ). k / dsize) split
          ∙ div-mul-add (leaves - 1) dsize (dsize - 1) (omega arith) in
          let high : min (end - place * leaves) leaves ≡ leaves = omega arith in
          let one : leaves ≡ leaves - 1 + 1 = omega arith in
          high ∙ one ∙ ap (λ (k : ℕ). k + 1) (sym whole)
          ∙ ap (λ (k : ℕ). k / dsize + 1) (sym last)
    ]
  where
    last_place : (l d : ℕ) → 0 < l → 0 < d → l * d - 1 ≡ (l - 1) * d + (d - 1)
    last_place zero d l_some d_some = absurd (omega arith)
    last_place (suc l) d l_some d_some =
        let one : suc l - 1 ≡ l = omega arith in
        ap (λ (k : ℕ). k - 1) (suc-mul l d) ∙ less (l * d) d d_some
        ∙ ap (λ (k : ℕ). k * d + (d - 1)) (sym one)
      where
        less : (a b : ℕ) → 0 < b → a + b - 1 ≡ a + (b - 1)
        less a b some = omega arith
