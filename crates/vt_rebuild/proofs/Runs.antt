-- The entries of one bucket, which stand next to each other where they are in the order of buckets.
use Rattle.std.proofs.Common.{◌≡◌, ⊎_elim, ℕ, ◌+◌, ◌-◌, ◌<◌, ◌≤◌, List, length, take, drop, true, false, sym, ◌∙◌, ap, subst, arith, get_or, ltb, leb, ltb-true, lt-ltb, leb-true, le-leb, get_or-take, get_or-drop, length-take, length-drop}
use Rattle.std.specs.Prelude.{Bool}
use Rattle.std.specs.List.{Contains}
use Rattle.std.specs.List.Sorted.{IsNonDecreasingBy, IsPartitionPoint}
use Rattle.std.proofs.lemmas.Bool.Decides.{leb_tells}

-- those with a number below t stand before `from`, and those with one above it from `to` on
abbrev pub IsFrom : {X : Type 0} → (number : X → ℕ) → (t : ℕ) → List X → (from : ℕ) → Type 0
IsFrom number t xs from = IsPartitionPoint (λ x. ltb (number x) t ≡ true) (λ x. ltb (number x) t ≡ false) xs from

abbrev pub IsTo : {X : Type 0} → (number : X → ℕ) → (t : ℕ) → List X → (to : ℕ) → Type 0
IsTo number t xs to = IsPartitionPoint (λ x. leb (number x) t ≡ true) (λ x. leb (number x) t ≡ false) xs to

not_both : (b : Bool) → b ≡ true → b ≡ false → ⊥
not_both b is isn't = let both : true ≡ false = sym is ∙ isn't in cc

-- what stands behind the first ones is in order, too
pub order_behind : {X : Type 0} (number : X → ℕ) (xs : List X) (from : ℕ) → IsNonDecreasingBy number xs → IsNonDecreasingBy number (drop from xs)
order_behind {X} number xs from order = λ i j d low high.
    let at_i : get_or (drop from xs) i d ≡ get_or xs (from + i) d = get_or-drop from xs i d in
    let at_j : get_or (drop from xs) j d ≡ get_or xs (from + j) d = get_or-drop from xs j d in
    let all : number (get_or xs (from + i) d) ≤ number (get_or xs (from + j) d) = order (from + i) (from + j) d (omega (arith, low)) (omega (arith, high, length-drop from xs)) in
    omega (arith, all, ap number at_i, ap number at_j)

module _ {X : Type 0} (number : X → ℕ) (t : ℕ) (xs : List X) (from count : ℕ) (below : IsFrom number t xs from) (above : IsTo number t (drop from xs) count) where
  at_least : (k : ℕ) (d : X) → from ≤ k → k < length xs → t ≤ number (get_or xs k d)
  at_least k d behind within = ⊎_elim
      (λ yes. yes.1)
      (λ no. absurd (not_both (ltb (number (get_or xs k d)) t) (lt-ltb (number (get_or xs k d)) t no.1) (below.1 k d behind within)))
      (leb_tells t (number (get_or xs k d)))

  less : (k : ℕ) (d : X) → k < from → number (get_or xs k d) < t
  less k d before = ltb-true (number (get_or xs k d)) t (below.0 k d (omega arith) before)

  at_most : (k : ℕ) (d : X) → k < count → number (get_or (drop from xs) k d) ≤ t
  at_most k d before = leb-true (number (get_or (drop from xs) k d)) t (above.0 k d (omega arith) before)

  more : (k : ℕ) (d : X) → count ≤ k → k < length (drop from xs) → t < number (get_or (drop from xs) k d)
  more k d behind within = ⊎_elim
      (λ yes. absurd (not_both (leb (number (get_or (drop from xs) k d)) t) (le-leb (number (get_or (drop from xs) k d)) t yes.1) (above.1 k d behind within)))
      (λ no. no.1)
      (leb_tells (number (get_or (drop from xs) k d)) t)

  -- each of the run is one of them with the number, and each of these is of the run
  pub own_run : (x : X) → Contains (take count (drop from xs)) x → Contains xs x × (number x ≡ t)
  own_run x (k, within, is) =
      let few : k < count = omega (arith, within, length-take count (drop from xs)) in
      let here : k < length (drop from xs) = omega (arith, within, length-take count (drop from xs)) in
      let rest : get_or (drop from xs) k x ≡ x = sym (get_or-take count (drop from xs) k x few) ∙ is in
      let at : get_or xs (from + k) x ≡ x = sym (get_or-drop from xs k x) ∙ rest in
      let inside : from + k < length xs = omega (arith, here, length-drop from xs) in
      let least : t ≤ number x = subst (λ (y : X). t ≤ number y) at (at_least (from + k) x (omega arith) inside) in
      let most : number x ≤ t = subst (λ (y : X). number y ≤ t) rest (at_most k x few) in
      ((from + k, inside, at), omega (arith, least, most))

  pub all_run : (x : X) → Contains xs x → number x ≡ t → Contains (take count (drop from xs)) x
  all_run x (k, within, is) same =
      let here : from ≤ k = ⊎_elim (λ yes. yes.1)
      (λ no. let under : number x < t = subst (λ (y : X). number y < t) is (less k x no.1) in absurd (omega (arith, under, same)))
      (leb_tells from k) in
      let place : from + (k - from) ≡ k = omega (arith, here) in
      let rest : get_or (drop from xs) (k - from) x ≡ x = get_or-drop from xs (k - from) x ∙ ap (λ (j : ℕ). get_or xs j x) place ∙ is in
      let inside : k - from < length (drop from xs) = omega (arith, here, within, length-drop from xs) in
      let before : k - from < count = ⊎_elim
      (λ yes. let over : t < number x = subst (λ (y : X). t < number y) rest (more (k - from) x yes.1 inside) in absurd (omega (arith, over, same)))
      (λ no. no.1)
      (leb_tells count (k - from)) in
      (k - from, omega (arith, before, inside, length-take count (drop from xs)), get_or-take count (drop from xs) (k - from) x before ∙ rest)

-- the same of what stands behind the first ones under another name
module _ {X : Type 0} (number : X → ℕ) (t : ℕ) (xs : List X) (from count : ℕ) (below : IsFrom number t xs from) (ys : List X) (rest : ys ≡ drop from xs)
    (above : IsTo number t ys count) where
  pub own_rest : (x : X) → Contains (take count ys) x → Contains xs x × (number x ≡ t)
  own_rest x has = own_run number t xs from count below (subst (λ (zs : List X). IsTo number t zs count) rest above) x
      (subst (λ (zs : List X). Contains (take count zs) x) rest has)

  pub all_rest : (x : X) → Contains xs x → number x ≡ t → Contains (take count ys) x
  all_rest x has same = subst (λ (zs : List X). Contains (take count zs) x) (sym rest)
      (all_run number t xs from count below (subst (λ (zs : List X). IsTo number t zs count) rest above) x has same)
