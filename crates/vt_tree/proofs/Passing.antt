-- A pointer block's scores are passed one after another.
use Rattle.std.proofs.Common.{◌≡◌, ◌⊎◌, ℕ, ◌+◌, ◌-◌, ◌*◌, ◌/◌, ◌%◌, ◌<◌, ◌≤◌, ◌^◌, inl, inr, min, Result, Ok, Err, List, [], ◌++◌, refl, sym, ◌∙◌, ap, subst, arith, append-nil}
use Rattle.std.proofs.Math.Nat.{mod-lt}
use Rattle.std.proofs.lemmas.Nat.{div-mul-add, mod-mul-add, div_below}
use Rattle.vt_base.specs.Protocol.{Operation}
use Rattle.vt_tree.specs.declared.error.TreeErr.{TreeErr}
use Rattle.vt_tree.specs.declared.entry.Entry.{Entry}
use Rattle.vt_tree.specs.Calls.{Call}
use Rattle.vt_tree.specs.Content.{led, score_in, scores_in, way_below, way_through}
use Rattle.vt_tree.specs.Maps.{BlockMap}
use Rattle.vt_tree.specs.Walking.{AppendsRange, ReadsEach, ReadsAt, byte_under}
use Rattle.vt_tree.proofs.Appending.{known, same_way, joined, given_up}
use Rattle.vt_tree.proofs.Places.{child_of}
use Rattle.vt_tree.proofs.Powers.{product_some}
use Rattle.vt_tree.proofs.Ways.{so_far, one_more, the_rest, first_there, end_there}

-- ---- the numbers of a turn: p leaves of d bytes stand below each score

module _ (p d : ℕ) (p_some : 0 < p) (d_some : 0 < d) where
  span_some : 0 < p * d
  span_some = product_some p d p_some d_some

  split : (n : ℕ) → n ≡ n / (p * d) * (p * d) + n % (p * d)
  split n = of n (p * d) span_some
    where
      of : (n k : ℕ) → 0 < k → n ≡ n / k * k + n % k
      of n k some = omega arith

  inside_small : (n : ℕ) → n % (p * d) < p * d
  inside_small n = mod-lt n span_some

  -- the place of a byte that stands in the same tree
  same_place : (n j : ℕ) → n % (p * d) + j < p * d → (n + j) / (p * d) ≡ n / (p * d)
  same_place n j small =
      let sum : n + j ≡ n / (p * d) * (p * d) + (n % (p * d) + j) = omega (arith, split n) in
      ap (λ (k : ℕ). k / (p * d)) sum
      ∙ div-mul-add (n / (p * d)) (p * d) (n % (p * d) + j) small

  -- what begins the next tree
  next_begins : (n j : ℕ) → n % (p * d) + j ≡ p * d
      → ((n + j) / (p * d) ≡ n / (p * d) + 1) × ((n + j) % (p * d) ≡ 0)
  next_begins n j whole =
      let q : ℕ = n / (p * d) in
      let first : n + j ≡ q * (p * d) + p * d = omega (arith, split n, whole) in
      let sum : n + j ≡ (q + 1) * (p * d) + 0 = first ∙ more q (p * d) in (
        ap (λ (k : ℕ). k / (p * d)) sum ∙ div-mul-add (q + 1) (p * d) 0 span_some,
        ap (λ (k : ℕ). k % (p * d)) sum ∙ mod-mul-add (q + 1) (p * d) 0 span_some,
      )
    where
      more : (a b : ℕ) → a * b + b ≡ (a + 1) * b + 0
      more a b = omega arith

  -- a place isn't behind that of a later byte
  place_grows : (m n : ℕ) → m ≤ n → m / (p * d) ≤ n / (p * d)
  place_grows m n few =
      let small : n / (p * d) * (p * d) + n % (p * d)
      < n / (p * d) * (p * d) + p * d = omega (arith, inside_small n) in
      let below : m < (n / (p * d) + 1) * (p * d) =
      omega (arith, split n, grown (n / (p * d)) (p * d)) in
      let at : m / (p * d) < n / (p * d) + 1 =
      div_below m (p * d) (n / (p * d) + 1) span_some below in
      omega arith
    where
      grown : (a b : ℕ) → (a + 1) * b ≡ a * b + b
      grown a b = omega arith

  -- a byte before a tree has its leaf before it
  leaf_before : (m place : ℕ) → m ≤ place * (p * d) → m / d ≤ place * p
  leaf_before m place few =
      let product : place * (p * d) ≡ place * p * d = product_of place p d in
      let more : place * p * d < (place * p + 1) * d = of (place * p) d d_some in
      let below : m < (place * p + 1) * d = omega arith in
      let at : m / d < place * p + 1 = div_below m d (place * p + 1) d_some below in
      omega arith
    where
      product_of : (a b c : ℕ) → a * (b * c) ≡ a * b * c
      product_of a b c = omega arith

      of : (a b : ℕ) → 0 < b → a * b < (a + 1) * b
      of a b some = omega arith

module _ {S : Type 0} (does : S → Call → S → Type 0) (score_of : List ℕ → List ℕ) (e : Entry)
    (d : ℕ) (pointers : List ℕ) (from len : ℕ) where
  abbrev pub leaves : ℕ
  leaves = scores_in e.psize ^ d

  abbrev pub end : ℕ
  end = (from + len - 1) / e.dsize + 1

  -- the way at the first so many scores
  abbrev pub way_so : (count : ℕ) → BlockMap → List Operation
  way_so count blocks = so_far leaves (λ place. Ok (score_in pointers place))
      (way_below (score_of []) blocks e d) (from / e.dsize) end count

  abbrev pub places : ℕ
  places = (end - 1) / leaves + 1 - from / e.dsize / leaves

  -- What was read of them so far: the next byte stands where the reading began, or where a tree
  -- begins.
  pub record SoFar (s s' : S) (at left : ℕ) (old new : List ℕ) : Type 0 where
    pub within : left ≤ len
    pub place : at ≡ from + (len - left)
    pub count : ℕ
    pub part : AppendsRange does score_of e s s' (λ blocks p. byte_under blocks e d pointers p)
        (way_so count) from (len - left) old new (Ok tt)
    pub next : 0 < left → from / e.dsize / leaves + count ≡ at / (leaves * e.dsize)
    pub edge : 0 < left → (left ≡ len) ⊎ (at % (leaves * e.dsize) ≡ 0)
    pub last : left ≡ 0 → count ≡ places

  module _ (some : 0 < len) (p_some : 0 < scores_in e.psize ^ d) (d_some : 0 < e.dsize) where
    pub begin : (s : S) (old : List ℕ) → SoFar s s from len old old
    begin s old = record {
      within = omega arith;
      place = all from len;
      count = 0;
      part = known does score_of e s (λ blocks p. byte_under blocks e d pointers p) (way_so 0) from
          (len - len) old old [] (Ok tt) (sym (append-nil old)) (none len)
          (λ blocks once i within. absurd (omega arith)) (λ blocks. refl);
      next = λ goes_on. by_zero (from / e.dsize / leaves) ∙ sym (child_of from leaves e.dsize);
      edge = λ goes_on. inl refl;
      last = λ over. absurd (omega arith);
    }
      where
        all : (a b : ℕ) → a ≡ a + (b - b)
        all a b = omega arith

        none : (n : ℕ) → 0 ≡ n - n
        none n = omega arith

        by_zero : (k : ℕ) → k + 0 ≡ k
        by_zero k = omega arith

    module _ (s mid s' : S) (at left most : ℕ) (old half new : List ℕ) (goes_on : 0 < left)
        (is : most ≡ min (leaves * e.dsize - at % (leaves * e.dsize)) left)
        (so : SoFar s mid at left old half) where
      abbrev span : ℕ
      span = leaves * e.dsize

      abbrev inside : ℕ
      inside = at % span

      abbrev here : ℕ
      here = at / span

      at_is : at ≡ here * span + inside
      at_is = split leaves e.dsize p_some d_some at

      small : inside < span
      small = inside_small leaves e.dsize p_some d_some at

      sum : at + left ≡ from + len
      sum =
          let within = so.within in
          let place = so.place in
          omega arith

      -- the blocks that are asked for there
      abbrev way_at : BlockMap → List Operation
      way_at blocks = led (Ok (score_in pointers here))
          (λ t. way_below (score_of []) blocks e d t (inside / e.dsize)
          ((inside + most - 1) / e.dsize + 1))

      first_is : from / e.dsize - here * leaves ≡ inside / e.dsize
      first_is = first_there leaves e.dsize here inside (from / e.dsize) d_some (began so.edge)
        where
          began : (0 < left → (left ≡ len) ⊎ (inside ≡ 0))
              → (from / e.dsize ≡ (here * span + inside) / e.dsize)
              ⊎ ((inside ≡ 0) × (from / e.dsize ≤ here * leaves))
          began edge = elim (edge goes_on) [
            | inl whole ↦
                let place = so.place in
                let same : from ≡ at = omega arith in
                inl (ap (λ (k : ℕ). k / e.dsize) (same ∙ at_is))
            | inr none ↦
                let place = so.place in
                let behind : from ≤ here * span = omega (arith, at_is) in
                inr (none, leaf_before leaves e.dsize p_some d_some from here behind)
          ]

      end_is : min (end - here * leaves) leaves ≡ (inside + most - 1) / e.dsize + 1
      end_is =
          let whole : from + len - 1 ≡ here * span + inside + left - 1 =
          omega (arith, sum, at_is) in
          end_there leaves e.dsize here inside left end d_some p_some small goes_on
          (ap (λ (k : ℕ). k / e.dsize + 1) whole)
          ∙ ap (λ (k : ℕ). (inside + k - 1) / e.dsize + 1) (sym is)

      one_way : (blocks : BlockMap)
          → way_so so.count blocks ++ way_at blocks ≡ way_so (so.count + 1) blocks
      one_way blocks =
          ap (λ (l : List Operation). way_so so.count blocks ++ l) (same (so.next goes_on))
          ∙ sym (one_more leaves (λ place. Ok (score_in pointers place))
          (way_below (score_of []) blocks e d) (from / e.dsize) end so.count)
        where
          same : from / e.dsize / leaves + so.count ≡ here
              → way_at blocks
              ≡ led (Ok (score_in pointers (from / e.dsize / leaves + so.count)))
              (λ t. way_below (score_of []) blocks e d t
              (from / e.dsize - (from / e.dsize / leaves + so.count) * leaves)
              (min (end - (from / e.dsize / leaves + so.count) * leaves) leaves))
          same next =
              (λ i. led (Ok (score_in pointers here))
              (λ t. way_below (score_of []) blocks e d t (sym first_is i) (sym end_is i)))
              ∙ ap (λ (k : ℕ). led (Ok (score_in pointers k))
              (λ t. way_below (score_of []) blocks e d t (from / e.dsize - k * leaves)
              (min (end - k * leaves) leaves))) (sym next)

      -- the last leaf's tree, in the reading's last turn and before
      last_here : from + len - 1 ≡ at + (left - 1)
      last_here = omega (arith, sum)

      few : so.count + 1 ≤ places
      few =
          let next = so.next goes_on in
          let grows : at / span ≤ (from + len - 1) / span =
          place_grows leaves e.dsize p_some d_some at (from + len - 1)
          (omega (arith, last_here)) in
          let by_leaf : (from + len - 1) / span ≡ (from + len - 1) / e.dsize / leaves =
          child_of (from + len - 1) leaves e.dsize in
          let one : end - 1 ≡ (from + len - 1) / e.dsize = less_one ((from + len - 1) / e.dsize) in
          let same : (end - 1) / leaves ≡ (from + len - 1) / e.dsize / leaves =
          ap (λ (k : ℕ). k / leaves) one in
          omega arith
        where
          less_one : (k : ℕ) → k + 1 - 1 ≡ k
          less_one k = omega arith

      moved : most ≤ left
      moved = omega (arith, is)

      part_there : (n : Result (Unit {0}) TreeErr) → (m : ℕ) → m ≡ at
          → AppendsRange does score_of e mid s' (λ blocks p. byte_under blocks e d pointers p) way_at at
          most half new n
          → AppendsRange does score_of e mid s' (λ blocks p. byte_under blocks e d pointers p) way_at m
          most half new n
      part_there n m same part = subst (λ (k : ℕ). AppendsRange does score_of e mid s'
          (λ blocks p. byte_under blocks e d pointers p) way_at k most half new n) (sym same) part

      pub step : ReadsAt does score_of mid s' e d pointers at most half new (Ok tt)
          → SoFar s s' (at + most) (left - most) old new
      step part = record {
        within = omega (arith, so.within);
        place = let place = so.place in
            let within = so.within in
            omega (arith, moved);
        count = so.count + 1;
        part = subst (λ (k : ℕ). AppendsRange does score_of e s s'
            (λ blocks p. byte_under blocks e d pointers p) (way_so (so.count + 1)) from k old new
            (Ok tt)) lens
            (same_way does score_of e s s' (λ blocks p. byte_under blocks e d pointers p)
            (λ blocks. way_so so.count blocks ++ way_at blocks) (way_so (so.count + 1)) from
            (len - left + most) old new (Ok tt) one_way
            (joined does score_of e s mid s' (λ blocks p. byte_under blocks e d pointers p)
            (way_so so.count) way_at from (len - left) most old half new so.part
            (part_there (Ok tt) (from + (len - left)) (sym so.place) part)));
        next = λ more.
            let next = so.next goes_on in
            let begins = next_begins leaves e.dsize p_some d_some at most (full more) in
            omega (arith, begins.0);
        edge = λ more.
            inr (next_begins leaves e.dsize p_some d_some at most (full more)).1;
        last = λ over.
            let next = so.next goes_on in
            let there : (from + len - 1) / span ≡ at / span =
            ap (λ (k : ℕ). k / span) last_here
            ∙ same_place leaves e.dsize p_some d_some at (left - 1) (ends over) in
            let by_leaf : (from + len - 1) / span ≡ (from + len - 1) / e.dsize / leaves =
            child_of (from + len - 1) leaves e.dsize in
            let same : (end - 1) / leaves ≡ (from + len - 1) / e.dsize / leaves =
            ap (λ (k : ℕ). k / leaves) (less_one ((from + len - 1) / e.dsize)) in
            omega arith;
      }
        where
          less_one : (k : ℕ) → k + 1 - 1 ≡ k
          less_one k = omega arith

          lens : len - left + most ≡ len - (left - most)
          lens = let within = so.within in omega (arith, moved)

          full : 0 < left - most → inside + most ≡ span
          full more = omega (arith, is, small)

          ends : left - most ≡ 0 → inside + (left - 1) < span
          ends over = omega (arith, is, small, goes_on)

      pub stop : (err : TreeErr)
          → ReadsAt does score_of mid s' e d pointers at most half new (Err err)
          → ReadsEach does score_of s s' e d pointers from len old new (Err err)
      stop err part =
          given_up does score_of e s mid s' (λ blocks p. byte_under blocks e d pointers p)
          (way_so so.count) way_at
          (λ blocks. way_through leaves (λ place. Ok (score_in pointers place))
          (way_below (score_of []) blocks e d) (from / e.dsize) end)
          from (len - left) most len old half new err
          (let within = so.within in omega (arith, moved))
          (λ blocks.
          let rest = the_rest leaves (λ place. Ok (score_in pointers place))
          (way_below (score_of []) blocks e d) (from / e.dsize) end (so.count + 1) few in
          (rest.0, ap (λ (l : List Operation). l ++ rest.0) (one_way blocks) ∙ rest.1))
          so.part (part_there (Err err) (from + (len - left)) (sym so.place) part)

    pub finish : (s s' : S) (at left : ℕ) (old new : List ℕ) → left ≡ 0
        → SoFar s s' at left old new
        → ReadsEach does score_of s s' e d pointers from len old new (Ok tt)
    finish s s' at left old new over so =
        subst (λ (k : ℕ). AppendsRange does score_of e s s'
        (λ blocks p. byte_under blocks e d pointers p) (way_so places) from k old new (Ok tt))
        (ap (λ (k : ℕ). len - k) over ∙ whole len)
        (same_way does score_of e s s' (λ blocks p. byte_under blocks e d pointers p)
        (way_so so.count) (way_so places) from (len - left) old new (Ok tt)
        (λ blocks. ap (λ (k : ℕ). way_so k blocks) (so.last over)) so.part)
      where
        whole : (n : ℕ) → n - 0 ≡ n
        whole n = omega arith
