-- Arenas in a partition and in a layout.
use Rattle.std.proofs.Common.{◌≡◌, inl, inr, ℕ, zero, suc, ◌+◌, ◌-◌, ◌*◌, ◌%◌, ◌<◌, ◌≤◌, Some, List, [], ◌∷◌, ◌++◌, refl, sym, ◌∙◌, ap, subst, arith, add-zero, length-append}
use Rattle.std.specs.Prelude.{map, flat_map, slice_get, All, AllPairs, Contains, length, sum_by}
use Rattle.std.specs.List.{range_with_len, enumerate_from}
use Rattle.std.proofs.Math.Nat.{mul-le-mul_right, mul_comm, add-mul, sub-zero}
use Rattle.std.proofs.lemmas.Bool.Decides.{nat_tests}
use Rattle.std.proofs.lemmas.List.Elements.{All-nil, All-append, All-map, All-weaker, Contains-append_left, Contains-append_right}
use Rattle.std.proofs.lemmas.List.{length-map}
use Rattle.std.proofs.lemmas.List.Sums.{sum_by-cons}
use Rattle.std.proofs.lemmas.List.FromFn.{length-range_with_len, get_or-range_with_len, get_or-map-range_with_len}
use Rattle.std.proofs.lemmas.List.Kept.{AllPairs-cons}
use Rattle.vt_disk.specs.Disk.{IsAligned}
use Rattle.vt_disk.proofs.Bytes.{aligned_sum, aligned_product}
use Rattle.vt_part.specs.declared.layout.ArenaRegion.{ArenaRegion}
use Rattle.vt_part.specs.Laws.{ArenasFollow, ArenasAreAligned, IsArenaOfTable, IsBefore, LayoutsHaveArenas, LayoutsListArenas, LayoutsHaveLengths, LayoutsAreInOrder}
use Rattle.vt_part.specs.Layout.{arena_of, arenas_of_table}
use Rattle.vt_part.specs.Table.{Table, IsArenaSize}

aligned_size : (n : ℕ) → IsArenaSize n → IsAligned n
aligned_size n is = let blocks : n % 8192 ≡ 0 = grind (arith, nat_tests) in omega arith

pub arenas_are_aligned : ArenasAreAligned
arenas_are_aligned t i is =
    let size : IsAligned t.arena_size = aligned_size t.arena_size is.arena_size in (
      aligned_sum 8192 (i * t.arena_size) refl
          (subst IsAligned (mul_comm t.arena_size i) (aligned_product t.arena_size i size)),
      size,
    )

pub arenas_follow : ArenasFollow
arenas_follow t i j less =
    let some : (i + 1) * t.arena_size ≤ j * t.arena_size = mul-le-mul_right t.arena_size
    (omega arith) in
    omega (arith, some, add-mul i 1 t.arena_size)

-- numbers from a on
range_within : (a n : ℕ) → All (λ k. (a ≤ k) × (k < a + n)) (range_with_len a n)
range_within a n k d within =
    let short : k < n = omega (arith, within, length-range_with_len a n) in
    rw (get_or-range_with_len a n k d short) (omega arith, omega arith)

-- an arena of these partitions, the first of which has this number
abbrev IsArenaFrom : (q : ℕ) → List Table → ArenaRegion → Type 0
IsArenaFrom q tables e = (q ≤ e.part) × ((t : Table) × (slice_get tables (e.part - q) ≡ Some t)
    × (e.number < t.count) × (e ≡ arena_of e.part t e.number))

abbrev numbered_arenas : ℕ × Table → List ArenaRegion
numbered_arenas numbered = arenas_of_table numbered.0 numbered.1

arenas_from : (q : ℕ) (tables : List Table)
    → All (IsArenaFrom q tables) (flat_map numbered_arenas (enumerate_from q tables))
arenas_from q [] = All-nil (IsArenaFrom q [])
arenas_from q (t ∷ tables) =
    All-append (IsArenaFrom q (t ∷ tables)) (arenas_of_table q t) _
    (All-map (IsArenaFrom q (t ∷ tables)) (arena_of q t) (range_with_len 0 t.count)
    (All-weaker (λ k. (0 ≤ k) × (k < 0 + t.count)) (λ k. IsArenaFrom q (t ∷ tables)
    (arena_of q t k))
    here _ (range_within 0 t.count)))
    (All-weaker (IsArenaFrom (q + 1) tables) (IsArenaFrom q (t ∷ tables)) later _
    (arenas_from (q + 1) tables))
  where
    here : (k : ℕ) → (0 ≤ k) × (k < 0 + t.count) → IsArenaFrom q (t ∷ tables) (arena_of q t k)
    here k within =
        let none : q - q ≡ 0 = omega arith in (
          omega arith,
          (
            t,
            ap (λ (i : ℕ). slice_get (t ∷ tables) i) none,
            omega
                (arith, within),
            refl,
          ),
        )

    later : (e : ArenaRegion) → IsArenaFrom (q + 1) tables e → IsArenaFrom q (t ∷ tables) e
    later e is =
        let one_more : e.part - q ≡ suc (e.part - (q + 1)) = omega (arith, is.0) in (
          omega (arith, is.0),
          (is.1.0, ap (λ (i : ℕ). slice_get (t ∷ tables) i) one_more ∙ is.1.1, is.1.2, is.1.3),
        )

pub layouts_have_arenas : LayoutsHaveArenas
layouts_have_arenas tables =
    All-weaker (IsArenaFrom 0 tables) (IsArenaOfTable tables)
    (λ e is. (is.1.0, rw sub-zero at is.1.1, is.1.2, is.1.3)) _ (arenas_from 0 tables)

-- the arenas of a partition, before those of later ones
in_order_before : (q : ℕ) (t : Table) (rest : List ArenaRegion) → AllPairs IsBefore rest
    → All (λ e. q < e.part) rest
    → (a n : ℕ) → AllPairs IsBefore (map (arena_of q t) (range_with_len a n) ++ rest)
in_order_before q t rest order behind a zero = order
in_order_before q t rest order behind a (suc n) =
    AllPairs-cons IsBefore (arena_of q t a) (map (arena_of q t) (range_with_len (a + 1) n) ++ rest)
    (All-append (IsBefore (arena_of q t a)) (map (arena_of q t) (range_with_len (a + 1) n)) rest
    (All-map (IsBefore (arena_of q t a)) (arena_of q t) (range_with_len (a + 1) n)
    (All-weaker (λ k. (a + 1 ≤ k) × (k < a + 1 + n)) (λ k. IsBefore (arena_of q t a)
    (arena_of q t k))
    (λ k within. inr (refl, arenas_follow t a k (omega (arith, within.0)))) _ (range_within
    (a + 1) n)))
    (All-weaker (λ e. q < e.part) (IsBefore (arena_of q t a)) (λ e less. inl less) rest behind))
    (in_order_before q t rest order behind (a + 1) n)

in_order : (q : ℕ) (tables : List Table)
    → AllPairs IsBefore (flat_map numbered_arenas (enumerate_from q tables))
in_order q [] = λ i j d less within. absurd (omega (arith, within))
in_order q (t ∷ tables) =
    let rest : List ArenaRegion = flat_map numbered_arenas (enumerate_from (q + 1) tables) in
    in_order_before q t rest (in_order (q + 1) tables)
    (All-weaker (IsArenaFrom (q + 1) tables) (λ e. q < e.part) (λ e is. omega (arith, is.0)) rest
    (arenas_from (q + 1) tables))
    0 t.count

-- an arena is among those of its partition, and they among all
listed_from : (q : ℕ) (tables : List Table) (i number : ℕ) (t : Table)
    → slice_get tables i ≡ Some t → number < t.count
    → Contains (flat_map numbered_arenas (enumerate_from q tables)) (arena_of (q + i) t number)
listed_from q [] i number t found within = absurd (cc)
listed_from q (s ∷ tables) zero number t found within =
    let same : s ≡ t = cc in
    let here : ArenaRegion = arena_of (q + 0) t number in
    let short : number < s.count = subst (λ (u : Table). number < u.count) (sym same) within in
    Contains-append_left (arenas_of_table q s) (flat_map numbered_arenas (enumerate_from (q + 1) tables))
    here (
      number,
      omega (
        arith,
        short,
        length-range_with_len 0 s.count,
        length-map (range_with_len 0 s.count) (arena_of q s),
      ),
      get_or-map-range_with_len (arena_of q s) 0 s.count number number here short (omega arith)
          ∙ (λ j. arena_of (sym (add-zero q) j) (same j) number),
    )
listed_from q (s ∷ tables) (suc i) number t found within =
    Contains-append_right (arenas_of_table q s) (flat_map numbered_arenas (enumerate_from (q + 1) tables))
    (arena_of (q + suc i) t number)
    (subst (λ (k : ℕ). Contains (flat_map numbered_arenas (enumerate_from (q + 1) tables))
    (arena_of k t number)) (omega arith) (listed_from (q + 1) tables i number t found within))

pub layouts_list_arenas : LayoutsListArenas
layouts_list_arenas tables part number t found within =
    subst (λ (k : ℕ). Contains (flat_map numbered_arenas (enumerate_from 0 tables))
    (arena_of k t number)) (omega arith) (listed_from 0 tables part number t found within)

lengths_from : (q : ℕ) (tables : List Table)
    → length (flat_map numbered_arenas (enumerate_from q tables)) ≡ sum_by (λ t. t.count) tables
lengths_from q [] = refl
lengths_from q (t ∷ tables) =
    length-append (arenas_of_table q t) (flat_map numbered_arenas (enumerate_from (q + 1) tables))
    ∙ (λ j. (length-map (range_with_len 0 t.count) (arena_of q t)
    ∙ length-range_with_len 0 t.count) j + lengths_from (q + 1) tables j)
    ∙ sym (sum_by-cons (λ (u : Table). u.count) t tables)

pub layouts_have_lengths : LayoutsHaveLengths
layouts_have_lengths tables = lengths_from 0 tables

pub layouts_are_in_order : LayoutsAreInOrder
layouts_are_in_order tables = in_order 0 tables
