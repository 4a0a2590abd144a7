-- Lists that are cut into pieces, and lists whose ends are dropped.
use Rattle.std.proofs.Common.{◌≡◌, ℕ, zero, suc, ◌+◌, ◌-◌, ◌*◌, ◌/◌, ◌%◌, ◌<◌, ◌≤◌, inl, inr, Bool, true, List, [], ◌∷◌, ◌++◌, length, map, take, drop, get_or, reverse, refl, sym, ◌∙◌, ap, arith, length-drop, length-append}
use Rattle.std.specs.List.{range_with_len, suffix_len, flat_map, All}
use Rattle.std.proofs.Math.Nat.{mul-le-mul_left, mul_comm, mul-add, mul-zero, mod-lt, div-add-mod'}
use Rattle.std.proofs.lemmas.Bool.{cases_lt}
use Rattle.std.proofs.lemmas.List.{get_or-take, get_or-drop, get_or_past, get_or-reverse, take_all, length-take-le, take-append-le, take_at, drop_at, drop-drop, drop-append-le, ext_get_or, get_or_append_left, get_or-append_right}
use Rattle.std.proofs.lemmas.List.Elements.{All-head, All-tail}
use Rattle.std.proofs.lemmas.List.FromFn.{length-map-range_with_len, get_or-map-range_with_len}
use Rattle.std.proofs.lemmas.Nat.{div-mul-add}
use Rattle.std.proofs.lemmas.List.Sums.{prefix_len_passes, suffix_len-le-length}
use Rattle.vt_tree.specs.Streams.{pieces_of_len, without_end}

-- ---- pieces

-- how many pieces there are
abbrev pub count_of : {A : Type 0} (len : ℕ) (xs : List A) → ℕ
count_of len xs = (length xs + (len - 1)) / len

pub length-pieces : {A : Type 0} (len : ℕ) (xs : List A) → length (pieces_of_len len xs) ≡ count_of len xs
length-pieces len xs =
    length-map-range_with_len (λ i. take len (drop (len * i) xs)) 0 (count_of len xs)

pub piece_at : {A : Type 0} (len : ℕ) (xs : List A) (i : ℕ) (d : List A) → i < count_of len xs
    → get_or (pieces_of_len len xs) i d ≡ take len (drop (len * i) xs)
piece_at len xs i d within =
    get_or-map-range_with_len (λ k. take len (drop (len * k) xs)) 0 (count_of len xs) i i d within
    (omega arith)

-- the pieces reach as far as the list does, and no further
pub pieces_reach : {A : Type 0} (len : ℕ) (xs : List A) → 0 < len
    → length xs ≤ len * count_of len xs
pieces_reach len xs some = omega arith

pub no_piece_past : {A : Type 0} (len : ℕ) (xs : List A) (i : ℕ) → 0 < len → count_of len xs ≤ i
    → length xs ≤ len * i
no_piece_past len xs i some past =
    omega (arith, pieces_reach len xs some, mul-le-mul_left len past)

-- so many pieces cover a list that is no longer than they are together
pub pieces_fit : {A : Type 0} (len n : ℕ) (xs : List A) → 0 < len → length xs ≤ len * n
    → count_of len xs ≤ n
pieces_fit len n xs some fits = elim (cases_lt n (count_of len xs)) [
  | inl more ↦
      let enough : suc n ≤ count_of len xs = omega arith in
      let scaled : len * suc n ≤ len * count_of len xs = mul-le-mul_left len enough in
      absurd (omega arith)
  | inr fits ↦ fits
]

-- an element of a list, by its piece
pub element_at : {A : Type 0} (len : ℕ) (xs : List A) (i : ℕ) (d : A) → 0 < len
    → get_or (get_or (pieces_of_len len xs) (i / len) []) (i % len) d ≡ get_or xs i d
element_at {A} len xs i d some = elim (cases_lt (i / len) (count_of len xs)) [
  | inl within ↦
      let small : i % len < len = omega arith in
      let sum : len * (i / len) + i % len ≡ i = omega arith in
      ap (λ (piece : List A). get_or piece (i % len) d) (piece_at len xs (i / len) [] within)
      ∙ get_or-take len (drop (len * (i / len)) xs) (i % len) d small
      ∙ get_or-drop (len * (i / len)) xs (i % len) d
      ∙ ap (λ (k : ℕ). get_or xs k d) sum
  | inr past ↦
      let out : length xs ≤ i = omega (arith, no_piece_past len xs (i / len) some past) in
      let none : get_or (pieces_of_len len xs) (i / len) [] ≡ [] =
      get_or_past (pieces_of_len len xs) (i / len) [] (omega (arith, length-pieces len xs)) in
      ap (λ (piece : List A). get_or piece (i % len) d) none ∙ sym (get_or_past xs i d out)
]

-- ---- a list without its end

-- what stands in the end passes the test
pub end_passes : {A : Type 0} (p : A → Bool) (xs : List A) (k : ℕ) (d : A)
    → length xs - suffix_len p xs ≤ k → k < length xs → p (get_or xs k d) ≡ true
end_passes p xs k d from within =
    let j : ℕ = length xs - 1 - k in
    let inside : j < suffix_len p xs = omega (arith, suffix_len-le-length p xs) in
    let short : j < length xs = omega arith in
    let back : length xs - 1 - j ≡ k = omega arith in
    ap p (sym (get_or-reverse xs j d short ∙ ap (λ (n : ℕ). get_or xs n d) back))
    ∙ prefix_len_passes p (reverse xs) j d inside

pub length-without_end : {A : Type 0} (p : A → Bool) (xs : List A)
    → length (without_end p xs) ≡ length xs - suffix_len p xs
length-without_end p xs = length-take-le (length xs - suffix_len p xs) xs (omega arith)

-- an element of what is left is that of the list
pub left_at : {A : Type 0} (p : A → Bool) (xs : List A) (k : ℕ) (d : A)
    → k < length (without_end p xs) → get_or (without_end p xs) k d ≡ get_or xs k d
left_at p xs k d within =
    get_or-take (length xs - suffix_len p xs) xs k d (omega (arith, length-without_end p xs))

-- ---- scores one behind another

pub length-scores : (scores : List (List ℕ)) → All (λ (s : List ℕ). length s ≡ 20) scores
    → length (flat_map (λ (s : List ℕ). s) scores) ≡ 20 * length scores
length-scores [] each = omega arith
length-scores (s ∷ scores) each =
    let first : length s ≡ 20 = All-head (λ (s : List ℕ). length s ≡ 20) s scores each in
    let others = length-scores scores (All-tail (λ (s : List ℕ). length s ≡ 20) s scores each) in
    omega (arith, length-append s (flat_map (λ (s : List ℕ). s) scores), first, others)

pub score_at : (scores : List (List ℕ)) (i : ℕ) → All (λ (s : List ℕ). length s ≡ 20) scores
    → i < length scores
    → take 20 (drop (20 * i) (flat_map (λ (s : List ℕ). s) scores)) ≡ get_or scores i []
score_at [] i each within = absurd (omega arith)
score_at (s ∷ scores) zero each within =
    let first : length s ≡ 20 = All-head (λ (s : List ℕ). length s ≡ 20) s scores each in
    take_at s (flat_map (λ (s : List ℕ). s) scores) 20 first
score_at (s ∷ scores) (suc i) each within =
    let first : length s ≡ 20 = All-head (λ (s : List ℕ). length s ≡ 20) s scores each in
    let rest : List ℕ = flat_map (λ (s : List ℕ). s) scores in
    let sum : 20 * suc i ≡ 20 + 20 * i = omega arith in
    ap (λ (n : ℕ). take 20 (drop n (s ++ rest))) sum
    ∙ ap (λ (l : List ℕ). take 20 l)
    (sym (drop-drop (20 * i) 20 (s ++ rest))
    ∙ ap (λ (l : List ℕ). drop (20 * i) l) (drop_at s rest 20 first))
    ∙ score_at scores i (All-tail (λ (s : List ℕ). length s ≡ 20) s scores each) (omega arith)

-- ---- pieces of two lists

-- where the first has whole pieces alone, those of the second stand behind them
pub pieces_join : {A : Type 0} (len : ℕ) (xs ys : List A) (n : ℕ) → 0 < len
    → length xs ≡ len * n → pieces_of_len len (xs ++ ys) ≡ pieces_of_len len xs ++ pieces_of_len len ys
pieces_join {A} len xs ys n some whole =
    ext_get_or [] (pieces_of_len len (xs ++ ys)) (pieces_of_len len xs ++ pieces_of_len len ys) counts each
  where
    before : count_of len xs ≡ n
    before =
        ap (λ (k : ℕ). (k + (len - 1)) / len) (whole ∙ mul_comm len n)
        ∙ div-mul-add n len (len - 1) (omega arith)

    -- the remainder of the sum is that of the second
    both : count_of len (xs ++ ys) ≡ n + count_of len ys
    both =
        let r : ℕ = (length ys + (len - 1)) % len in
        let m : ℕ = count_of len ys in
        let small : r < len = mod-lt (length ys + (len - 1)) some in
        let split : length ys + (len - 1) ≡ m * len + r =
        sym (div-add-mod' (length ys + (len - 1)) len) in
        let sum : length (xs ++ ys) + (len - 1) ≡ (n + m) * len + r =
        omega (arith, length-append xs ys, whole, split) in
        ap (λ (k : ℕ). k / len) sum ∙ div-mul-add (n + m) len r small

    counts : length (pieces_of_len len (xs ++ ys)) ≡ length (pieces_of_len len xs ++ pieces_of_len len ys)
    counts =
        omega (
          arith,
          length-pieces len (xs ++ ys),
          length-pieces len xs,
          length-pieces len ys,
          length-append (pieces_of_len len xs) (pieces_of_len len ys),
          before,
          both,
        )

    each : (i : ℕ) → i < length (pieces_of_len len (xs ++ ys))
        → get_or (pieces_of_len len (xs ++ ys)) i [] ≡ get_or (pieces_of_len len xs ++ pieces_of_len len ys) i []
    each i within =
        piece_at len (xs ++ ys) i [] (omega (arith, length-pieces len (xs ++ ys)))
        ∙ elim (cases_lt i n) [
          | inl front ↦
              let scaled : len * suc i ≤ len * n = mul-le-mul_left len front in
              let reached : len * i + len ≤ length xs = omega (arith, whole) in
              let short : i < length (pieces_of_len len xs) =
              omega (arith, length-pieces len xs, before) in
              ap (λ (l : List A). take len l) (drop-append-le (len * i) xs ys (omega arith))
              ∙ take-append-le len (drop (len * i) xs) ys
              (omega (arith, length-drop (len * i) xs))
              ∙ sym (piece_at len xs i [] (omega (arith, before)))
              ∙ sym (get_or_append_left (pieces_of_len len xs) (pieces_of_len len ys) [] i short)
          | inr behind ↦
              let k : ℕ = i - n in
              let sum : i ≡ n + k = omega arith in
              let place : len * i ≡ length xs + len * k =
              ap (λ (j : ℕ). len * j) sum ∙ mul-add len n k
              ∙ ap (λ (j : ℕ). j + len * k) (sym whole) in
              let count : length (pieces_of_len len xs) ≡ n = length-pieces len xs ∙ before in
              let there : k < count_of len ys =
              omega (arith, length-pieces len (xs ++ ys), both) in
              ap (λ (j : ℕ). take len (drop j (xs ++ ys))) place
              ∙ ap (λ (l : List A). take len l)
              (sym (drop-drop (len * k) (length xs) (xs ++ ys))
              ∙ ap (λ (l : List A). drop (len * k) l) (drop_at xs ys (length xs) refl))
              ∙ sym (piece_at len ys k [] there)
              ∙ sym (get_or-append_right (pieces_of_len len xs) (pieces_of_len len ys) n i [] count behind)
        ]

-- a list that is no longer than a piece is one
pub one_piece : {A : Type 0} (len : ℕ) (xs : List A) → 0 < length xs → length xs ≤ len
    → pieces_of_len len xs ≡ xs ∷ []
one_piece {A} len xs some fits =
    let sum : length xs + (len - 1) ≡ 1 * len + (length xs - 1) = omega arith in
    let one : count_of len xs ≡ 1 =
    ap (λ (k : ℕ). k / len) sum ∙ div-mul-add 1 len (length xs - 1) (omega arith) in
    let first : take len (drop (len * 0) xs) ≡ xs =
    ap (λ (k : ℕ). take len (drop k xs)) (mul-zero len) ∙ take_all len xs fits in
    ap (λ (k : ℕ). map (λ (i : ℕ). take len (drop (len * i) xs)) (range_with_len 0 k)) one
    ∙ ap (λ (l : List A). l ∷ []) first

pub one_piece_more : {A : Type 0} (len : ℕ) (xs ys : List A) (n : ℕ) → 0 < len
    → length xs ≡ len * n → 0 < length ys → length ys ≤ len
    → pieces_of_len len (xs ++ ys) ≡ pieces_of_len len xs ++ ys ∷ []
one_piece_more {A} len xs ys n some whole more fits =
    pieces_join len xs ys n some whole
    ∙ ap (λ (ps : List (List A)). pieces_of_len len xs ++ ps) (one_piece len ys more fits)
