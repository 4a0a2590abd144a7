-- The scores of all words by SHA-1, of which the first two bytes are all different.
use Rattle.std.proofs.Common.{◌≡◌, ◌+◌, ◌*◌, ◌<◌, ℕ, zero, suc, Bool, true, false, List, [], ◌∷◌, length, map, refl, sym, ◌∙◌, ap, arith, get_or}
use Rattle.std.proofs.lemmas.Bool.{eq-eqb}
use Rattle.std.proofs.lemmas.List.FromFn.{get_or-map-range_with_len}
use Rattle.std.specs.List.{list_any, range_with_len}
use Rattle.std.specs.Prelude.{◌&&◌, ◌||◌, not, eqb}
use Rattle.sha1.specs.Sha1.{first_words, schedule, rounds, compress, hash_after, digest_bytes, sha1}
use Rattle.vt_rehearse.specs.Words.{AreApart, word_of}

-- the first two bytes of a score, as a number
start_of : List ℕ → ℕ
start_of s = get_or s 0 0 * 256 + get_or s 1 0

starts : List ℕ
starts =
    23465 ∷ 47887 ∷ 841 ∷ 41971 ∷ 28769 ∷ 59092 ∷ 10324 ∷ 3528 ∷ 51763 ∷ 43932 ∷ 49478 ∷ 19577 ∷ 19362 ∷ 20658 ∷ 48961 ∷ 58503 ∷ 34613 ∷ 10685 ∷ 58403 ∷
    14277 ∷ 50956 ∷ 43466 ∷ 45898 ∷ 48184 ∷ 46556 ∷ 29064 ∷ 39161 ∷ 57502 ∷ 197 ∷ 56525 ∷ 1548 ∷ 52009 ∷ 22308 ∷ 48782 ∷ 55571 ∷ 20622 ∷ 60879 ∷ 32256 ∷
    28165 ∷ 2666 ∷ 46913 ∷ 65049 ∷ 18389 ∷ 60740 ∷ 59301 ∷ 10567 ∷ 50481 ∷ 26473 ∷ 61260 ∷ 27145 ∷ 25947 ∷ 13982 ∷ 38655 ∷ 42824 ∷ 12936 ∷ 11039 ∷ 55206 ∷
    50829 ∷ 41752 ∷ 32374 ∷ 13384 ∷ 20718 ∷ 33481 ∷ 22783 ∷ []

starts_are : map (λ w. start_of (sha1 (word_of w))) (range_with_len 0 64) ≡ starts
unfolding first_words schedule rounds compress hash_after digest_bytes sha1 start_of starts
starts_are = refl

zero_is : start_of (sha1 []) ≡ 55865
unfolding first_words schedule rounds compress hash_after digest_bytes sha1 start_of
zero_is = refl

-- ---- numbers that are all different

all_apart : List ℕ → Bool
all_apart [] = true
all_apart (x ∷ xs) = not (list_any (λ y. eqb x y) xs) && all_apart xs

starts_apart : all_apart starts ≡ true
unfolding all_apart starts
starts_apart = refl

zero_apart : list_any (λ y. eqb 55865 y) starts ≡ false
unfolding starts
zero_apart = refl

has_length : length starts ≡ 64
unfolding starts
has_length = refl

either_way : (b c : Bool) → c ≡ true → (b || c) ≡ true
either_way true c is = refl
either_way false c is = is

found_at : (x : ℕ) (xs : List ℕ) (i : ℕ) → i < length xs → x ≡ get_or xs i 0 → list_any (λ y. eqb x y) xs ≡ true
found_at x [] i lt same = absurd (omega (arith, lt))
found_at x (y ∷ xs) zero lt same = ap (λ (b : Bool). b || list_any (λ z. eqb x z) xs) (eq-eqb x y same)
found_at x (y ∷ xs) (suc i) lt same = either_way (eqb x y) (list_any (λ z. eqb x z) xs) (found_at x xs i (omega (arith, lt)) same)

first_apart : (x : ℕ) (xs : List ℕ) → all_apart (x ∷ xs) ≡ true → list_any (λ y. eqb x y) xs ≡ false
unfolding all_apart
first_apart x xs is = by (list_any (λ y. eqb x y) xs) (all_apart xs) is
  where
    by : (b c : Bool) → (not b && c) ≡ true → b ≡ false
    by false c is = refl
    by true c is = absurd (cc)

rest_apart : (x : ℕ) (xs : List ℕ) → all_apart (x ∷ xs) ≡ true → all_apart xs ≡ true
unfolding all_apart
rest_apart x xs is = by (list_any (λ y. eqb x y) xs) (all_apart xs) is
  where
    by : (b c : Bool) → (not b && c) ≡ true → c ≡ true
    by false c is = is
    by true c is = absurd (cc)

one_place : (xs : List ℕ) (i j : ℕ) → all_apart xs ≡ true → i < length xs → j < length xs → get_or xs i 0 ≡ get_or xs j 0 → i ≡ j
one_place [] i j apart lt lu same = absurd (omega (arith, lt))
one_place (x ∷ xs) zero zero apart lt lu same = refl
one_place (x ∷ xs) zero (suc j) apart lt lu same =
    let no : true ≡ false = sym (found_at x xs j (omega (arith, lu)) same) ∙ first_apart x xs apart in absurd (cc)
one_place (x ∷ xs) (suc i) zero apart lt lu same =
    let no : true ≡ false = sym (found_at x xs i (omega (arith, lt)) (sym same)) ∙ first_apart x xs apart in absurd (cc)
one_place (x ∷ xs) (suc i) (suc j) apart lt lu same = ap (λ (n : ℕ). suc n) (one_place xs i j (rest_apart x xs apart) (omega (arith, lt)) (omega (arith, lu)) same)

-- ---- the words

start_is : (w : ℕ) → w < 64 → start_of (sha1 (word_of w)) ≡ get_or starts w 0
start_is w lt = sym (get_or-map-range_with_len (λ v. start_of (sha1 (word_of v))) 0 64 w w 0 lt (omega arith)) ∙ ap (λ (xs : List ℕ). get_or xs w 0) starts_are

pub words_apart : AreApart sha1
words_apart = record {
  scores = λ v w below under same.
      let many = has_length in
      one_place starts v w starts_apart (omega (arith, below, many)) (omega (arith, under, many)) (sym (start_is v below) ∙ ap start_of same ∙ start_is w under);
  nonzero = λ w below same.
      let many = has_length in
      let is : 55865 ≡ get_or starts w 0 = sym zero_is ∙ ap start_of (sym same) ∙ start_is w below in
      let no : true ≡ false = sym (found_at 55865 starts w (omega (arith, below, many)) is) ∙ zero_apart in absurd (cc);
}
