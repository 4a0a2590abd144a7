-- A header and the bytes behind it, as one.
use Rattle.std.proofs.Common.{◌≡◌, ℕ, zero, suc, ◌+◌, ◌-◌, ◌*◌, ◌≤◌, ◌^◌, Bool, false, not, Option, Some, None, List, ◌++◌, length, take, drop, refl, sym, ◌∙◌, ap, arith, length-append}
use Rattle.std.specs.Prelude.{slice_index, nat_lt, if◌then◌else◌, codes}
use Rattle.std.specs.Str.{bytes_eq}
use Rattle.std.proofs.Math.ListN.{get_or-append}
use Rattle.std.proofs.Math.Seq.{take-length}
use Rattle.std.proofs.lemmas.List.{take-append-le, drop-append-le, drop_at, length-drop}
use Rattle.std.proofs.lemmas.Bool.Decides.{nat_tests}
use Rattle.byteorder.specs.Endian.{big_number, big_from}
use Rattle.vt_clump.specs.declared.reading.Clump.{Clump}
use Rattle.vt_clump.specs.declared.reading.ClumpBad.{ClumpBad}
use Rattle.vt_base.specs.Kind.{is_kind}
use Rattle.vt_clump.specs.declared.reading.ClumpBad.TheVariants.{Short, Magic, Kind}
use Rattle.vt_clump.specs.Clumps.{IsClumpRead}
use Rattle.vt_clump.specs.Spelling.{size_in, stored_in}
use Rattle.vt_clump.specs.Faults.{bad_fields, bad_header, bad_size, bad_encoding, other_score, bad_score, first_fault, first_bad_clump}
use Rattle.vt_clump.proofs.ReadBack.{Passes, passed}

-- a number doesn't depend on what is behind it
big_from-append : (i n : ℕ) (xs ys : List ℕ) → i + n ≤ length xs
    → big_from i n (xs ++ ys) ≡ big_from i n xs
big_from-append i zero xs ys fits = refl
big_from-append i (suc n) xs ys fits =
    let first : slice_index (xs ++ ys) i ≡ slice_index xs i = get_or-append xs ys 0 i (omega arith) in
    let others : big_from (suc i) n (xs ++ ys) ≡ big_from (suc i) n xs =
    big_from-append (suc i) n xs ys (omega arith) in
    λ j. first j * 256 ^ n + others j

long : (n : ℕ) → 38 ≤ n → nat_lt n 38 ≡ false
long n enough = grind (arith, nat_tests)

-- the tests of a header, by what they look at
abbrev tests : (short : Bool) (magic : List ℕ) (kind encoding size uncsize room : ℕ)
    → Option ClumpBad
tests short magic kind encoding size uncsize room =
    if short then Some Short
    else if not (bytes_eq magic (codes "VCLP")) then Some (Magic magic)
    else if not (is_kind kind) then Some (Kind kind)
    else first_fault (bad_encoding encoding) (bad_size size uncsize room)

module _ (header block : List ℕ) (whole : length header ≡ 38) where
  abbrev pub joined : List ℕ
  joined = header ++ block

  drop_front : (k : ℕ) → k ≤ 38 → drop k joined ≡ drop k header ++ block
  drop_front k fits = drop-append-le k header block (omega (arith, whole))

  number_in : (k n : ℕ) → k + n ≤ 38 → big_number n (drop k joined) ≡ big_number n (drop k header)
  number_in k n fits =
      ap (λ (l : List ℕ). big_number n l) (drop_front k (omega arith))
      ∙ big_from-append 0 n (drop k header) block (omega (arith, length-drop k header, whole))

  byte_in : (i : ℕ) → i + 1 ≤ 38 → slice_index joined i ≡ slice_index header i
  byte_in i fits = get_or-append header block 0 i (omega (arith, whole))

  field_in : (k n : ℕ) → k + n ≤ 38 → take n (drop k joined) ≡ take n (drop k header)
  field_in k n fits =
      ap (λ (l : List ℕ). take n l) (drop_front k (omega arith))
      ∙ take-append-le n (drop k header) block (omega (arith, length-drop k header, whole))

  magic_in : take 4 joined ≡ take 4 header
  magic_in = take-append-le 4 header block (omega (arith, whole))

  size_is : size_in joined ≡ size_in header
  size_is = number_in 5 2 (omega arith)

  behind : length joined - 38 ≡ length block
  behind = omega (arith, length-append header block, whole)

  -- the tests of a header are those of the whole
  pub bad_header-joined : bad_header joined ≡ bad_fields header (length block)
  bad_header-joined =
      let short : nat_lt (length joined) 38 ≡ nat_lt (length header) 38 =
      long (length joined) (omega (arith, length-append header block, whole))
      ∙ sym (long (length header) (omega (arith, whole))) in
      λ i. tests (short i) (magic_in i) (byte_in 4 (omega arith) i) (byte_in 29 (omega arith) i)
      (size_is i) (number_in 7 2 (omega arith) i) (behind i)

  -- the block is all that stands behind the header, where no test fails
  module _ (good : bad_fields header (length block) ≡ None) (no_more : length block ≤ size_in header) where
    pass : Passes joined
    pass = passed joined (bad_header-joined ∙ good)

    sized : size_in joined ≡ length block
    sized = omega (arith, pass.inside, behind, size_is, no_more)

    pub block_is : (stored_in joined).block ≡ block
    block_is = (λ i. take (sized i) (drop_at header block 38 whole i)) ∙ take-length block

    pub joined_read : (clump : Clump) → clump.kind ≡ (stored_in header).kind
        → clump.score.0 ≡ (stored_in header).score → clump.time ≡ (stored_in header).time
        → clump.bytes ≡ block → IsClumpRead (stored_in joined) clump
    joined_read clump kind score time bytes = record {
      kind = kind ∙ sym (byte_in 4 (omega arith));
      score = score ∙ sym (field_in 9 20 (omega arith));
      time = time ∙ sym (number_in 34 4 (omega arith));
      bytes = bytes ∙ sym block_is;
    }

    -- the first test of the whole that fails is that of the score
    pub score_is_left-joined : (score_of : List ℕ → List ℕ) (want : List ℕ)
        → want ≡ (stored_in header).score → first_bad_clump score_of joined ≡ other_score want (score_of block)
    score_is_left-joined score_of want want_is =
        ap (λ (first : Option ClumpBad). first_fault first (bad_score score_of (stored_in joined)))
        (bad_header-joined ∙ good)
        ∙ (λ i. other_score ((field_in 9 20 (omega arith) ∙ sym want_is) i) (score_of (block_is i)))
