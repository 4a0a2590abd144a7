-- Buckets and sections are in range.
use Rattle.std.proofs.Common.{◌≡◌, ℕ, zero, suc, ◌+◌, ◌-◌, ◌*◌, ◌^◌, ◌<◌, ◌≤◌, nat_lt, Bool, true, false, cond, List, [], ◌∷◌, length, take, arith, sum, lit<, refl, sym, ◌∙◌, ap, inl, inr}
use Rattle.std.specs.Int.{w32, from_be_bytes}
use Rattle.std.proofs.Math.Nat.{div-lt_iff_lt-mul, mul-lt-mul_of_pos_left}
use Rattle.std.proofs.lemmas.Bool.{cases_Bool, ltb-true, ltb-false, lt-ltb, le-ltb}
use Rattle.std.proofs.lemmas.Bool.Decides.{nat_tests}
use Rattle.std.proofs.lemmas.List.Sums.{sum_by-cons}
use Rattle.vt_base.specs.Bytes.{AreBytes}
use Rattle.vt_model.specs.Places.{bucket_of, section_of_bucket, first_bucket, LiesIn}

AreBytes-take : (n : ℕ) (s : List ℕ) → AreBytes s → AreBytes (take n s)
AreBytes-take zero s are i = omega arith
AreBytes-take (suc n) [] are i = omega arith
AreBytes-take (suc n) (b ∷ s) are zero = are 0
AreBytes-take (suc n) (b ∷ s) are (suc i) = AreBytes-take n s (λ i. are (suc i)) i

from_be_bytes-lt : (bytes : List ℕ) → AreBytes bytes → from_be_bytes w32 bytes < 2 ^ 32
from_be_bytes-lt bytes are = omega (arith, are 0, are 1, are 2, are 3)

pub bucket_of-lt : (n : ℕ) (s : List ℕ) → AreBytes s → 0 < n → bucket_of n s < n
bucket_of-lt n s are some =
    let x = from_be_bytes w32 (take 4 s) in
    let less : n * x < n * 2 ^ 32 =
    mul-lt-mul_of_pos_left (from_be_bytes-lt (take 4 s) (AreBytes-take 4 s are)) some in
    (div-lt_iff_lt-mul (lit< tt)).1 (omega (arith, less))

pub section_of_bucket-lt : (sections : List ℕ) (b : ℕ) → b < sum sections
    → section_of_bucket sections b < length sections
section_of_bucket-lt [] b lt = absurd (omega arith)
section_of_bucket-lt (n ∷ more) b lt =
    let total = sum_by-cons (λ x. x) n more in
    elim (nat_lt b n) as
    (λ t. nat_lt b n ≡ t → cond t 0 (section_of_bucket more (b - n) + 1) < length (n ∷ more)) [
      | true ↦ λ is. omega arith
      | false ↦ λ is.
          let past : n ≤ b = grind (arith, nat_tests) in
          omega (arith, section_of_bucket-lt more (b - n) (omega (arith, total, lt, past)))
    ] refl

-- the range of a section behind one of n buckets
range_behind : (n : ℕ) (more : List ℕ) (i : ℕ)
    → first_bucket (n ∷ more) (suc i) ≡ n + first_bucket more i
range_behind n more i = sum_by-cons (λ x. x) n (take i more)

lies_behind : (n : ℕ) (more : List ℕ) (i b : ℕ) → n ≤ b → LiesIn more i (b - n)
    → LiesIn (n ∷ more) (suc i) b
lies_behind n more i b behind it =
    let range = range_behind n more i in
    (omega (arith, it.0, range, behind), omega (arith, it.1, range, behind))

pub section_lies : (sections : List ℕ) (i b : ℕ) → i < length sections
    → section_of_bucket sections b ≡ i → LiesIn sections i b
section_lies [] i b lt is = absurd (omega arith)
section_lies (n ∷ more) zero b lt is =
    let section : Bool → ℕ = λ t. cond t 0 (section_of_bucket more (b - n) + 1) in
    elim (cases_Bool (nat_lt b n)) [
      | inl within ↦
          let lt : b < n = ltb-true b n within in
          (omega arith, omega (arith, lt))
      | inr behind ↦
          let later : section_of_bucket more (b - n) + 1 ≡ 0 = sym (ap section behind) ∙ is in
          absurd (omega (arith, later))
    ]
section_lies (n ∷ more) (suc i) b lt is =
    let section : Bool → ℕ = λ t. cond t 0 (section_of_bucket more (b - n) + 1) in
    elim (cases_Bool (nat_lt b n)) [
      | inl within ↦
          let none : 0 ≡ suc i = sym (ap section within) ∙ is in
          absurd (omega (arith, none))
      | inr behind ↦
          let later : section_of_bucket more (b - n) + 1 ≡ suc i = sym (ap section behind) ∙ is in
          lies_behind n more i b (ltb-false b n behind)
          (section_lies more i (b - n) (omega (arith, lt)) (omega (arith, later)))
    ]

pub lies_section : (sections : List ℕ) (i b : ℕ) → i < length sections → LiesIn sections i b
    → section_of_bucket sections b ≡ i
lies_section [] i b lt it = absurd (omega arith)
lies_section (n ∷ more) zero b lt it =
    let within : nat_lt b n ≡ true = lt-ltb b n (omega (arith, it.1)) in
    ap (λ t. cond t 0 (section_of_bucket more (b - n) + 1)) within
lies_section (n ∷ more) (suc i) b lt it =
    let range = range_behind n more i in
    let behind : n ≤ b = omega (arith, it.0, range) in
    let test : nat_lt b n ≡ false = le-ltb b n behind in
    let rest = lies_section more i (b - n) (omega (arith, lt))
    (omega (arith, it.0, range), omega (arith, it.1, range, behind)) in
    ap (λ t. cond t 0 (section_of_bucket more (b - n) + 1)) test ∙ omega (arith, rest)
