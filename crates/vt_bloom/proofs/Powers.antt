-- Powers of two, and the regions that they give.
use Rattle.std.proofs.Common.{◌≡◌, ⊎_elim, ℕ, ◌+◌, ◌-◌, ◌*◌, ◌%◌, ◌^◌, ◌<◌, ◌≤◌, refl, sym, ap, ◌∙◌, subst, arith}
use Rattle.std.proofs.lemmas.Bool.{cases_lt}
use Rattle.std.proofs.lemmas.Nat.{pow-add, pow_below}
use Rattle.vt_twin.specs.Frames.{FitsTwin}
use Rattle.vt_bloom.specs.Size.{filter_size, filter_frame_len, filter_len, filter_region, IsFilterSize, IsLargest}

pub shifted : (k : ℕ) → k < 64 → 1 * 2 ^ k % 18446744073709551616 ≡ 2 ^ k
shifted k low =
    let x : ℕ = 2 ^ k in
    let small : x < 18446744073709551616 = pow_below k 64 low in
    omega arith

-- as many words of 64 bits as make up 2^m bits, and their bytes
pub words_fill : (m : ℕ) → 6 ≤ m → 64 * 2 ^ (m - 6) ≡ 2 ^ m
words_fill m least =
    let is : 6 + (m - 6) ≡ m = omega arith in
    sym (pow-add 2 6 (m - 6)) ∙ ap (λ (k : ℕ). 2 ^ k) is

pub bytes_fill : (m n : ℕ) → 6 ≤ m → 64 * n ≡ 2 ^ m → 8 * n ≡ filter_size m
bytes_fill m n least fill =
    let is : 3 + (m - 3) ≡ m = omega arith in
    let x : ℕ = 2 ^ (m - 3) in
    let split : 8 * x ≡ 2 ^ m = sym (pow-add 2 3 (m - 3)) ∙ ap (λ (k : ℕ). 2 ^ k) is in
    omega (arith, split, fill)

pow_mono : (i j : ℕ) → i ≤ j → 2 ^ i ≤ 2 ^ j
pow_mono i j low = ⊎_elim
    (λ (less : i < j).
    let x : ℕ = 2 ^ i in
    let y : ℕ = 2 ^ j in
    let below : x < y = pow_below i j less in
    omega arith)
    (λ (more : j ≤ i).
    let same : i ≡ j = omega arith in
    subst (λ (k : ℕ). 2 ^ i ≤ 2 ^ k) same (let x : ℕ = 2 ^ i in omega arith))
    (cases_lt i j)

pow_aligned : (j : ℕ) → 9 ≤ j → 2 ^ j % 512 ≡ 0
pow_aligned j least =
    let is : 9 + (j - 9) ≡ j = omega arith in
    let x : ℕ = 2 ^ (j - 9) in
    let split : 512 * x ≡ 2 ^ j = sym (pow-add 2 9 (j - 9)) ∙ ap (λ (k : ℕ). 2 ^ k) is in
    sym (ap (λ (k : ℕ). k % 512) split) ∙ omega arith

-- a size has one exponent
pub exponent_unique : (a b size : ℕ) → IsFilterSize a size → IsFilterSize b size → a ≡ b
exponent_unique a b size one other = ⊎_elim
    (λ (less : a < b). absurd (differs a b less one other))
    (λ (more : b ≤ a). ⊎_elim
    (λ (less : b < a). absurd (differs b a less other one))
    (λ (same : a ≤ b). omega arith)
    (cases_lt b a))
    (cases_lt a b)
  where
    differs : (i j : ℕ) → i < j → IsFilterSize i size → IsFilterSize j size → ⊥
    differs i j less small large =
        let x : ℕ = 2 ^ (i - 3) in
        let y : ℕ = 2 ^ (j - 3) in
        let below : x < y = pow_below (i - 3) (j - 3) (omega (arith, small.least)) in
        omega (arith, small.bytes, large.bytes)

pub filter_len-mono : (i j : ℕ) → i ≤ j → filter_len i ≤ filter_len j
filter_len-mono i j low =
    let x : ℕ = 2 ^ (i - 3) in
    let y : ℕ = 2 ^ (j - 3) in
    let more : x ≤ y = pow_mono (i - 3) (j - 3) (omega arith) in
    omega arith

-- the region of a filter
pub has_room : (m size : ℕ) → 16 ≤ m → m ≤ 23 → filter_len m ≤ size
    → FitsTwin (filter_region m) (filter_frame_len m) size
has_room m size least most fits =
    let x : ℕ = 2 ^ (m - 3) in
    let aligned : x % 512 ≡ 0 = pow_aligned (m - 3) (omega arith) in
    record {
      within = omega arith;
      least = omega arith;
      most = omega arith;
      aligned_start = refl;
      aligned_len = omega arith;
      aligned_frames = omega arith;
    }

pub largest_at : (len m : ℕ) → 16 ≤ m → m ≤ 23 → filter_len m ≤ len
    → (m < 23 → len < filter_len (m + 1)) → IsLargest len m
largest_at len m least most fits next = record {
  least = least;
  most = most;
  fits = fits;
  no_larger = λ n n_most n_fits. ⊎_elim
      (λ (over : m < n).
      let more : filter_len (m + 1) ≤ filter_len n = filter_len-mono (m + 1) n (omega arith) in
      let short : len < filter_len (m + 1) = next (omega arith) in
      let a : ℕ = filter_len (m + 1) in
      let b : ℕ = filter_len n in
      absurd (omega arith))
      (λ (under : n ≤ m). under)
      (cases_lt m n);
}
