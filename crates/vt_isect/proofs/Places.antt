-- Where the head and the buckets of a section stand.
use Rattle.std.proofs.Common.{◌≡◌, ◌≢◌, ⊎_elim, ℕ, ◌+◌, ◌-◌, ◌*◌, ◌%◌, ◌<◌, ◌≤◌, refl, sym, ◌∙◌, ap, subst, arith, lit≤}
use Rattle.std.proofs.lemmas.Bool.{cases_order}
use Rattle.vt_disk.specs.declared.region.Region.{Region}
use Rattle.vt_disk.specs.Region.{Inside}
use Rattle.vt_twin.specs.Frames.{FitsTwin}
use Rattle.vt_isect.specs.declared.head.Head.{Head}
use Rattle.vt_isect.specs.Layout.{head_place, bucket_place, IsBucketPlace, InRange}

one_region : (a b : Region) → a.start ≡ b.start → a.len ≡ b.len → a ≡ b
one_region a b start len i = record { start = start i; len = len i }

pub one_place : (j : ℕ) (a b : Region) → IsBucketPlace j a → IsBucketPlace j b → a ≡ b
one_place j a b here there = one_region a b (here.start ∙ sym there.start) (here.len ∙ sym there.len)

pub is_place : (j : ℕ) → IsBucketPlace j (bucket_place j)
is_place j = record { start = refl; len = refl }

pub place_is : (j : ℕ) (region : Region) → IsBucketPlace j region → region ≡ bucket_place j
place_is j region here = one_place j region (bucket_place j) here (is_place j)

pub head_room : (n size buckets : ℕ) → n ≡ 8192 → 24576 + 16896 * buckets ≤ size → FitsTwin head_place n size
head_room n size buckets is fits = subst (λ (k : ℕ). FitsTwin head_place k size) (sym is) (record {
  within = omega arith;
  least = lit≤ tt;
  most = lit≤ tt;
  aligned_start = refl;
  aligned_len = refl;
  aligned_frames = refl;
})

pub place_room : (n size buckets : ℕ) (head : Head) (b : ℕ) (region : Region) → n ≡ 8192 → 24576 + 16896 * buckets ≤ size
    → InRange head buckets b → IsBucketPlace (b - head.first) region → FitsTwin region n size
place_room n size buckets head b region is fits inside place = subst (λ (k : ℕ). FitsTwin region k size) (sym is) (record {
  within = omega (arith, place.start, place.len, inside.0, inside.1);
  least = omega (arith, place.len);
  most = omega (arith, place.len);
  aligned_start = omega (arith, place.start);
  aligned_len = ap (λ (k : ℕ). k % 512) place.len;
  aligned_frames = refl;
})

pub head_apart : (j : ℕ) (region : Region) → IsBucketPlace j region → (i : ℕ) → Inside region i → ¬ Inside head_place i
head_apart j region place i here there = omega (arith, place.start, here.0, there.1)

pub apart_from_head : (j : ℕ) (region : Region) → IsBucketPlace j region → (i : ℕ) → Inside head_place i → ¬ Inside region i
apart_from_head j region place i here there = omega (arith, place.start, here.1, there.0)

pub places_apart : (j k : ℕ) (a b : Region) → IsBucketPlace j a → IsBucketPlace k b → j ≢ k → (i : ℕ) → Inside a i → ¬ Inside b i
places_apart j k a b one two other i here there = ⊎_elim
    (λ (same : j ≡ k). other same)
    (λ rest. ⊎_elim
    (λ (low : j < k). omega (arith, one.start, one.len, two.start, two.len, here.1, there.0))
    (λ (high : k < j). omega (arith, one.start, one.len, two.start, two.len, here.0, there.1))
    rest)
    (cases_order j k)

-- what is done in the place of bucket b is done elsewhere for the head and the other buckets
module _ (head : Head) (buckets b : ℕ) (in_it : InRange head buckets b) (P : ℕ → Type 0) (inside : (i : ℕ) → P i → Inside (bucket_place (b - head.first)) i) where
  pub spares_head : (i : ℕ) → P i → ¬ Inside head_place i
  spares_head i touched = head_apart (b - head.first) (bucket_place (b - head.first)) (is_place (b - head.first)) i (inside i touched)

  pub spares_bucket : (n : ℕ) → InRange head buckets n → n ≢ b → (region : Region) → IsBucketPlace (n - head.first) region → (i : ℕ) → P i → ¬ Inside region i
  spares_bucket n within other region place i touched =
      places_apart (b - head.first) (n - head.first) (bucket_place (b - head.first)) region (is_place (b - head.first)) place
      (λ e. other (omega (arith, e, within.0, in_it.0))) i (inside i touched)
