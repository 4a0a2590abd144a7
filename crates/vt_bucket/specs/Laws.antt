-- What holds of all frames.
use Rattle.std.specs.Prelude.{◌≡◌, ℕ, List}
use Rattle.vt_base.specs.declared.place.Entry.{Entry}
use Rattle.vt_bucket.specs.declared.decoding.BucketBad.{BucketBad}
use Rattle.vt_bucket.specs.Frame.{IsBucketFrame}
use Rattle.vt_bucket.specs.Faults.{FaultIs}

-- No bytes are the frame of two buckets.
abbrev pub IsUnambiguous : Type 0
IsUnambiguous = (m n : ℕ) (xs ys : List Entry) (bytes : List ℕ)
    → IsBucketFrame m xs bytes → IsBucketFrame n ys bytes → (m ≡ n) × (xs ≡ ys)

-- a frame of a bucket has no fault
abbrev pub AcceptsFrames : Type 0
AcceptsFrames = (bad : BucketBad) (number : ℕ) (entries : List Entry) (bytes : List ℕ)
    → IsBucketFrame number entries bytes → FaultIs bad number bytes → ⊥

-- No bytes have two faults as the frame of a bucket.
abbrev pub HasOneFault : Type 0
HasOneFault = (a b : BucketBad) (number : ℕ) (bytes : List ℕ)
    → FaultIs a number bytes → FaultIs b number bytes → a ≡ b
