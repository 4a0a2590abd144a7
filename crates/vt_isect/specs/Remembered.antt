-- Which frames of its buckets a section remembers to be current.
use Rattle.std.specs.Prelude.{◌≡◌, ◌≤◌, ℕ, zero, suc, ◌/◌, ◌%◌, List, [], ◌∷◌, ◌++◌, map, length, Option, Some, None, IsTrue, slice_get}
use Rattle.vt_disk.specs.declared.region.Region.{Region}
use Rattle.vt_disk.specs.Members.{DiskOf}
use Rattle.vt_twin.specs.Frames.{named_number}
use Rattle.vt_isect.specs.declared.TheConstants.{FRAME_LEN}
use Rattle.vt_isect.specs.declared.phase.Phase.{Phase}
use Rattle.vt_isect.specs.declared.phase.Phase.TheVariants.{ReadSelector, ReadFrame}
use Rattle.vt_isect.specs.Layout.{IsBucketPlace}

-- Two bits tell of a bucket: the higher one that its current frame is remembered, and the lower one
-- the number of that frame.
abbrev pub told_by : (pair : ℕ) → Option ℕ
told_by zero = None
told_by (suc zero) = None
told_by (suc (suc number)) = Some number

-- the four pairs of bits of a byte, the lowest first
abbrev pub pairs_of : (byte : ℕ) → List ℕ
pairs_of byte = byte % 4 ∷ byte / 4 % 4 ∷ byte / 16 % 4 ∷ byte / 64 ∷ []

-- what bytes tell of buckets, four in each
unfoldable pub told_in : (bytes : List ℕ) → List (Option ℕ)
told_in [] = []
told_in (byte ∷ bytes) = map told_by (pairs_of byte) ++ told_in bytes

-- Of each bucket, counted from 0 in its section, nothing is remembered, or the number of the frame
-- that its selector names, as a read of the disk gives it.
pub record Remembers {D : Type 0} (disk : DiskOf D) (d : D) (buckets : ℕ)
    (frames : List (Option ℕ)) : Type 0 where
  pub each : buckets ≤ length frames
  pub named : (j s : ℕ) (region : Region) → IsTrue disk.tells
      → slice_get frames j ≡ Some (Some s) → IsBucketPlace j region
      → named_number region FRAME_LEN (disk.bytes d) ≡ s

-- what a writeback does first with a bucket of whose current frame so much is remembered
abbrev pub first_read : Option ℕ → Phase
first_read None = ReadSelector
first_read (Some number) = ReadFrame number
