-- Buckets that are written while the mark doesn't count, with one sync behind many of them.
use Rattle.std.specs.Prelude.{◌≡◌, ◌⊎◌, ℕ, ◌+◌, ◌-◌, ◌*◌, ◌<◌, ◌≤◌, nat_le, nat_lt, ◌&&◌, IsTrue, List, [], Option, Some, if◌then◌else◌}
use Rattle.vt_base.specs.declared.place.Entry.{Entry}
use Rattle.vt_bucket.specs.Frame.{IsBucketFrame, bucket_frame}
use Rattle.vt_disk.specs.declared.TheConstants.{SECTOR_LEN}
use Rattle.vt_disk.specs.Calls.{WritesAt}
use Rattle.vt_disk.specs.Members.{DiskOf}
use Rattle.vt_disk.specs.declared.region.Region.{Region}
use Rattle.vt_twin.specs.Frames.{current_frame, frame_of, selector_of, selector_bytes}
use Rattle.vt_isect.specs.declared.TheConstants.{FRAME_LEN, HEAD_PLACE_LEN, BUCKET_PLACE_LEN}
use Rattle.vt_isect.specs.Layout.{IsBucketPlace, InRange}
use Rattle.vt_isect.specs.Section.{SectionState}
use Rattle.vt_isect.specs.Sound.{KnownBuckets}

-- the bytes of so many buckets of a section, from its bucket j on
abbrev pub InBuckets : (j count : ℕ) → ℕ → Type 0
InBuckets j count i = (HEAD_PLACE_LEN + BUCKET_PLACE_LEN * j ≤ i)
    × (i < HEAD_PLACE_LEN + BUCKET_PLACE_LEN * (j + count))

-- n is one of so many numbers, from this one on
abbrev pub IsAmong : (first count n : ℕ) → Type 0
IsAmong first count n = (first ≤ n) × (n < first + count)

-- what was known, but this of each of so many buckets
abbrev pub with_buckets : (first count : ℕ) → Option (List Entry) → KnownBuckets → KnownBuckets
with_buckets first count entries known n =
    if nat_le first n && nat_lt n (first + count) then entries else known n

-- Bucket n is written with these entries in this place: frame 0 spells them, the selector that
-- names it is zeros, and frame 1 stays as it was.
pub record FillsBucket (n : ℕ) (entries : List Entry) (region : Region) (old new : List ℕ)
    : Type 0 where
  pub frame : frame_of region FRAME_LEN 0 new ≡ bucket_frame n entries
  pub selector : selector_of region FRAME_LEN new ≡ selector_bytes 0 SECTOR_LEN
  pub idle : frame_of region FRAME_LEN 1 new ≡ frame_of region FRAME_LEN 1 old

-- A read gives what is known: the current frame of each bucket spells its entries. Behind a sync
-- each image has them, too.
abbrev pub ReadsKnown : {D : Type 0} → DiskOf D → SectionState D → KnownBuckets → Type 0
ReadsKnown disk t known = (n : ℕ) (entries : List Entry) → InRange t.head t.buckets n
    → known n ≡ Some entries
    → (region : Region) × IsBucketPlace (n - t.head.first) region
    × IsBucketFrame n entries (current_frame region FRAME_LEN (disk.bytes t.disk))

-- the selector is as it was
abbrev pub HasSelectorOf : Region → (old new : List ℕ) → Type 0
HasSelectorOf region old new = selector_of region FRAME_LEN new ≡ selector_of region FRAME_LEN old

-- each of so many buckets, from this number on, is written without entries
abbrev pub AreCleared : {D : Type 0} → DiskOf D → (first count : ℕ) → (old new : SectionState D)
    → Type 0
AreCleared disk first count old new = (n : ℕ) (region : Region) → IsAmong first count n
    → IsBucketPlace (n - old.head.first) region
    → FillsBucket n [] region (disk.bytes old.disk) (disk.bytes new.disk)

-- Clearing so many buckets, from this number on, ended at a call that failed: those before it are
-- written, and nothing is behind the next one, whose selector is as it was or names a frame that
-- was written whole.
pub record StopsClearing {D : Type 0} (disk : DiskOf D) (first count : ℕ) (old new : SectionState D)
    : Type 0 where
  pub done : ℕ
  pub few : done ≤ count
  pub cleared : IsTrue disk.tells → AreCleared disk first done old new
  pub writes : WritesAt disk (InBuckets (first - old.head.first) (done + 1)) (2 * done + 2)
      old.disk new.disk
  pub whole : IsTrue disk.tells → done < count → (region : Region)
      → IsBucketPlace (first + done - old.head.first) region
      → HasSelectorOf region (disk.bytes old.disk) (disk.bytes new.disk)
      ⊎ (frame_of region FRAME_LEN 0 (disk.bytes new.disk) ≡ bucket_frame (first + done) [])
