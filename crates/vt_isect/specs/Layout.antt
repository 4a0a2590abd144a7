-- An index section on a disk: a twin for its head, and behind it a twin for each of its buckets
-- (Quinlan and Dorward 2002, the index; venti(8) formats one by fmtisect; the layout is this
-- project's).
use Rattle.std.specs.Prelude.{◌≡◌, ℕ, ◌+◌, ◌-◌, ◌*◌, ◌/◌, ◌^◌, ◌<◌, ◌≤◌, min, List}
use Rattle.vt_base.specs.declared.place.Entry.{Entry}
use Rattle.vt_bucket.specs.Frame.{IsBucketFrame}
use Rattle.vt_disk.specs.declared.region.Region.{Region}
use Rattle.vt_twin.specs.Frames.{current_frame}
use Rattle.vt_isect.specs.declared.TheConstants.{FRAME_LEN, HEAD_PLACE_LEN, BUCKET_PLACE_LEN}
use Rattle.vt_isect.specs.declared.head.Head.{Head}
use Rattle.vt_isect.specs.Head.{IsHeadFrame}

-- the place of the head: two frames of 8,192 bytes and a block
abbrev pub head_place : Region
head_place = record { start = 0; len = HEAD_PLACE_LEN }

-- the place of bucket j of a section: two frames of 8,192 bytes and a sector
abbrev pub bucket_place : (j : ℕ) → Region
bucket_place j = record { start = HEAD_PLACE_LEN + BUCKET_PLACE_LEN * j; len = BUCKET_PLACE_LEN }

-- the region is that of this bucket of the section
pub record IsBucketPlace (j : ℕ) (region : Region) : Type 0 where
  pub start : region.start ≡ (bucket_place j).start
  pub len : region.len ≡ (bucket_place j).len

-- How many buckets a section of this length has. Buckets are numbered in four bytes, so that the
-- end of a disk of more than 64 TiB may be left unused.
abbrev pub buckets_in : (len : ℕ) → ℕ
buckets_in len = min ((len - HEAD_PLACE_LEN) / BUCKET_PLACE_LEN) (2 ^ 32 - 1)

-- the head that formatting writes, of so many buckets: without a place among the sections
abbrev pub formatted : (count : ℕ) → Head
formatted count = record { state = 0; first = 0; count = count; total = 0; mark = 0 }

-- The section has the bucket of this number. Buckets are numbered over all sections.
abbrev pub InRange : Head → (buckets n : ℕ) → Type 0
InRange head buckets n = (head.first ≤ n) × (n < head.first + buckets)

-- The file is a section of so many buckets, with this head and name, and with these entries in
-- each of its buckets.
pub record IsSection (name : List ℕ) (head : Head) (buckets : ℕ) (entries : ℕ → List Entry)
    (file : List ℕ) : Type 0 where
  pub head_frame : IsHeadFrame name head (current_frame head_place FRAME_LEN file)
  pub bucket : (n : ℕ) → InRange head buckets n
      → (region : Region) × IsBucketPlace (n - head.first) region
      × IsBucketFrame n (entries n) (current_frame region FRAME_LEN file)
