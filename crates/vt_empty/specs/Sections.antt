-- Index sections that aren't in use yet.
use Rattle.std.specs.Prelude.{◌≡◌, ℕ, ◌+◌, ◌*◌, List, length}
use Rattle.std.specs.List.{All}
use Rattle.vt_disk.specs.Members.{DiskOf}
use Rattle.vt_format.specs.Usage.{IsOpened}
use Rattle.vt_isect.specs.declared.TheConstants.{BUCKET_PLACE_LEN, HEAD_PLACE_LEN}
use Rattle.vt_isect.specs.Layout.{buckets_in}
use Rattle.vt_isect.specs.Section.{SectionState}

-- a section of a disk of this size
pub record IsSectionOf {D : Type 0} (disk : DiskOf D) (size : ℕ) (t : SectionState D) : Type 0
  where
    pub opened : IsOpened disk t
    pub size_is : disk.size t.disk ≡ size
    pub buckets : t.buckets ≡ buckets_in size

-- how long the disk of a section of so many buckets is
abbrev pub len_for : (buckets : ℕ) → ℕ
len_for buckets = HEAD_PLACE_LEN + BUCKET_PLACE_LEN * buckets

-- so many of them, of so many buckets each
pub record AreSections {D : Type 0} (disk : DiskOf D) (count buckets : ℕ)
    (sections : List (SectionState D)) : Type 0 where
  pub many : length sections ≡ count
  pub each : All (IsSectionOf disk (len_for buckets)) sections
