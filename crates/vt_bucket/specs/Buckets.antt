-- What a bucket in memory holds.
use Rattle.std.specs.Prelude.{◌≡◌, ◌≢◌, ◌↔◌, ◌⊎◌, ℕ, List, take}
use Rattle.std.specs.List.{Contains}
use Rattle.vt_base.specs.declared.place.Entry.{Entry}
use Rattle.vt_bucket.specs.declared.Bucket.{Bucket}

-- the bucket's number over all sections
abbrev pub number_of_bucket : Bucket → ℕ
number_of_bucket b = b.number

-- the entries of a bucket in memory, in order of their keys
abbrev pub bucket_entries : Bucket → List Entry
bucket_entries b = take b.len b.table

-- the entry is among the new ones in place of one of its key, and the others are the old ones
abbrev pub PutsEntry : (old : List Entry) → Entry → (new : List Entry) → Type 0
PutsEntry old entry new = (other : Entry) → Contains new other
    ↔ ((other ≡ entry) ⊎ (Contains old other × (other.key ≢ entry.key)))
