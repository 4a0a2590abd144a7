-- The entries of some buckets' blocks, as they were read from the log.
use Rattle.std.specs.Prelude.{◌≡◌, ℕ, ◌<◌, ◌≤◌, None, List}
use Rattle.std.specs.List.{AllPairs, Contains}
use Rattle.vt_base.specs.declared.place.Entry.{Entry}
use Rattle.vt_base.specs.declared.place.Info.{Info}
use Rattle.vt_isect.specs.Agreement.{HasBlock, IsInBucket, IsEntryOfBlock}
use Rattle.vt_isect.specs.Entries.{IsOrdered}
use Rattle.vt_model.specs.History.{History}
use Rattle.vt_model.specs.Legal.{HasOtherKey}
use Rattle.vt_model.specs.Places.{Setup, bucket_count, bucket_of}
use Rattle.vt_rebuild.specs.declared.gathering.Gathered.{Gathered}

-- what the index keeps of a block
abbrev pub entry_of : Info → Entry
entry_of info = record { key = info.key; size = info.size; place = info.place }

-- The entries are those of blocks, and each block from number `least` on that belongs to one of the
-- buckets from `first` to before `end` has its entry among them.
pub record HasGathered (score : List ℕ → List ℕ) (c : Setup) (h : History) (first end least : ℕ)
    (entries : List Entry) : Type 0 where
  pub own : (entry : Entry) → Contains entries entry → IsEntryOfBlock score c h entry
  pub all : (n i : ℕ) → least ≤ i → first ≤ n → n < end → IsInBucket score c h n i
      → HasBlock score c h (Contains entries) i

-- what was gathered is that, from the first block on
abbrev pub IsGathered : (score : List ℕ → List ℕ) → Setup → History → Gathered → Type 0
IsGathered score c h g = HasGathered score c h g.first g.end 0 g.entries.items

-- What was gathered stands in the order of the buckets.
abbrev pub IsInOrder : Gathered → Type 0
IsInOrder g = IsOrdered g.total None g.entries.items

-- Bucket n has the entries of its blocks, and no others.
pub record HasItsBlocks (score : List ℕ → List ℕ) (c : Setup) (h : History) (n : ℕ)
    (entries : List Entry) : Type 0 where
  pub own : (entry : Entry) → Contains entries entry
      → IsEntryOfBlock score c h entry × (bucket_of (bucket_count c) entry.key.score.0 ≡ n)
  pub all : (i : ℕ) → IsInBucket score c h n i → HasBlock score c h (Contains entries) i

-- the setup has so many buckets, and no two blocks have one key
pub record CanIndex (score : List ℕ → List ℕ) (c : Setup) (h : History) (total : ℕ)
    : Type 0 where
  pub buckets : bucket_count c ≡ total
  pub keys : AllPairs (HasOtherKey score) h
