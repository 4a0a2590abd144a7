-- When an index section has the entries of a history's blocks (Quinlan and Dorward 2002: the index
-- maps a score to the block's place in the log).
use Rattle.std.specs.Prelude.{◌≡◌, ◌⊎◌, ℕ, ◌<◌, ◌≤◌, List, Some, length}
use Rattle.std.specs.List.{AllPairs, Contains}
use Rattle.vt_base.specs.declared.place.Entry.{Entry}
use Rattle.vt_bucket.specs.Order.{IsAscending}
use Rattle.vt_model.specs.History.{History, Accepted}
use Rattle.vt_model.specs.Legal.{HasOtherKey}
use Rattle.vt_model.specs.Places.{Setup, Spot, StandsAt, bucket_of, bucket_count}
use Rattle.vt_isect.specs.declared.head.Head.{Head}
use Rattle.vt_isect.specs.Layout.{InRange}
use Rattle.vt_isect.specs.Section.{SectionState, IsTodo}
use Rattle.vt_isect.specs.Sound.{KnownBuckets, KnowsEachBucket, LeavesSection}

-- the entry of block i: its score, type, size and place
pub record IsEntryOf (score : List ℕ → List ℕ) (c : Setup) (h : History) (i : ℕ) (entry : Entry)
    : Type 0 where
  pub block : Accepted
  pub spot : Spot
  pub stands : StandsAt c h i block spot
  pub score_is : entry.key.score.0 ≡ score block.block.bytes
  pub kind_is : entry.key.kind ≡ block.block.kind
  pub size_is : entry.size ≡ length block.block.bytes
  pub arena_is : entry.place.arena ≡ spot.arena
  pub offset_is : entry.place.offset ≡ spot.offset

-- the entry of some block
abbrev pub IsEntryOfBlock : (List ℕ → List ℕ) → Setup → History → Entry → Type 0
IsEntryOfBlock score c h entry = (i : ℕ) × IsEntryOf score c h i entry

-- block i has its entry among these
abbrev pub HasBlock : (List ℕ → List ℕ) → Setup → History → (entries : Entry → Type 0) → ℕ → Type 0
HasBlock score c h entries i = (entry : Entry) × entries entry × IsEntryOf score c h i entry

-- the bucket of block i is n
pub record IsInBucket (score : List ℕ → List ℕ) (c : Setup) (h : History) (n i : ℕ) : Type 0 where
  pub block : Accepted
  pub spot : Spot
  pub stands : StandsAt c h i block spot
  pub bucket_is : bucket_of (bucket_count c) (score block.block.bytes) ≡ n

-- A section of so many buckets, with this head and these entries, agrees with a history.
pub record AgreesWith (score : List ℕ → List ℕ) (c : Setup) (h : History) (buckets : ℕ)
    (head : Head) (entries : ℕ → List Entry) : Type 0 where
  -- No two blocks of the history have one key.
  pub keys : AllPairs (HasOtherKey score) h
  pub total : head.total ≡ bucket_count c
  -- each entry is that of a block, in its bucket, and they are in order
  pub blocks : (n : ℕ) (entry : Entry) → InRange head buckets n → Contains (entries n) entry
      → IsEntryOfBlock score c h entry × (bucket_of (bucket_count c) entry.key.score.0 ≡ n)
  pub ascending : (n : ℕ) → InRange head buckets n → IsAscending (entries n)
  -- each block below the mark has its entry
  pub filed : (n i : ℕ) → InRange head buckets n → i < head.mark → IsInBucket score c h n i
      → HasBlock score c h (Contains (entries n)) i
  pub mark_fits : head.mark ≤ length h

-- Each block below this mark that belongs to the section has its entry in its bucket, by what is
-- known, or among some others.
pub record IsMarkCovered {D : Type 0} (score : List ℕ → List ℕ) (c : Setup) (h : History)
    (t : SectionState D) (known : KnownBuckets) (others : Entry → Type 0) (mark : ℕ) : Type 0 where
  pub fits : mark ≤ length h
  pub has : (n i : ℕ) (entries : List Entry) → InRange t.head t.buckets n → known n ≡ Some entries
      → i < mark → IsInBucket score c h n i
      → HasBlock score c h (λ entry. Contains entries entry ⊎ others entry) i

-- no entry is allowed beside those that are known
abbrev pub NoOthers : Entry → Type 0
NoOthers entry = ⊥

-- What is known of a section, with what is under way, agrees with a history. In state 1 the mark
-- counts: the head's, and that of the head that it gets.
pub record KnownAgrees {D : Type 0} (score : List ℕ → List ℕ) (c : Setup) (h : History)
    (t : SectionState D) (known : KnownBuckets) : Type 0 where
  pub keys : AllPairs (HasOtherKey score) h
  pub total : t.head.total ≡ bucket_count c
  pub same_first : t.next.first ≡ t.head.first
  pub same_total : t.next.total ≡ t.head.total
  pub whole : KnowsEachBucket t known
  pub blocks : (n : ℕ) (entries : List Entry) (entry : Entry) → InRange t.head t.buckets n
      → known n ≡ Some entries → Contains entries entry
      → IsEntryOfBlock score c h entry × (bucket_of (bucket_count c) entry.key.score.0 ≡ n)
  pub todo : (entry : Entry) → IsTodo t entry → IsEntryOfBlock score c h entry
  pub filed : t.head.state ≡ 1 → IsMarkCovered score c h t known NoOthers t.head.mark
  pub coming : t.next.state ≡ 1 → IsMarkCovered score c h t known (IsTodo t) t.next.mark

-- What a crash leaves is a section, and in state 1 it agrees with the history.
abbrev pub LeavesAgreeing : {D : Type 0} → (List ℕ → List ℕ) → Setup → History → SectionState D
    → KnownBuckets → (file : List ℕ) → Type 0
LeavesAgreeing score c h t known file = (left : LeavesSection t known file)
    × (left.0.state ≡ 1 → AgreesWith score c h t.buckets left.0 left.1)
