-- When a disk is sound for a shard that has a history's blocks of its range.
use Rattle.std.specs.Prelude.{◌≡◌, ◌⊎◌, ℕ, ◌≤◌, IsTrue, IfErr, Some, Result, List, length, take}
use Rattle.std.specs.List.{AllPairs, Contains}
use Rattle.vt_base.specs.declared.key.Key.{Key}
use Rattle.vt_base.specs.declared.place.Entry.{Entry}
use Rattle.vt_base.specs.declared.place.Info.{Info}
use Rattle.vt_disk.specs.Members.{DiskOf}
use Rattle.vt_icache.specs.Index.{entry_of}
use Rattle.vt_isect.specs.Agreement.{IsEntryOf, HasBlock, IsInBucket, AgreesWith, KnownAgrees}
use Rattle.vt_isect.specs.Layout.{InRange, IsSection}
use Rattle.vt_isect.specs.Merging.{HasKey}
use Rattle.vt_isect.specs.Sound.{KnownBuckets, DiskHolds}
use Rattle.vt_isect.specs.declared.error.ShardErr.{ShardErr}
use Rattle.vt_isect.specs.declared.error.ShardErr.TheVariants.{Fault}
use Rattle.vt_isect.specs.declared.head.Head.{Head}
use Rattle.vt_model.specs.History.{History}
use Rattle.vt_model.specs.Legal.{HasOtherKey}
use Rattle.vt_model.specs.Places.{Setup}
use Rattle.vt_shard.specs.Search.{IsLumpOf}
use Rattle.vt_shard.specs.Shard.{ShardState, ReadBucket, IsDirty, HasScore, OnlyMark, bucket_at}

-- by what is known, a key's bucket has these entries
abbrev pub IsBucketOf : {D : Type 0} → ShardState D → KnownBuckets → Key → (entries : List Entry)
    → Type 0
IsBucketOf t known key entries = known (bucket_at t key.score.0) ≡ Some entries

-- the entry is in its bucket, by what is known of the buckets
pub record IsEntryFiled {D : Type 0} (t : ShardState D) (known : KnownBuckets) (entry : Entry)
    : Type 0 where
  pub in_range : HasScore t entry.key.score.0
  pub entries : List Entry
  pub known_is : IsBucketOf t known entry.key entries
  pub has : Contains entries entry

-- The disk is sound for a shard that has the blocks of a history, of which so many are durable and
-- may have entries on the disk. Of the blocks below `from` those that no mark promises may still
-- lack their entries, as while a log is read back from its end.
pub record IsSoundFrom {D : Type 0} (score : List ℕ → List ℕ) (c : Setup) (disk : DiskOf D)
    (t : ShardState D) (h : History) (durable from : ℕ) : Type 0 where
  -- No two blocks of the history have one key.
  pub keys : AllPairs (HasOtherKey score) h
  pub durable_fits : durable ≤ length h
  -- Of the buckets something is known, and this agrees with the durable blocks: each entry that is
  -- or may come to be on the disk is that of one of them, and so each mark is at most their number.
  pub known : KnownBuckets
  pub section : DiskHolds disk t.section known
  pub agrees : KnownAgrees score c (take durable h) t.section known
  -- the section is in use, and only its mark changes
  pub live : t.section.head.state ≡ 1
  pub next : OnlyMark t.section.head t.section.next
  -- only entries of durable blocks are written back
  pub filed : t.filed ≤ durable
  -- each block that belongs to the section is in its bucket, or its entry is dirty
  pub has : (n i : ℕ) (entries : List Entry) → InRange t.section.head t.section.buckets n
      → known n ≡ Some entries → from ≤ i → IsInBucket score c h n i
      → HasBlock score c h (λ entry. Contains entries entry ⊎ IsDirty t entry) i
  -- a dirty entry is that of the block of its number, and its bucket lacks it
  pub dirty : (info : Info) → Contains t.index.dirty info
      → IsEntryOf score c h info.number (entry_of info)
  pub unfiled : (info : Info) (entries : List Entry) → Contains t.index.dirty info
      → IsBucketOf t known info.key entries → ¬ HasKey (Contains entries) info.key
  -- a clean one is in its bucket, and what was read of a bucket is what it has
  pub clean : (entry : Entry) → Contains t.index.clean entry → IsEntryFiled t known entry
  pub bucket : (bucket : ReadBucket) → t.bucket ≡ Some bucket
      → known bucket.number ≡ Some bucket.entries
  -- each block in memory is that of its key
  pub lumps : (key : Key) (bytes : List ℕ) → Contains t.lumps.entries (key, bytes)
      → IsLumpOf score h key bytes

-- The disk is sound for a shard that has the blocks of a history, of which so many are durable, and
-- no block lacks its entry.
abbrev pub IsSoundShard : {D : Type 0} → (List ℕ → List ℕ) → Setup → DiskOf D → ShardState D
    → History
    → (durable : ℕ) → Type 0
IsSoundShard score c disk t h durable = IsSoundFrom score c disk t h durable 0

-- The disk is sound for a shard of which the first `from` blocks may lack their entries, and the
-- bucket of this key has no entry of it.
abbrev pub IsSoundWithout : {D : Type 0} → (List ℕ → List ℕ) → Setup → DiskOf D → ShardState D
    → History → (durable from : ℕ) → Key → Type 0
IsSoundWithout score c disk t h durable from key =
    (s : IsSoundFrom score c disk t h durable from)
    × ((entries : List Entry) → IsBucketOf t s.known key entries → ¬ HasKey (Contains entries) key)

-- For each history for which the shard's disk was sound it is sound afterwards.
abbrev pub KeepsSound : {D : Type 0} → DiskOf D → (old new : ShardState D) → Type 0
KeepsSound disk old new = (score : List ℕ → List ℕ) (c : Setup) (h : History) (durable from : ℕ)
    → IsSoundFrom score c disk old h durable from → IsSoundFrom score c disk new h durable from

-- A look-up keeps the disk sound, and finds no damage there.
pub record LooksSoundly {D T : Type 0} (disk : DiskOf D) (result : Result T ShardErr)
    (old new : ShardState D) : Type 0 where
  pub keeps : IsTrue disk.tells → KeepsSound disk old new
  pub undamaged : (score : List ℕ → List ℕ) (c : Setup) (h : History) (durable from : ℕ)
      → IsTrue disk.tells → IsSoundFrom score c disk old h durable from
      → IfErr result (λ bad. bad ≡ Fault)

-- The file is a section in use, of this name and at this place among the sections, that agrees with
-- a history.
pub record IsLiveSection (score : List ℕ → List ℕ) (c : Setup) (h : History) (name : List ℕ)
    (buckets : ℕ) (place : Head) (file : List ℕ) : Type 0 where
  pub head : Head
  pub entries : ℕ → List Entry
  pub is : IsSection name head buckets entries file
  pub live : head.state ≡ 1
  pub at_place : OnlyMark place head
  pub agrees : AgreesWith score c h buckets head entries

-- The file, of the disk of this shard, is a section in use, of the shard's name and at its place
-- among the sections, that agrees with a history.
abbrev pub LeavesLive : {D : Type 0} → (List ℕ → List ℕ) → Setup → History → ShardState D
    → (file : List ℕ) → Type 0
LeavesLive score c h t file =
    IsLiveSection score c h t.section.name t.section.buckets t.section.head file
