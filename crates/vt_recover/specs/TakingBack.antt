-- How one block is taken back into its shard, while a log is read back.
use Rattle.std.specs.Prelude.{◌≡◌, ◌≢◌, ◌⊎◌, ⊤, ℕ, ◌+◌, ◌-◌, ◌<◌, ◌≤◌, Bool, false, IsTrue, IfErr, MatchResult, MatchBool, OnOk, None, Some, Result, Ok, Err, List, length, map, slice_get}
use Rattle.std.specs.List.{AllPairs, Contains}
use Rattle.vt_base.specs.Damage.{Differ}
use Rattle.vt_base.specs.Faults.{HasRisen}
use Rattle.vt_base.specs.declared.key.Key.{Key}
use Rattle.vt_base.specs.declared.mount.MountBad.{MountBad}
use Rattle.vt_base.specs.declared.mount.MountBad.TheVariants.{Fault, Disagree, Damaged}
use Rattle.vt_base.specs.declared.mount.MountField.TheVariants.{Crowd}
use Rattle.vt_base.specs.declared.place.Entry.{Entry}
use Rattle.vt_base.specs.declared.place.Info.{Info}
use Rattle.vt_base.specs.declared.why.FieldValue.{FieldValue}
use Rattle.vt_base.specs.declared.place.Place.{Place}
use Rattle.vt_base.specs.declared.why.Site.TheVariants.{Bucket, Clump}
use Rattle.vt_arena.specs.Directory.{IsReached}
use Rattle.vt_arena.specs.declared.head.Found.{Found}
use Rattle.vt_bloom.specs.Bits.{Filter, HasBitsOf}
use Rattle.vt_bucket.specs.Frame.{IsBucketFrame}
use Rattle.vt_disk.specs.Calls.{OnlyReads}
use Rattle.vt_disk.specs.Members.{DiskOf}
use Rattle.vt_disk.specs.declared.region.Region.{Region}
use Rattle.vt_icache.specs.Index.{dirty_info, entry_of}
use Rattle.vt_isect.specs.Agreement.{IsEntryOf}
use Rattle.vt_isect.specs.Layout.{InRange, IsBucketPlace}
use Rattle.vt_isect.specs.Merging.{HasKey}
use Rattle.vt_isect.specs.Section.{IsAtRest}
use Rattle.vt_isect.specs.declared.TheConstants.{FRAME_LEN}
use Rattle.vt_model.specs.History.{History}
use Rattle.vt_model.specs.Places.{Setup, bucket_count, crowd}
use Rattle.vt_model.specs.declared.TheConstants.{BUCKET_ROOM}
use Rattle.vt_part.specs.declared.layout.ArenaRegion.{ArenaRegion}
use Rattle.vt_shard.specs.Search.{HasKeyOf}
use Rattle.vt_shard.specs.Shard.{ShardState, ReadBucket, HasScore, bucket_at}
use Rattle.vt_shard.specs.Sound.{IsSoundFrom, IsSoundWithout}
use Rattle.vt_shard.specs.declared.TheConstants.{ROOM}
use Rattle.vt_twin.specs.Frames.{current_frame}
use Rattle.vt_log.specs.Answers.{OnlyReadsLog}
use Rattle.vt_log.specs.Back.{IsTailBehind, IsInfoInLog, IsTailOf, TailState}
use Rattle.vt_log.specs.Log.{LogState}
use Rattle.vt_log.specs.Sound.{IsArenaAt, IsSoundLog}
use Rattle.vt_recover.specs.Recalling.{AreReadBack, CountsMount, FitsBuckets, IsDamagedBucket, IsDamagedIn, IsAtRestUnstopped, IsReadBack, KeepsSection}

-- a fault is told exactly where the device's count rose
abbrev pub CountsRose : MountBad → (old new : ℕ) → Type 0
CountsRose Fault old new = HasRisen old new
CountsRose bad old new = new ≡ old

-- a fault is told only where the shard's device counted a failed call
abbrev pub CountsShard : {U : Type 0} → Result U MountBad → (old new : ℕ) → Type 0
CountsShard (Ok done) old new = new ≡ old
CountsShard (Err bad) old new = CountsRose bad old new

-- a bucket is damaged
abbrev pub TellsBucket : MountBad → Type 0
TellsBucket bad = (n : ℕ) × (want : FieldValue) × (found : FieldValue)
    × (bad ≡ Damaged (Bucket n) want found) × Differ want found × IsDamagedBucket n want found

-- a fault, or a damaged bucket
abbrev pub FaultOrDamage : MountBad → Type 0
FaultOrDamage bad = (bad ≡ Fault) ⊎ TellsBucket bad

-- ---- what the section held before anything was written back

-- the file has these entries in the buckets of the shard's section
abbrev pub HasEntries : {D : Type 0} → (entries : ℕ → List Entry) → (file : List ℕ) → ShardState D
    → Type 0
HasEntries entries file s = (n : ℕ) (region : Region)
    → InRange s.section.head s.section.buckets n → IsBucketPlace (n - s.section.head.first) region
    → IsBucketFrame n (entries n) (current_frame region FRAME_LEN file)

-- the key's bucket lacks it
abbrev pub LacksKey : {D : Type 0} → (entries : ℕ → List Entry) → ShardState D → Key → Type 0
LacksKey entries s key = ¬ HasKey (Contains (entries (bucket_at s key.score.0))) key

-- Nothing was written since the device had this file, whose section has these entries. The dirty
-- entries are of different blocks from this number on, and their buckets, which are the shard's,
-- lack them.
pub record IsUnwrittenShard {D : Type 0} (disk : DiskOf D) (entries : ℕ → List Entry)
    (file : List ℕ) (from : ℕ) (s : ShardState D) : Type 0 where
  pub phase : IsAtRest s.section
  pub bytes : disk.bytes s.section.disk ≡ file
  pub bucket : (b : ReadBucket) → s.bucket ≡ Some b → b.entries ≡ entries b.number
  pub own : (info : Info) → Contains s.index.dirty info → HasScore s info.key.score.0
  pub lacks : (info : Info) → Contains s.index.dirty info → LacksKey entries s info.key
  pub least : (info : Info) → Contains s.index.dirty info → from ≤ info.number
  pub apart : AllPairs (λ a b. a.number ≢ b.number) s.index.dirty

-- the shard's dirty entries leave no room for a further one of its blocks, which its bucket lacks
pub record HasNoRoomFor {D : Type 0} (entries : ℕ → List Entry) (key : Key) (s : ShardState D)
    : Type 0 where
  pub full : length s.index.dirty ≡ ROOM
  pub own : HasScore s key.score.0
  pub lacks : LacksKey entries s key

-- ---- the steps

-- An entry was looked up, or the blocks of a bucket were counted: what is dirty stays so, and the
-- device was only read from.
pub record OnlyLooks {D : Type 0} (disk : DiskOf D) (old new : ShardState D) : Type 0 where
  pub same : new ≡ record old {
    section = record old.section { disk = new.section.disk };
    index = record old.index { clean = new.index.clean };
    bucket = new.bucket;
  }
  pub reads : OnlyReads disk 2 old.section.disk new.section.disk
  pub unwritten : IsTrue disk.tells → (entries : ℕ → List Entry) (file : List ℕ) (from : ℕ)
      → HasEntries entries file old → IsUnwrittenShard disk entries file from old
      → IsUnwrittenShard disk entries file from new

-- Whether a block has its entry.
pub record LooksForEntry {D : Type 0} (disk : DiskOf D) (key : Key) (result : Result Bool MountBad)
    (old new : ShardState D) : Type 0 where
  pub looks : OnlyLooks disk old new
  pub recalls : IsTrue disk.tells → (score : List ℕ → List ℕ) (c : Setup) (h : History) (i : ℕ)
      → IsSoundFrom score c disk old h (length h) (i + 1) → HasKeyOf score h i key
      → MatchResult result (λ found. MatchBool found (IsSoundFrom score c disk new h (length h) i)
      (IsSoundWithout score c disk new h (length h) (i + 1) key))
      (λ bad. IsSoundFrom score c disk new h (length h) (i + 1) × (bad ≡ Fault))
  pub absent : result ≡ Ok false → dirty_info key new.index ≡ None
  pub lacks : result ≡ Ok false → IsTrue disk.tells → (entries : ℕ → List Entry) (file : List ℕ)
      (from : ℕ) → HasEntries entries file old → IsUnwrittenShard disk entries file from old
      → LacksKey entries old key
  pub counts : CountsShard result (disk.faults old.section.disk) (disk.faults new.section.disk)
  pub tells : IfErr result FaultOrDamage

-- the shard is sound for a history, all of it durable, but for the blocks from its mark up to this
-- one
abbrev pub IsSoundAt : {D : Type 0} → (List ℕ → List ℕ) → Setup → DiskOf D → History → Info
    → ShardState D → Type 0
IsSoundAt score c disk h info s = IsSoundFrom score c disk s h (length h) (info.number + 1)
    × IsEntryOf score c h info.number (entry_of info)

-- more blocks of a bucket were found than a bucket has room for, and these are the history's own
abbrev pub IsOwnCrowd : (part : ℕ) → (List ℕ → List ℕ) → Setup → History → MountBad → Type 0
IsOwnCrowd part score c h bad = (n : ℕ) × (found : ℕ)
    × (bad ≡ Disagree part Crowd found BUCKET_ROOM) × (BUCKET_ROOM < found)
    × (found ≤ crowd score (bucket_count c) h n)

-- the shard has more blocks of a bucket than a bucket has room for; where it is sound these are the
-- history's own
pub record IsCrowdedWith {D : Type 0} (disk : DiskOf D) (part : ℕ) (info : Info)
    (old : ShardState D) (bad : MountBad) : Type 0 where
  pub found : ℕ
  pub bad_is : bad ≡ Disagree part Crowd found BUCKET_ROOM
  pub above : BUCKET_ROOM < found
  pub crowded : (score : List ℕ → List ℕ) (c : Setup) (h : History) → IsTrue disk.tells
      → IsSoundAt score c disk h info old
      → (n : ℕ) × (found ≤ crowd score (bucket_count c) h n)

-- A block is taken back into the shard that has its bucket, which is this part of the store.
-- Another shard stays as it is.
pub record TakesBack {D U : Type 0} (disk : DiskOf D) (part : ℕ) (info : Info)
    (result : Result U MountBad) (old new : ShardState D) : Type 0 where
  pub keeps : KeepsSection disk old new
  pub rests : (bits : Filter) (below : ℕ) → IsReadBack bits below old → info.number < below
      → HasBitsOf bits info.key.score.0 → OnOk result (IsReadBack bits below new)
  pub counts : CountsShard result (disk.faults old.section.disk) (disk.faults new.section.disk)
  pub ends_early : IfErr result (λ bad. FaultOrDamage bad
      ⊎ IsCrowdedWith disk part info old bad)
  pub sound : IsTrue disk.tells → (score : List ℕ → List ℕ) (c : Setup) (h : History)
      → IsSoundAt score c disk h info old → MatchResult result
      (λ _. IsSoundFrom score c disk new h (length h) info.number)
      (λ bad. IsSoundFrom score c disk new h (length h) (info.number + 1)
      × (FitsBuckets score c h → bad ≡ Fault))
  pub unwritten : IsTrue disk.tells → (entries : ℕ → List Entry) (file : List ℕ)
      → HasEntries entries file old → IsUnwrittenShard disk entries file (info.number + 1) old
      → IsUnwrittenShard disk entries file info.number new ⊎ HasNoRoomFor entries info.key old

-- An entry is put in that the shard lacks.
pub record PutsBack {D U : Type 0} (disk : DiskOf D) (part : ℕ) (info : Info)
    (result : Result U MountBad) (old new : ShardState D) : Type 0 where
  pub keeps : KeepsSection disk old new
  pub rests : (bits : Filter) (below : ℕ) → IsReadBack bits below old → info.number < below
      → HasBitsOf bits info.key.score.0 → OnOk result (IsReadBack bits below new)
  pub counts : CountsShard result (disk.faults old.section.disk) (disk.faults new.section.disk)
  pub ends_early : IfErr result (λ bad. FaultOrDamage bad
      ⊎ ((found : ℕ) × (bad ≡ Disagree part Crowd found BUCKET_ROOM) × (BUCKET_ROOM < found)))
  pub sound : IsTrue disk.tells → (score : List ℕ → List ℕ) (c : Setup) (h : History)
      → IsSoundWithout score c disk old h (length h) (info.number + 1) info.key
      → IsEntryOf score c h info.number (entry_of info)
      → IsSoundFrom score c disk new h (length h) info.number
      × IfErr result (λ bad. (bad ≡ Fault) ⊎ IsOwnCrowd part score c h bad)
  pub unwritten : IsTrue disk.tells → (entries : ℕ → List Entry) (file : List ℕ)
      → HasEntries entries file old → IsUnwrittenShard disk entries file (info.number + 1) old
      → LacksKey entries old info.key → IsUnwrittenShard disk entries file info.number new

-- All dirty entries were to be written back.
pub record WritesAllBack {D U : Type 0} (disk : DiskOf D) (result : Result U MountBad)
    (old new : ShardState D) : Type 0 where
  pub keeps : KeepsSection disk old new
  pub rests : (bits : Filter) (below : ℕ) → IsReadBack bits below old
      → OnOk result (IsReadBack bits below new)
  pub quiet : OnOk result (IsAtRestUnstopped new)
  pub emptied : OnOk result (length new.index.dirty < ROOM)
  pub counts : CountsShard result (disk.faults old.section.disk) (disk.faults new.section.disk)
  pub tells : IfErr result FaultOrDamage
  pub sound : IsTrue disk.tells → (score : List ℕ → List ℕ) (c : Setup) (h : History) (from : ℕ)
      → IsSoundFrom score c disk old h (length h) from
      → IsSoundFrom score c disk new h (length h) from
      × IfErr result (λ bad. FitsBuckets score c h → bad ≡ Fault)

-- ---- all shards

-- A block is taken back into the shard that has its bucket; the first shard is this part of the
-- store.
pub record TakesAllBack {D U : Type 0} (disk : DiskOf D) (part : ℕ) (info : Info)
    (result : Result U MountBad) (old new : List (ShardState D)) : Type 0 where
  pub many : length new ≡ length old
  pub keeps : (i : ℕ) (before after : ShardState D) → slice_get old i ≡ Some before
      → slice_get new i ≡ Some after → KeepsSection disk before after
  pub rests : (bits : Filter) (below : ℕ) → AreReadBack bits below old → info.number < below
      → HasBitsOf bits info.key.score.0 → OnOk result (AreReadBack bits below new)
  pub counts : CountsMount result (map (λ s. disk.faults s.section.disk) old)
      (map (λ s. disk.faults s.section.disk) new)
  pub ends_early : IfErr result (λ bad. FaultOrDamage bad ⊎ ((i : ℕ) × (s : ShardState D)
      × (slice_get old i ≡ Some s) × IsCrowdedWith disk (part + i) info s bad))
  pub sound : IsTrue disk.tells → (score : List ℕ → List ℕ) (c : Setup) (h : History) (i : ℕ)
      (before after : ShardState D) → slice_get old i ≡ Some before
      → slice_get new i ≡ Some after → IsSoundAt score c disk h info before → MatchResult result
      (λ _. IsSoundFrom score c disk after h (length h) info.number)
      (λ _. IsSoundFrom score c disk after h (length h) (info.number + 1))
  pub found : IsTrue disk.tells → (score : List ℕ → List ℕ) (c : Setup) (h : History)
      → ((i : ℕ) (s : ShardState D) → slice_get old i ≡ Some s → IsSoundAt score c disk h info s)
      → FitsBuckets score c h → IfErr result (λ bad. bad ≡ Fault)
  pub unwritten : IsTrue disk.tells → (i : ℕ) (before after : ShardState D)
      → slice_get old i ≡ Some before → slice_get new i ≡ Some after
      → (entries : ℕ → List Entry) (file : List ℕ) → HasEntries entries file before
      → IsUnwrittenShard disk entries file (info.number + 1) before
      → IsUnwrittenShard disk entries file info.number after ⊎ HasNoRoomFor entries info.key before

-- ---- the log

-- each arena has its head, and its region a disk
pub record StandsOnDisks {D : Type 0} (l : LogState D) : Type 0 where
  pub heads : length l.heads ≡ length l.layout
  pub disks : (i : ℕ) (r : ArenaRegion) → slice_get l.layout i ≡ Some r
      → r.part < length l.disks

-- a walk of the log came by what it read to where it stands in its arena
abbrev pub HasCome : {D : Type 0} → DiskOf D → LogState D → TailState → Type 0
HasCome {D} disk l t = (found : Found) (r : ArenaRegion) (device : D)
    → slice_get l.heads t.arena ≡ Some found → IsArenaAt l t.arena r device
    → IsReached disk.tells found.head r.region (disk.bytes device) t.at

-- a fault, or damage in an arena's directory or in a header that stands for an entry
abbrev pub TellsOfLog : {D : Type 0} → DiskOf D → LogState D → MountBad → Type 0
TellsOfLog disk l bad = (bad ≡ Fault) ⊎ ((place : Place) × (want : FieldValue)
    × (found : FieldValue) × (bad ≡ Damaged (Clump place) want found) × Differ want found
    × IsDamagedIn disk l place.arena want found)

-- What is known of the next block on the way back through a log is given, where one is left.
pub record GivesNext {D : Type 0} (score : List ℕ → List ℕ) (disk : DiskOf D)
    (result : Result Info MountBad) (old new : LogState D) (before after : TailState)
    : Type 0 where
  pub blocks : (h : History) (n : ℕ) → IsTrue disk.tells → IsSoundLog score disk old h
      → IsTailBehind old h n before
      → MatchResult result (λ info. IsInfoInLog score old h info.number info
      × (info.number + 1 ≡ n) × IsTailBehind old h info.number after) (λ bad. bad ≡ Fault)
  pub number : MatchResult result (λ info. (info.number ≡ after.left)
      × (info.number + 1 ≡ before.left)) (λ _. ⊤)
  pub tail : IsTailOf new after
  pub comes : MatchResult result (λ _. HasCome disk old after) (λ _. ⊤)
  pub reads : OnlyReadsLog score disk 1 old new
  pub counts : CountsMount result (map disk.faults old.disks) (map disk.faults new.disks)
  pub ends_early : IfErr result (TellsOfLog disk old)
