-- How a log is read back when a store is mounted, to find what the index and the filter lack.
use Rattle.std.specs.Prelude.{◌≡◌, ◌⊎◌, ℕ, ◌+◌, ◌<◌, ◌≤◌, IsTrue, None, Some, Result, Ok, Err, IfErr, MatchResult, OnOk, List, [], ◌++◌, length, map, slice_get, ◌-◌, sum_by}
use Rattle.std.specs.List.{Contains}
use Rattle.vt_base.specs.Damage.{Differ}
use Rattle.vt_base.specs.declared.mount.MountBad.{MountBad}
use Rattle.vt_base.specs.declared.mount.MountBad.TheVariants.{Fault, Disagree, Damaged}
use Rattle.vt_base.specs.declared.mount.MountField.TheVariants.{Crowd}
use Rattle.vt_base.specs.declared.place.Entry.{Entry}
use Rattle.vt_base.specs.declared.place.Info.{Info}
use Rattle.vt_base.specs.declared.why.FieldValue.{FieldValue}
use Rattle.vt_base.specs.declared.why.Site.{Site}
use Rattle.vt_base.specs.declared.why.Site.TheVariants.{Clump, Bucket}
use Rattle.vt_disk.specs.Members.{DiskOf}
use Rattle.vt_model.specs.History.{History, Accepted}
use Rattle.vt_model.specs.Places.{Setup, bucket_count, crowd}
use Rattle.vt_model.specs.declared.TheConstants.{BUCKET_ROOM}
use Rattle.vt_part.specs.declared.layout.ArenaRegion.{ArenaRegion}
use Rattle.vt_arena.specs.declared.error.BackBad.TheVariants as back_bad
use Rattle.vt_arena.specs.declared.directory.At.{At}
use Rattle.vt_arena.specs.declared.head.Found.{Found}
use Rattle.vt_arena.specs.Directory.{IsReached, first_bad_walked, what_is_walked}
use Rattle.vt_bloom.specs.Bits.{Filter, HasBitsOf}
use Rattle.vt_isect.specs.declared.error.ShardErr.TheVariants as shard_err
use Rattle.vt_isect.specs.Merging.{IsDamage}
use Rattle.vt_isect.specs.Section.{IsAtRest}
use Rattle.vt_log.specs.Answers.{HoldTheSame}
use Rattle.vt_log.specs.Log.{LogState, setup_of_log}
use Rattle.vt_log.specs.Sound.{IsSoundLog, IsArenaAt}
use Rattle.vt_shard.specs.Shard.{ShardState}
use Rattle.vt_shard.specs.Sound.{IsSoundFrom}
use Rattle.vt_recover.specs.Marks.{LacksMany}
use Rattle.vt_recover.specs.Refusals.{CountsRefusal}
use Rattle.vt_recover.specs.Sections.{IsLive, SectionStandsFor, section_buckets}

-- What is read back, and into what: the log, a shard for each section, and the filter's bits.
pub record Opened (D : Type 0) : Type 0 where
  pub log : LogState D
  pub shards : List (ShardState D)
  pub bits : Filter

-- a store that was found: its log, its shards and its filter's bits
abbrev pub opened : {D : Type 0} → LogState D → List (ShardState D) → Filter → Opened D
opened log shards bits = record { log = log; shards = shards; bits = bits }

-- the devices that are called
abbrev pub devices_called : {D : Type 0} → Opened D → List D
devices_called o = o.log.disks ++ map (λ s. s.section.disk) o.shards

-- The setup has each arena in the version in which the log has it, so that both place a block alike.
-- Its base and its sections may be any.
abbrev pub HasVersionsOf : {D : Type 0} → LogState D → Setup → Type 0
HasVersionsOf l c = c.versions ≡ (setup_of_log l).versions

-- ---- a shard

-- nothing is under way in it, and nothing stopped it
pub record IsAtRestUnstopped {D : Type 0} (s : ShardState D) : Type 0 where
  pub phase : IsAtRest s.section
  pub next : s.section.next ≡ s.section.head
  pub stopped : s.section.stopped ≡ None
  pub writeback : s.writeback ≡ None

-- No call was made of the store yet, and nothing is in its memory.
pub record IsUnused {D : Type 0} (s : ShardState D) : Type 0 where
  pub quiet : IsAtRestUnstopped s
  pub dirty : s.index.dirty ≡ []
  pub bucket : s.bucket ≡ None
  pub filed : s.filed ≡ 0

-- The shard keeps its place and its mark, the blocks in memory, and the room for clean entries.
pub record KeepsSection {D : Type 0} (disk : DiskOf D) (old new : ShardState D) : Type 0 where
  pub name : new.section.name ≡ old.section.name
  pub buckets : new.section.buckets ≡ old.section.buckets
  pub head : new.section.head ≡ old.section.head
  pub size : disk.size new.section.disk ≡ disk.size old.section.disk
  pub lumps : new.lumps ≡ old.lumps
  pub clean_room : new.index.clean_room ≡ old.index.clean_room

-- What the shard put into its buckets and what is dirty are entries of blocks below this number,
-- and the bits of the dirty ones are set.
pub record IsReadBack {D : Type 0} (bits : Filter) (below : ℕ) (s : ShardState D) : Type 0 where
  pub quiet : IsAtRestUnstopped s
  pub filed : s.filed ≤ below
  pub numbers : (info : Info) → Contains s.index.dirty info → info.number < below
  pub bits_of : (info : Info) → Contains s.index.dirty info → HasBitsOf bits info.key.score.0

-- Each of these shards is as it was read back.
abbrev pub AreReadBack : {D : Type 0} → (bits : Filter) → (below : ℕ) → List (ShardState D)
    → Type 0
AreReadBack {D} bits below shards = (i : ℕ) (s : ShardState D) → slice_get shards i ≡ Some s
    → IsReadBack bits below s

-- ---- whatever the devices hold

-- The log is only read from, the bits that are set stay, and each shard keeps its place and its
-- mark.
pub record ReadsBack {D : Type 0} (score : List ℕ → List ℕ) (disk : DiskOf D) (old new : Opened D)
    : Type 0 where
  pub log : new.log ≡ record old.log { disks = new.log.disks }
  pub disks : HoldTheSame disk old.log.disks new.log.disks
  pub sound : (h : History) → IsSoundLog score disk old.log h → IsSoundLog score disk new.log h
  pub counts : (new.bits.m ≡ old.bits.m) × (new.bits.k ≡ old.bits.k)
  pub stay : (s : List ℕ) → HasBitsOf old.bits s → HasBitsOf new.bits s
  pub many : length new.shards ≡ length old.shards
  pub shards : (i : ℕ) (before after : ShardState D) → slice_get old.shards i ≡ Some before
      → slice_get new.shards i ≡ Some after → KeepsSection disk before after

-- a fault is told exactly where one of the devices' counts rose
abbrev pub CountsMount : {U : Type 0} → Result U MountBad → (old new : List ℕ) → Type 0
CountsMount (Ok done) old new = new ≡ old
CountsMount (Err bad) old new = CountsRefusal bad old new

-- ---- why it ends early

-- What a walk of an arena reads, an entry of its directory or a header that stands for one, differs
-- from what was wanted, as the arena's device has it where that tells. The walk came there from the
-- arena's head, by what it read behind.
pub record IsDamagedIn {D : Type 0} (disk : DiskOf D) (l : LogState D) (arena : ℕ)
    (want found : FieldValue) : Type 0 where
  pub r : ArenaRegion
  pub device : D
  pub stands : IsArenaAt l arena r device
  pub head : Found
  pub head_is : slice_get l.heads arena ≡ Some head
  pub at : At
  pub some : 0 < at.index
  pub reached : IsReached disk.tells head.head r.region (disk.bytes device) at
  pub bytes : List ℕ
  pub bytes_are : IsTrue disk.tells
      → bytes ≡ what_is_walked head.head r.region at (disk.bytes device)
  pub bad : first_bad_walked head.head at bytes ≡ Some (back_bad.Damaged want found)

-- Section i got more blocks of a bucket than a bucket has room for. Where it is sound for the log's
-- history, these are the history's own.
pub record IsCrowdedIn {D : Type 0} (score : List ℕ → List ℕ) (disk : DiskOf D) (old : Opened D)
    (i found : ℕ) : Type 0 where
  pub shard : ShardState D
  pub at : slice_get old.shards i ≡ Some shard
  pub above : BUCKET_ROOM < found
  pub crowded : (c : Setup) (h : History) → IsTrue disk.tells → IsSoundLog score disk old.log h
      → HasVersionsOf old.log c → IsSoundFrom score c disk shard h (length h) (length h)
      → (n : ℕ) × (found ≤ crowd score (bucket_count c) h n)

-- a bucket's frame has a fault, or no room for entries that were to be put into it
abbrev pub IsDamagedBucket : (n : ℕ) → (want found : FieldValue) → Type 0
IsDamagedBucket n want found = (frame : List ℕ) × (group : List Entry)
    × IsDamage n group frame (shard_err.Damaged n want found)

-- what is told as damaged is: a clump of this arena, or this bucket
abbrev pub IsDamagedAt : {D : Type 0} → DiskOf D → LogState D → Site → (want found : FieldValue)
    → Type 0
IsDamagedAt disk l (Clump place) want found = IsDamagedIn disk l place.arena want found
IsDamagedAt disk l (Bucket n) want found = IsDamagedBucket n want found

-- a fault, damage or a bucket with too many blocks; the first section is this part of the store
abbrev pub EndsEarly : {D : Type 0} → (List ℕ → List ℕ) → DiskOf D → (part : ℕ) → Opened D
    → MountBad → Type 0
EndsEarly score disk part old bad =
    (bad ≡ Fault)
    ⊎ ((site : Site) × (want : FieldValue) × (found : FieldValue)
    × (bad ≡ Damaged site want found) × Differ want found
    × IsDamagedAt disk old.log site want found)
    ⊎ ((i : ℕ) × (found : ℕ) × (bad ≡ Disagree (part + i) Crowd found BUCKET_ROOM)
    × IsCrowdedIn score disk old i found)

-- ---- on sound devices

-- A shard that was sound but for the blocks from its mark on is sound but for those from its mark
-- up to this number, by each setup with the log's versions.
abbrev pub IsSoundTo : {D : Type 0} → (List ℕ → List ℕ) → DiskOf D → LogState D → History
    → (from : ℕ) → (before after : ShardState D) → Type 0
IsSoundTo score disk l h from before after = (c : Setup) → HasVersionsOf l c
    → IsSoundFrom score c disk before h (length h) (length h)
    → IsSoundFrom score c disk after h (length h) from

-- The blocks of the log from this number on were read back: the bits of each are set, and no shard
-- lacks the entry of one.
pub record RecallsFrom {D : Type 0} (score : List ℕ → List ℕ) (disk : DiskOf D) (h : History)
    (from : ℕ) (old new : Opened D) : Type 0 where
  pub bits : (i : ℕ) (e : Accepted) → from ≤ i → slice_get h i ≡ Some e
      → HasBitsOf new.bits (score e.block.bytes)
  pub shards : (i : ℕ) (before after : ShardState D) → slice_get old.shards i ≡ Some before
      → slice_get new.shards i ≡ Some after → IsSoundTo score disk old.log h from before after

-- A section keeps what it holds, unless more of its entries are lacking than its shard has room
-- for, by a setup with the log's versions.
abbrev pub KeepsSectionBytes : {D : Type 0} → (List ℕ → List ℕ) → DiskOf D → LogState D → History
    → (i : ℕ) → (before after : ShardState D) → Type 0
KeepsSectionBytes score disk l h i before after = (c : Setup) → HasVersionsOf l c
    → IsLive c i before.section.head → before.section.buckets ≡ section_buckets c i
    → SectionStandsFor score c h i (disk.bytes before.section.disk)
    → IsSoundFrom score c disk before h (length h) (length h)
    → (disk.bytes after.section.disk ≡ disk.bytes before.section.disk)
    ⊎ LacksMany score c h i (disk.bytes before.section.disk)

-- no bucket has more blocks than it has room for
abbrev pub FitsBuckets : (List ℕ → List ℕ) → Setup → History → Type 0
FitsBuckets score c h = (n : ℕ) → crowd score (bucket_count c) h n ≤ BUCKET_ROOM

-- ---- all that is said of it

-- The log was read back until so many blocks were left; the first section is this part of the
-- store.
pub record ReadsLogBack {D U : Type 0} (score : List ℕ → List ℕ) (disk : DiskOf D)
    (least part : ℕ) (result : Result U MountBad) (old new : Opened D) : Type 0 where
  -- Each shard is sound for the log's history afterwards, but where reading ended early it may lack
  -- entries as before. There nothing but a fault ends it early.
  pub recalls : (h : History) → IsTrue disk.tells → IsSoundLog score disk old.log h
      → MatchResult result (λ _. RecallsFrom score disk h least old new)
      (λ _. RecallsFrom score disk h (length h) old new)
  pub found : (c : Setup) (h : History) → IsTrue disk.tells → IsSoundLog score disk old.log h
      → HasVersionsOf old.log c → FitsBuckets score c h
      → ((i : ℕ) (s : ShardState D) → slice_get old.shards i ≡ Some s
      → IsSoundFrom score c disk s h (length h) (length h)) → IfErr result (λ bad. bad ≡ Fault)
  pub bytes : (h : History) (i : ℕ) (before after : ShardState D) → IsTrue disk.tells
      → IsSoundLog score disk old.log h → slice_get old.shards i ≡ Some before
      → slice_get new.shards i ≡ Some after
      → KeepsSectionBytes score disk old.log h i before after
  -- whatever the devices hold
  pub reads : ReadsBack score disk old new
  pub rest : OnOk result (AreReadBack new.bits old.log.durable new.shards)
  pub counts : CountsMount result (map disk.faults (devices_called old))
      (map disk.faults (devices_called new))
  pub ends_early : IfErr result (EndsEarly score disk part old)
  -- each entry of the others is read once
  pub calls : OnOk result (IsTrue disk.tells → sum_by disk.calls new.log.disks
      ≤ sum_by disk.calls old.log.disks + (old.log.durable - least))
