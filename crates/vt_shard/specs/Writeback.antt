-- How a shard's writeback begins, and its steps.
use Rattle.std.specs.Prelude.{◌≡◌, ◌≢◌, ◌⊎◌, ◌↔◌, ℕ, ◌-◌, ◌%◌, ◌<◌, max, IsTrue, IsSome, IfOk, IfErr, OnOk, IsPermutation, None, Some, Result, Ok, Err, List, [], ◌∷◌, ◌++◌, map, take, drop}
use Rattle.std.specs.List.{All, Contains}
use Rattle.vt_base.specs.Faults.{CountsFault}
use Rattle.vt_base.specs.declared.place.Entry.{Entry}
use Rattle.vt_base.specs.declared.place.Info.{Info}
use Rattle.vt_disk.specs.Calls.{IsSynced, MadeCalls, WritesAt}
use Rattle.vt_disk.specs.Members.{DiskOf}
use Rattle.vt_disk.specs.declared.region.Region.{Region}
use Rattle.vt_icache.specs.Index.{IndexState, entry_of, entries_below, with_clean}
use Rattle.vt_isect.specs.Entries.{IsOrdered}
use Rattle.vt_isect.specs.Faults.{NamesDamage, is_section_fault}
use Rattle.vt_isect.specs.Layout.{IsBucketPlace}
use Rattle.vt_isect.specs.Merging.{IsMerged, IsDamage}
use Rattle.vt_isect.specs.Section.{SectionState, IsAtRest, bucket_number, bucket_under_way, entering, entries_of, most_after}
use Rattle.vt_isect.specs.Writeback.{SectionAdvances, BeginsBehind, MayWrite, NextCallSyncs, NextCallWrites, calls_left}
use Rattle.vt_isect.specs.declared.TheConstants.{FRAME_LEN}
use Rattle.vt_isect.specs.declared.error.ShardErr.{ShardErr}
use Rattle.vt_isect.specs.declared.error.ShardErr.TheVariants.{Fault, Stopped}
use Rattle.vt_isect.specs.declared.phase.Phase.{Phase}
use Rattle.vt_isect.specs.declared.phase.Phase.TheVariants.{Rest, ReadSelector, ReadFrame, WriteFrame, SyncFrames, WriteSelector, SyncSelectors, ChangeHead}
use Rattle.vt_twin.specs.Frames.{frame_of}
use Rattle.vt_twin.specs.Twin.{twin_calls_made}
use Rattle.vt_twin.specs.declared.step.Step.{Step}
use Rattle.vt_twin.specs.declared.step.Step.TheVariants.{Done}
use Rattle.vt_shard.specs.Shard.{ShardState, HasBelow, KeepsPlace, ReadBucket}

-- ---- the beginning

-- A writeback of the blocks below a number has something to do: one of them is dirty, or it raises
-- the mark.
abbrev pub HasWork : {D : Type 0} → (below : ℕ) → ShardState D → Type 0
HasWork below t = HasBelow below t.index.dirty ⊎ (t.section.head.mark < below)

-- A writeback began of the entries of the blocks below a number, and the head gets this mark behind
-- them. Its buckets come in the order of their numbers, but that those up to the one at which the
-- last writeback ended early come behind the others, and each by itself then.
pub record BeginsShardWriteback {D : Type 0} (below mark : ℕ) (old new : ShardState D)
    : Type 0 where
  pub section : new.section ≡ record old.section {
    next = record old.section.head { mark = mark };
    phase = new.section.phase;
    entries = new.section.entries;
    written = new.section.written;
    framed = new.section.framed;
    begun = new.section.begun;
    bucket = new.section.bucket;
    most = new.section.most;
    head_twin = new.section.head_twin;
  }
  pub begins : BeginsBehind 0 new.section
  pub most : new.section.most ≡ most_after old.ended_at
  pub entries : IsPermutation (entries_below below old.index.dirty) (entries_of new.section)
  pub ordered : IsOrdered old.section.head.total old.ended_at (entries_of new.section)
  pub shard : new ≡ record old {
    section = new.section;
    writeback = Some below;
    filed = max old.filed below;
  }

-- ---- a step

-- the entries that a step put into their buckets, where they are whatever a crash leaves
abbrev pub written_back : {D : Type 0} → (old new : SectionState D) → List Entry
written_back old new = drop old.written (take new.written (entries_of old))

-- the step put an entry into bucket n
abbrev pub PutsIntoBucket : {D : Type 0} → (old new : SectionState D) → (n : ℕ) → Type 0
PutsIntoBucket old new n =
    (entry : Entry) × Contains (written_back old new) entry × (bucket_number old entry ≡ n)

-- the section, of which the memory of its list is taken back at rest
abbrev pub without_list : {D : Type 0} → Phase → SectionState D → SectionState D
without_list Rest t = record t { entries = None }
without_list ReadSelector t = t
without_list (ReadFrame selector) t = t
without_list (WriteFrame current) t = t
without_list SyncFrames t = t
without_list (WriteSelector member) t = t
without_list SyncSelectors t = t
without_list ChangeHead t = t

-- what `advance` makes of a shard, beside the entries in memory
pub record ShardAdvances {D : Type 0} (result : Result Step ShardErr) (old new : ShardState D)
    : Type 0 where
  pub section : (after : SectionState D) × SectionAdvances result old.section after
      × (new.section ≡ without_list after.phase after)
  -- the writeback goes on until nothing is under way
  pub ends : IsAtRest new.section → new.writeback ≡ None
  pub goes_on : ¬ IsAtRest new.section → new.writeback ≡ old.writeback
  -- where it ends early it was at a bucket, behind which the next one begins
  pub ended_at : IsAtRest new.section
      → new.ended_at ≡ bucket_under_way old.section.phase old.section.bucket
  pub not_ended : ¬ IsAtRest new.section → new.ended_at ≡ old.ended_at
  -- the bucket that was read last is kept until an entry is written back to it
  pub read : (bucket : ReadBucket) → old.bucket ≡ Some bucket
      → PutsIntoBucket old.section new.section bucket.number → new.bucket ≡ None
  pub kept : ((bucket : ReadBucket) → old.bucket ≡ Some bucket
      → ¬ PutsIntoBucket old.section new.section bucket.number) → new.bucket ≡ old.bucket
  pub filed : new.filed ≡ old.filed
  pub lumps : new.lumps ≡ old.lumps

-- these became clean one after another, but those for which there was no memory
abbrev pub BecomeClean : List Entry → (room : ℕ) → (old new : List Entry) → Type 0
BecomeClean [] room old new = new ≡ old
BecomeClean (entry ∷ entries) room old new = (next : List Entry)
    × ((next ≡ with_clean entry room old) ⊎ (next ≡ old))
    × BecomeClean entries room next new

-- The dirty entries that were written back, which are of blocks below a number, become clean, and
-- the others stay dirty.
pub record SettlesAll (below : ℕ) (written : List Entry) (old new : IndexState) : Type 0 where
  pub settled : List Info
  pub are : map entry_of settled ≡ written
  pub under : All (λ info. info.number < below) settled
  pub dirty : IsPermutation old.dirty (settled ++ new.dirty)
  pub clean : BecomeClean written old.clean_room old.clean new.clean
  pub room : new.room ≡ old.room
  pub clean_room : new.clean_room ≡ old.clean_room

-- What `advance` makes of a shard.
pub record ShardTakesStep {D : Type 0} (result : Result Step ShardErr) (old new : ShardState D)
    : Type 0 where
  pub advances : ShardAdvances result old new
  pub settles : (below : ℕ) → old.writeback ≡ Some below
      → SettlesAll below (written_back old.section new.section) old.index new.index
  pub idle : new.section.written ≡ old.section.written → new.index ≡ old.index
  -- it is done with the last call of the change of the head, and nothing below its number is dirty
  pub done : IfOk result (λ step. (step ≡ Done)
      ↔ ((old.section.phase ≡ ChangeHead) × (twin_calls_made old.section.head_twin ≡ 3)))
  pub filed : (below : ℕ) → result ≡ Ok Done → old.writeback ≡ Some below
      → ¬ HasBelow below new.index.dirty
  pub left : OnOk result (calls_left new.section < calls_left old.section)
  pub stopped : (n : ℕ) → (result ≡ Err (Stopped n)) ↔ (old.section.stopped ≡ Some n)
  pub untouched : IsSome old.section.stopped → new ≡ old
  pub place : KeepsPlace old new

-- ---- what it reads and writes

-- Where the disk tells, this is the frame of the bucket under way that a selector with this first
-- byte names.
abbrev pub IsFrameOf : {D : Type 0} → DiskOf D → SectionState D → (selector : ℕ) → (frame : List ℕ)
    → Type 0
IsFrameOf disk t selector frame = (region : Region) → IsTrue disk.tells
    → IsBucketPlace (t.bucket - t.head.first) region
    → frame ≡ frame_of region FRAME_LEN (selector % 2) (disk.bytes t.disk)

-- The frame that it begins to write has the entries of the frame that it read, and those of the
-- writeback that belong to the bucket. Damage is that of the frame that it read.
pub record ReadsFrame {D : Type 0} (disk : DiskOf D) (result : Result Step ShardErr)
    (old new : ShardState D) : Type 0 where
  pub merged : (s : ℕ) → OnOk result (old.section.phase ≡ ReadFrame s → (read : List ℕ)
      × IsMerged old.section.bucket (entering old.section) read new.section.frame
      × IsFrameOf disk old.section s read)
  pub names : IfErr result NamesDamage
  pub damaged : (s : ℕ) → IfErr result (λ bad. bad ≢ Fault → old.section.stopped ≡ None
      → old.section.phase ≡ ReadFrame s → (read : List ℕ)
      × IsDamage old.section.bucket (entering old.section) read bad
      × IsFrameOf disk old.section s read)

-- A step of a shard makes one device call or, where it is stopped, none.
pub record ShardMakesCall {D : Type 0} (disk : DiskOf D) (result : Result Step ShardErr)
    (old new : ShardState D) : Type 0 where
  pub faults : CountsFault is_section_fault result (disk.faults old.section.disk)
      (disk.faults new.section.disk)
  pub calls : old.section.stopped ≡ None
      → MadeCalls disk 1 old.section.disk new.section.disk
  pub writes : WritesAt disk (MayWrite old.section.phase old.section) 1
      old.section.disk new.section.disk
  pub written : IsTrue disk.tells → OnOk result (NextCallWrites old.section.phase old.section
      (disk.bytes old.section.disk) (disk.bytes new.section.disk))
  pub synced : NextCallSyncs old.section.phase old.section
      → OnOk result (IsSynced disk new.section.disk)
