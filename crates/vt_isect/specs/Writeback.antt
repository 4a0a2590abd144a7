-- The steps of a writeback and of a change of the head.
use Rattle.std.specs.Prelude.{◌≡◌, ◌≢◌, ◌⊎◌, ⊤, ◌+◌, ◌-◌, ◌*◌, ◌%◌, ◌<◌, ℕ, List, [], ◌∷◌, ◌++◌, length, take, drop, slice_get, Option, Some, None, IsTrue, Result, Ok, Err, OnOk}
use Rattle.std.specs.List.{Contains}
use Rattle.vt_base.specs.declared.place.Entry.{Entry}
use Rattle.vt_base.specs.Faults.{CountsFault, one_more}
use Rattle.vt_disk.specs.declared.TheConstants.{SECTOR_LEN}
use Rattle.vt_disk.specs.Calls.{WritesAt, MadeCalls, IsSynced}
use Rattle.vt_disk.specs.DeviceCalls.{DeviceCall, CallMade, bytes_after}
use Rattle.vt_disk.specs.DeviceCalls.DeviceCall.{write, sync}
use Rattle.vt_twin.specs.Calls.{call_at}
use Rattle.vt_twin.specs.Frames.{frame_of, frame_start, selector_bytes, selector_start, with_frame, with_selector}
use Rattle.vt_twin.specs.Twin.{TwinState, twin_calls_made, next_call as twin_call, next_frame, after_call, with_change}
use Rattle.vt_twin.specs.declared.step.Step.{Step}
use Rattle.vt_twin.specs.declared.step.Step.TheVariants.{More, Done}
use Rattle.vt_isect.specs.declared.TheConstants.{FRAME_LEN}
use Rattle.vt_isect.specs.declared.error.ShardErr.{ShardErr}
use Rattle.vt_isect.specs.declared.error.ShardErr.TheVariants.{Fault, Damaged, Stopped}
use Rattle.vt_isect.specs.declared.groups.Member.{Member}
use Rattle.vt_isect.specs.declared.head.Head.{Head}
use Rattle.vt_isect.specs.declared.phase.Phase.{Phase}
use Rattle.vt_isect.specs.declared.phase.Phase.TheVariants.{Rest, ReadSelector, ReadFrame, WriteFrame, SyncFrames, WriteSelector, SyncSelectors, ChangeHead}
use Rattle.vt_isect.specs.Faults.{is_section_fault}
use Rattle.vt_isect.specs.Head.{IsHead, encoded}
use Rattle.vt_isect.specs.Section.{SectionState, AreNext, IsChanging, IsOfGroup, IsTodo, call_count, entering, entries_of}
use Rattle.vt_disk.specs.declared.region.Region.{Region}
use Rattle.vt_disk.specs.Members.{DiskOf}
use Rattle.vt_disk.specs.Region.{Inside}
use Rattle.vt_isect.specs.Layout.{head_place, bucket_place, IsBucketPlace}
use Rattle.vt_isect.specs.Merging.{IsDamage, IsMerged, Merges}
use Rattle.vt_isect.specs.Sound.{KnownBuckets, DiskHolds, StillNames}
use Rattle.vt_isect.specs.Agreement.{IsMarkCovered, KnownAgrees}
use Rattle.vt_model.specs.History.{History}
use Rattle.vt_model.specs.Places.{Setup}

-- how many entries stand behind those of the bucket under way
abbrev pub later : {D : Type 0} → SectionState D → ℕ
later t = length (entries_of t) - t.begun

-- How many device calls what is under way makes at most: for each bucket two reads and two writes,
-- for each group two syncs, and four for the head. No more buckets come than there are entries for
-- them, and no more groups than buckets.
abbrev pub most_calls : {D : Type 0} → Phase → SectionState D → ℕ
most_calls Rest t = 0
most_calls ReadSelector t = 6 * later t + length t.group + 10
most_calls (ReadFrame s) t = 6 * later t + length t.group + 9
most_calls (WriteFrame s) t = 6 * later t + length t.group + 8
most_calls SyncFrames t = 6 * later t + length t.group + 6
most_calls (WriteSelector j) t = 6 * later t + (length t.group - j) + 5
most_calls SyncSelectors t = 6 * later t + 5
most_calls ChangeHead t = 4 - twin_calls_made t.head_twin

-- how many device calls the writeback under way makes at most from here on
abbrev pub calls_left : {D : Type 0} → SectionState D → ℕ
calls_left t = most_calls t.phase t

-- these fields stay in every step
pub record IsOfSection {D : Type 0} (old new : SectionState D) : Type 0 where
  pub buckets : new.buckets ≡ old.buckets
  pub name : new.name ≡ old.name
  pub entries : new.entries ≡ old.entries
  pub most : new.most ≡ old.most

-- The group and the bucket that are under way stay the same.
pub record SameGroup {D : Type 0} (old new : SectionState D) : Type 0 where
  pub written : new.written ≡ old.written
  pub framed : new.framed ≡ old.framed
  pub begun : new.begun ≡ old.begun
  pub bucket : new.bucket ≡ old.bucket
  pub group : new.group ≡ old.group

-- nothing is under way any more, and this is the head
pub record EndsWith {D : Type 0} (head : Head) (old new : SectionState D) : Type 0 where
  pub section : IsOfSection old new
  pub written : new.written ≡ old.written
  pub group : new.group ≡ []
  pub head_is : new.head ≡ head
  pub next_is : new.next ≡ head
  pub phase : new.phase ≡ Rest
  pub calls : new.calls ≡ one_more old.calls
  pub stopped : new.stopped ≡ None

-- What is under way in the section stays so.
pub record SectionGoesOn {D : Type 0} (old new : SectionState D) : Type 0 where
  pub section : IsOfSection old new
  pub head_is : new.head ≡ old.head
  pub next_is : new.next ≡ old.next
  pub calls : new.calls ≡ one_more old.calls

-- the next call reads
abbrev pub NextCallReads : Phase → Type 0
NextCallReads Rest = ⊥
NextCallReads ReadSelector = ⊤
NextCallReads (ReadFrame s) = ⊤
NextCallReads (WriteFrame s) = ⊥
NextCallReads SyncFrames = ⊥
NextCallReads (WriteSelector j) = ⊥
NextCallReads SyncSelectors = ⊥
NextCallReads ChangeHead = ⊥

-- Behind the first so many entries, which are written or in frames of the group, the bucket of the
-- next ones is under way. It takes some, and all that there are. Its selector is read first or,
-- where its current frame is remembered, that frame.
abbrev pub BeginsBucket : {D : Type 0} → (from : ℕ) → SectionState D → Type 0
BeginsBucket from t = NextCallReads t.phase × (t.framed ≡ from) × (from < t.begun)
    × AreNext t.head.total t.bucket t.framed t.begun (entries_of t)

-- So many entries are written, and the next group begins.
abbrev pub BeginsGroup : {D : Type 0} → (from : ℕ) → SectionState D → Type 0
BeginsGroup from t = BeginsBucket from t × (t.written ≡ from) × (t.group ≡ [])

-- So many entries are written, which are all, and the head is under way: its change to the frame
-- that is written of the next one.
abbrev pub BeginsHead : {D : Type 0} → (from : ℕ) → SectionState D → Type 0
BeginsHead from t = (t.phase ≡ ChangeHead) × (t.written ≡ from) × (t.group ≡ [])
    × (length (entries_of t) ≡ from) × (twin_calls_made t.head_twin ≡ 0)
    × (next_frame t.head_twin ≡ encoded t.name t.next)

-- behind the first so many entries the next ones are under way or, where there are none, the head
abbrev pub BeginsBehind : {D : Type 0} → (from : ℕ) → SectionState D → Type 0
BeginsBehind from t = BeginsGroup from t ⊎ BeginsHead from t

-- The bucket under way, whose current frame has this number, is one of the group now.
pub record JoinsGroup {D : Type 0} (current : ℕ) (old new : SectionState D) : Type 0 where
  pub group : new.group ≡ old.group ++ record { bucket = old.bucket; current = current } ∷ []
  pub written : new.written ≡ old.written

-- The group is whole: it has as many buckets as it may have, or no entries are left.
abbrev pub IsFull : {D : Type 0} → SectionState D → Type 0
IsFull t = (length t.group ≡ t.most) ⊎ (length (entries_of t) ≡ t.begun)

-- What the next call does after this one: a bucket's selector is read, where its current frame
-- isn't remembered, then the frame that it names, and its idle frame is written; so for each bucket
-- of a group. Then one sync is made for them, the selector of each is written, and one sync is made
-- for these; behind the last of the entries come the calls of the head.
abbrev pub NextPhase : {D : Type 0} → Phase → (old new : SectionState D) → Type 0
NextPhase Rest old new = ⊥
NextPhase ReadSelector old new =
    ((s : ℕ) × (new.phase ≡ ReadFrame s)) × SameGroup old new
NextPhase (ReadFrame s) old new = (new.phase ≡ WriteFrame (s % 2)) × SameGroup old new
NextPhase (WriteFrame s) old new = JoinsGroup s old new
    × (((length new.group < new.most) × BeginsBucket old.begun new)
    ⊎ ((new.phase ≡ SyncFrames) × (new.framed ≡ old.begun) × (new.begun ≡ old.begun)
    × IsFull new))
NextPhase SyncFrames old new = (new.phase ≡ WriteSelector 0) × SameGroup old new
NextPhase (WriteSelector j) old new = SameGroup old new
    × (((j + 1 < length new.group) × (new.phase ≡ WriteSelector (j + 1)))
    ⊎ ((j + 1 ≡ length new.group) × (new.phase ≡ SyncSelectors)))
NextPhase SyncSelectors old new = BeginsBehind old.begun new
NextPhase ChangeHead old new =
    (twin_calls_made old.head_twin ≢ 3) × (new.phase ≡ ChangeHead)
    × (new.head_twin ≡ after_call old.head_twin) × SameGroup old new

-- the place of bucket n
abbrev pub InBucket : {D : Type 0} → SectionState D → (n i : ℕ) → Type 0
InBucket t n i = (region : Region) × IsBucketPlace (n - t.head.first) region × Inside region i

-- what the next call may write: the place of the bucket under way, that of a bucket of the group,
-- or that of the head
abbrev pub MayWrite : {D : Type 0} → Phase → SectionState D → (i : ℕ) → Type 0
MayWrite Rest t i = ⊥
MayWrite ReadSelector t i = ⊥
MayWrite (ReadFrame s) t i = ⊥
MayWrite (WriteFrame s) t i = InBucket t t.bucket i
MayWrite SyncFrames t i = ⊥
MayWrite (WriteSelector j) t i =
    (member : Member) × (slice_get t.group j ≡ Some member) × InBucket t member.bucket i
MayWrite SyncSelectors t i = ⊥
MayWrite ChangeHead t i = Inside head_place i

-- what a read gives after the next call of the change under way in this region
abbrev pub read_after : TwinState → Region → (read : List ℕ) → List ℕ
read_after twin region read =
    bytes_after (call_at (twin_calls_made twin) region FRAME_LEN twin.current (next_frame twin))
    read

-- What the next call writes, where it succeeds: an idle frame, the selector that names it, or what
-- the change of the head writes.
abbrev pub NextCallWrites : {D : Type 0} → Phase → SectionState D → (read reads : List ℕ) → Type 0
NextCallWrites Rest t read reads = ⊥
NextCallWrites ReadSelector t read reads = reads ≡ read
NextCallWrites (ReadFrame s) t read reads = reads ≡ read
NextCallWrites (WriteFrame s) t read reads =
    (region : Region) → IsBucketPlace (t.bucket - t.head.first) region
    → reads ≡ with_frame region FRAME_LEN (1 - s) t.frame read
NextCallWrites SyncFrames t read reads = reads ≡ read
NextCallWrites (WriteSelector j) t read reads = (member : Member) (region : Region)
    → slice_get t.group j ≡ Some member → IsBucketPlace (member.bucket - t.head.first) region
    → reads ≡ with_selector region FRAME_LEN (1 - member.current) read
NextCallWrites SyncSelectors t read reads = reads ≡ read
NextCallWrites ChangeHead t read reads = reads ≡ read_after t.head_twin head_place read

-- the next call is a sync: of the group's frames, of its selectors, or one of the head's change
abbrev pub NextCallSyncs : {D : Type 0} → Phase → SectionState D → Type 0
NextCallSyncs Rest t = ⊥
NextCallSyncs ReadSelector t = ⊥
NextCallSyncs (ReadFrame s) t = ⊥
NextCallSyncs (WriteFrame s) t = ⊥
NextCallSyncs SyncFrames t = ⊤
NextCallSyncs (WriteSelector j) t = ⊥
NextCallSyncs SyncSelectors t = ⊤
NextCallSyncs ChangeHead t = (twin_calls_made t.head_twin ≡ 1) ⊎ (twin_calls_made t.head_twin ≡ 3)

-- the write of the selector that names the idle frame of a member of the group (there is one)
abbrev pub selector_write : {D : Type 0} → SectionState D → Option Member → DeviceCall
selector_write t None = sync
selector_write t (Some member) =
    write (selector_start (bucket_place (member.bucket - t.head.first)) FRAME_LEN)
    (selector_bytes (1 - member.current) SECTOR_LEN)

-- The next call, where it is a write or a sync. Of a read, and at rest, it tells nothing.
abbrev pub next_section_call : {D : Type 0} → Phase → SectionState D → DeviceCall
next_section_call Rest t = sync
next_section_call ReadSelector t = sync
next_section_call (ReadFrame s) t = sync
next_section_call (WriteFrame s) t =
    write (frame_start (bucket_place (t.bucket - t.head.first)) FRAME_LEN (1 - s)) t.frame
next_section_call SyncFrames t = sync
next_section_call (WriteSelector j) t = selector_write t (slice_get t.group j)
next_section_call SyncSelectors t = sync
next_section_call ChangeHead t = twin_call t.head_twin head_place

-- A fault in a read ends the writeback. One in a write or sync stops the section at that call.
abbrev pub EndsOrStops : {D : Type 0} → (old new : SectionState D) → Type 0
EndsOrStops old new =
    (NextCallReads old.phase × EndsWith old.head old new)
    ⊎ (¬ NextCallReads old.phase × SectionGoesOn old new × (new.phase ≡ old.phase)
    × SameGroup old new × (new.stopped ≡ Some old.calls))

-- what `advance` makes of a section
abbrev pub SectionAdvances : {D : Type 0} → Result Step ShardErr → (old new : SectionState D)
    → Type 0
SectionAdvances (Ok More) old new =
    SectionGoesOn old new × (new.stopped ≡ None) × NextPhase old.phase old new
SectionAdvances (Ok Done) old new =
    (old.phase ≡ ChangeHead) × (twin_calls_made old.head_twin ≡ 3) × EndsWith old.next old new
SectionAdvances (Err Fault) old new = EndsOrStops old new
SectionAdvances (Err (Damaged bucket want found)) old new =
    ((s : ℕ) × (old.phase ≡ ReadFrame s)) × EndsWith old.head old new
SectionAdvances (Err (Stopped n)) old new = (old.stopped ≡ Some n) × (new ≡ old)

-- the sync of the selectors, where it succeeds: the changes of all buckets of the group end
abbrev pub Completes : {D : Type 0} → Result Step ShardErr → SectionState D → (n : ℕ) → Type 0
Completes result old n = (result ≡ Ok More) × (old.phase ≡ SyncSelectors) × IsChanging old n

-- the step put this entry into its bucket, where it is whatever a crash leaves
abbrev pub WritesEntryBack : {D : Type 0} → (old new : SectionState D) → Entry → Type 0
WritesEntryBack old new entry =
    Contains (drop old.written (take new.written (entries_of old))) entry

-- What is known after a step, while the section has the same buckets: each bucket that it completed
-- has the group's entries in it, and each other one what it had.
pub record Follows {D : Type 0} (result : Result Step ShardErr) (old new : SectionState D)
    (known knows : KnownBuckets) : Type 0 where
  pub kept : (n : ℕ) → new.head.first ≡ old.head.first → ¬ Completes result old n
      → knows n ≡ known n
  pub merged : (n : ℕ) (entries : List Entry) → new.head.first ≡ old.head.first
      → Completes result old n → known n ≡ Some entries
      → (merged : List Entry) × (knows n ≡ Some merged) × Merges entries (IsOfGroup old n) merged

-- The disk stays sound for the section, and what is known goes on to agree with each history that
-- it agreed with.
abbrev pub KeepsDiskSound : {D : Type 0} → DiskOf D → Result Step ShardErr
    → (old new : SectionState D)
    → Type 0
KeepsDiskSound disk result old new = (known : KnownBuckets) → DiskHolds disk old known
    → (knows : KnownBuckets) × Follows result old new known knows × DiskHolds disk new knows
    × ((score : List ℕ → List ℕ) (c : Setup) (h : History)
    → KnownAgrees score c h old known → KnownAgrees score c h new knows)

-- A mark that is covered with the help of some entries stays so. Where the step succeeds, so does
-- one that is covered with the help of those that are still to be put into their buckets.
abbrev pub KeepsCovered : {D : Type 0} → (List ℕ → List ℕ) → Setup → History
    → Result Step ShardErr → (old new : SectionState D) → (known knows : KnownBuckets) → Type 0
KeepsCovered score c h result old new known knows = (mark : ℕ)
    → ((others : List Entry) → IsMarkCovered score c h old known (Contains others) mark
    → IsMarkCovered score c h new knows (Contains others) mark)
    × OnOk result (IsMarkCovered score c h old known (IsTodo old) mark
    → IsMarkCovered score c h new knows (IsTodo new) mark)

-- ---- the parts of a step

-- the next call of what is under way was made, and counted, and nothing else has changed
pub record MakesNext {D E : Type 0} (disk : DiskOf D) (result : Result Unit E)
    (old new : SectionState D) : Type 0 where
  pub makes : CallMade disk (next_section_call old.phase old) result (call_count old)
      (call_count new)
      old.disk new.disk
  pub same : new ≡ record old { disk = new.disk; calls = new.calls; stopped = new.stopped }

-- what is under way behind a call for a group that succeeded, and nothing else has changed
pub record ComesNext {D : Type 0} (disk : DiskOf D) (old new : SectionState D) : Type 0 where
  pub section : IsOfSection old new
  pub disk_is : new.disk ≡ old.disk
  pub head_is : new.head ≡ old.head
  pub next_is : new.next ≡ old.next
  pub calls : new.calls ≡ old.calls
  pub stopped : new.stopped ≡ old.stopped
  pub phase : NextPhase old.phase old new
  pub group_twin : new.phase ≢ ChangeHead → new.head_twin ≡ old.head_twin
  pub head_twin : new.phase ≡ ChangeHead
      → (new.head_twin ≡ with_change (encoded old.name old.next) old.head_twin) × IsHead old.next
  pub named : (s : ℕ) → IsTrue disk.tells → new.phase ≡ ReadFrame s
      → StillNames new (s % 2) (disk.bytes new.disk)

-- this is the frame of the bucket under way that a selector with this first byte names
abbrev pub IsNamedFrame : {D : Type 0} → DiskOf D → SectionState D → (selector : ℕ) → List ℕ → Type 0
IsNamedFrame disk t selector read = (region : Region) → IsTrue disk.tells
    → IsBucketPlace (t.bucket - t.head.first) region
    → read ≡ frame_of region FRAME_LEN (selector % 2) (disk.bytes t.disk)

-- the frame that the bucket under way gets has the entries of that one, and those put into it
abbrev pub GetsFrame : {D : Type 0} → DiskOf D → (selector : ℕ) → (old new : SectionState D)
    → Type 0
GetsFrame disk selector old new = (read : List ℕ)
    × IsMerged old.bucket (entering old) read new.frame × IsNamedFrame disk old selector read

-- The frame of the bucket under way has a fault, or the entries can't be put into it.
abbrev pub FindsDamage : {D : Type 0} → DiskOf D → (selector : ℕ) → SectionState D → ShardErr
    → Type 0
FindsDamage disk selector t bad = (read : List ℕ)
    × IsDamage t.bucket (entering t) read bad × IsNamedFrame disk t selector read

-- What a step does, which makes one call: to what is known and what is under way, and to the disk.
pub record SectionTakesStep {D : Type 0} (disk : DiskOf D) (result : Result Step ShardErr)
    (old new : SectionState D) : Type 0 where
  pub sound : IsTrue disk.tells → KeepsDiskSound disk result old new
  pub steps : SectionAdvances result old new
  pub written : IsTrue disk.tells
      → OnOk result (NextCallWrites old.phase old (disk.bytes old.disk) (disk.bytes new.disk))
  pub settled : NextCallSyncs old.phase old → OnOk result (IsSynced disk new.disk)
  pub writes : WritesAt disk (MayWrite old.phase old) 1 old.disk new.disk
  pub calls : MadeCalls disk 1 old.disk new.disk
  pub faults : CountsFault is_section_fault result (disk.faults old.disk) (disk.faults new.disk)
