-- A section as its calls see it.
use Rattle.std.specs.Prelude.{◌≡◌, ◌≢◌, ⊤, ℕ, ◌+◌, ◌*◌, ◌<◌, ◌≤◌, false, List, [], length, take, drop, replicate, Option, Some, None, is_some, MatchOption, if◌then◌else◌, Result, Ok, Err}
use Rattle.std.specs.List.{AllPairs, Contains}
use Rattle.vt_base.specs.declared.place.Entry.{Entry}
use Rattle.vt_disk.specs.declared.TheConstants.{NAME_LEN}
use Rattle.vt_disk.specs.declared.call.CallCount.{CallCount}
use Rattle.vt_disk.specs.Members.{DiskOf}
use Rattle.vt_model.specs.Places.{bucket_of}
use Rattle.vt_twin.specs.Twin.{FrameChange, TwinState, fresh}
use Rattle.vt_isect.specs.declared.TheConstants.{FRAME_LEN, GROUP_MAX, HEAD_PLACE_LEN, BUCKET_PLACE_LEN}
use Rattle.vt_isect.specs.declared.error.SectBad.{SectBad}
use Rattle.vt_isect.specs.declared.groups.Member.{Member}
use Rattle.vt_isect.specs.declared.head.Head.{Head}
use Rattle.vt_isect.specs.declared.phase.Phase.{Phase}
use Rattle.vt_isect.specs.declared.phase.Phase.TheVariants.{Rest, ReadSelector, ReadFrame, WriteFrame, SyncFrames, WriteSelector, SyncSelectors, ChangeHead}
use Rattle.vt_isect.specs.Entries.{EntriesState, IsOrdered, listed_entries}
use Rattle.vt_isect.specs.Layout.{InRange}
use Rattle.vt_isect.specs.Remembered.{Remembers}

-- A section: its disk, how many buckets it has, its name and its head; the head that it gets by
-- what is under way, which is its own one at rest; what the next device call of `advance` does; the
-- entries of the writeback that is under way or was the last, until they are handed back. Of these,
-- from the first on, how many are in their buckets; how many are there or in a frame of the group;
-- and how many are there or on the way into the bucket under way. The number of that bucket, and
-- the frame that it gets; the group, buckets whose idle frames were written and wait for one sync,
-- and how many it has at most; the twin of the head; how many device calls `advance` has made, and
-- the number of the one that stopped it.
pub record SectionState (D : Type 0) : Type 0 where
  pub disk : D
  pub buckets : ℕ
  pub name : List ℕ
  pub head : Head
  pub next : Head
  pub phase : Phase
  pub entries : Option EntriesState
  pub written : ℕ
  pub framed : ℕ
  pub begun : ℕ
  pub bucket : ℕ
  pub frame : List ℕ
  pub group : List Member
  pub most : ℕ
  pub head_twin : TwinState
  pub calls : ℕ
  pub stopped : Option ℕ

-- The calls of a section, as a count of device calls.
abbrev pub call_count : {D : Type 0} → SectionState D → CallCount
call_count t = record { made = t.calls; stopped = t.stopped }

-- the entries of the writeback under way
abbrev pub entries_of : {D : Type 0} → SectionState D → List Entry
entries_of t = listed_entries t.entries

-- the entries that are put into the bucket under way
abbrev pub entering : {D : Type 0} → SectionState D → List Entry
entering t = drop t.framed (take t.begun (entries_of t))

-- nothing is under way
abbrev pub IsAtRest : {D : Type 0} → SectionState D → Type 0
IsAtRest t = t.phase ≡ Rest

-- a bucket is under way: it is read, or its idle frame is written
abbrev pub HasBucket : Phase → Type 0
HasBucket Rest = ⊥
HasBucket ReadSelector = ⊤
HasBucket (ReadFrame selector) = ⊤
HasBucket (WriteFrame current) = ⊤
HasBucket SyncFrames = ⊥
HasBucket (WriteSelector member) = ⊥
HasBucket SyncSelectors = ⊥
HasBucket ChangeHead = ⊥

-- the group is whole, and what is left are its syncs and selectors
abbrev pub HasGroup : Phase → Type 0
HasGroup Rest = ⊥
HasGroup ReadSelector = ⊥
HasGroup (ReadFrame selector) = ⊥
HasGroup (WriteFrame current) = ⊥
HasGroup SyncFrames = ⊤
HasGroup (WriteSelector member) = ⊤
HasGroup SyncSelectors = ⊤
HasGroup ChangeHead = ⊥

-- entries are on the way into their buckets
abbrev pub PutsEntries : Phase → Type 0
PutsEntries Rest = ⊥
PutsEntries ReadSelector = ⊤
PutsEntries (ReadFrame selector) = ⊤
PutsEntries (WriteFrame current) = ⊤
PutsEntries SyncFrames = ⊤
PutsEntries (WriteSelector member) = ⊤
PutsEntries SyncSelectors = ⊤
PutsEntries ChangeHead = ⊥

-- a write or a sync for buckets of a group is next
abbrev pub ChangesGroup : Phase → Type 0
ChangesGroup Rest = ⊥
ChangesGroup ReadSelector = ⊥
ChangesGroup (ReadFrame selector) = ⊥
ChangesGroup (WriteFrame current) = ⊤
ChangesGroup SyncFrames = ⊤
ChangesGroup (WriteSelector member) = ⊤
ChangesGroup SyncSelectors = ⊤
ChangesGroup ChangeHead = ⊥

-- the number of the bucket of an entry
abbrev pub bucket_number : {D : Type 0} → SectionState D → Entry → ℕ
bucket_number t entry = bucket_of t.head.total entry.key.score.0

-- the entry is still to be put into its bucket, or on the way there
abbrev pub IsTodo : {D : Type 0} → SectionState D → Entry → Type 0
IsTodo t entry = PutsEntries t.phase × Contains (drop t.written (entries_of t)) entry

-- the entry is put into bucket n, which is one of the group, by the frame that was written
abbrev pub IsOfGroup : {D : Type 0} → SectionState D → (n : ℕ) → Entry → Type 0
IsOfGroup t n entry =
    Contains (drop t.written (take t.framed (entries_of t))) entry × (bucket_number t entry ≡ n)

-- bucket n is this one of the group: its idle frame was written, and isn't named for good yet
abbrev pub IsMember : {D : Type 0} → SectionState D → (n : ℕ) → Member → Type 0
IsMember t n member = PutsEntries t.phase × Contains t.group member × (member.bucket ≡ n)

-- the writeback under way changes this bucket
abbrev pub IsChanging : {D : Type 0} → SectionState D → (n : ℕ) → Type 0
IsChanging t n = (member : Member) × IsMember t n member

-- the bucket under way, if there is one
abbrev pub bucket_under_way : Phase → ℕ → Option ℕ
bucket_under_way Rest bucket = None
bucket_under_way ReadSelector bucket = Some bucket
bucket_under_way (ReadFrame selector) bucket = Some bucket
bucket_under_way (WriteFrame current) bucket = Some bucket
bucket_under_way SyncFrames bucket = None
bucket_under_way (WriteSelector member) bucket = None
bucket_under_way SyncSelectors bucket = None
bucket_under_way ChangeHead bucket = None

-- How many buckets a group has at most: behind a writeback that ended early one, so that the bucket
-- at which that ended keeps no other from being written.
abbrev pub most_after : (behind : Option ℕ) → ℕ
most_after behind = if is_some behind then 1 else GROUP_MAX

-- a section that was mounted and has made no call
abbrev pub mounted_section : {D : Type 0} → D → (buckets : ℕ) → (name : List ℕ) → Head
    → (number : ℕ)
    → SectionState D
mounted_section disk buckets name head number = record {
  disk = disk;
  buckets = buckets;
  name = name;
  head = head;
  next = head;
  phase = Rest;
  entries = None;
  written = 0;
  framed = 0;
  begun = 0;
  bucket = 0;
  frame = replicate FRAME_LEN 0;
  group = [];
  most = GROUP_MAX;
  head_twin = fresh FRAME_LEN number;
  calls = 0;
  stopped = None;
}

-- the disk after mounting, whatever the answer
abbrev pub disk_after : {D : Type 0} → Result (SectionState D) (SectBad × D) → D
disk_after (Ok section) = section.disk
disk_after (Err refusal) = refusal.1

-- the numbers of the entries' buckets are in the section's range
abbrev pub AreInRange : (head : Head) → (buckets : ℕ) → List Entry → Type 0
AreInRange head buckets entries = (entry : Entry) → Contains entries entry
    → InRange head buckets (bucket_of head.total entry.key.score.0)

-- Of these entries, those behind the first `framed` up to the first `begun` belong to this bucket,
-- and none behind them does.
pub record AreNext (total bucket framed begun : ℕ) (entries : List Entry) : Type 0 where
  pub order : framed ≤ begun
  pub within : begun ≤ length entries
  pub own : (entry : Entry) → Contains (drop framed (take begun entries)) entry
      → bucket_of total entry.key.score.0 ≡ bucket
  pub all : (entry : Entry) → Contains (drop begun entries) entry
      → bucket_of total entry.key.score.0 ≢ bucket

-- ---- what holds of every section

-- a section at rest isn't stopped, and the head that it gets is its own
pub record IsIdleSection {D : Type 0} (t : SectionState D) : Type 0 where
  pub goes : t.stopped ≡ None
  pub next : t.next ≡ t.head

-- the buffer of the head's frame is here, or a change has it
abbrev pub IsHere : Option (List ℕ) → Type 0
IsHere buffer = MatchOption buffer ⊥ (λ frame. length frame ≡ FRAME_LEN)

-- the head's twin has the frame, and has made fewer than its four calls
abbrev pub IsLent : Option FrameChange → Type 0
IsLent change = MatchOption change ⊥ (λ it. (length it.frame ≡ FRAME_LEN) × (it.made < 4))

-- the buffer for the head's frame is with the twin while the head changes, and else with the
-- section
pub record HasHeadFrame {D : Type 0} (t : SectionState D) (buffer : Option (List ℕ)) : Type 0 where
  pub lent : t.phase ≡ ChangeHead → IsLent t.head_twin.change
  pub here : t.phase ≢ ChangeHead → IsHere buffer × (t.head_twin.change ≡ None)

-- While entries are put into their buckets: those that are in frames of the group belong to its
-- buckets, and none behind them does. No bucket is in the group twice.
pub record IsGroup {D : Type 0} (t : SectionState D) : Type 0 where
  pub order : (t.written ≤ t.framed) × (t.framed ≤ t.begun) × (t.begun ≤ length (entries_of t))
  pub ordered : (behind : Option ℕ) × IsOrdered t.head.total behind (entries_of t)
  pub in_range : AreInRange t.head t.buckets (entries_of t)
  pub own : (entry : Entry) → Contains (drop t.written (take t.framed (entries_of t))) entry
      → IsChanging t (bucket_number t entry)
  pub behind : (entry : Entry) → Contains (drop t.framed (entries_of t)) entry
      → ¬ IsChanging t (bucket_number t entry)
  pub apart : AllPairs (λ a b. a.bucket ≢ b.bucket) t.group
  pub members : (member : Member) → Contains t.group member
      → InRange t.head t.buckets member.bucket × (member.current < 2)
  -- a bucket is under way, for which the group has room
  pub bucket : HasBucket t.phase → InRange t.head t.buckets t.bucket
  pub next : HasBucket t.phase → (t.framed < t.begun) × (length t.group < t.most)
      × AreNext t.head.total t.bucket t.framed t.begun (entries_of t)
  pub current : (s : ℕ) → t.phase ≡ WriteFrame s → s < 2
  -- the group is whole
  pub whole : HasGroup t.phase → (0 < length t.group) × (t.framed ≡ t.begun)
  pub selector : (j : ℕ) → t.phase ≡ WriteSelector j → j < length t.group

-- The invariant of a section in memory: sizes, buffers, counts and what is under way fit each other
-- and the disk.
pub record IsWell {D : Type 0} (disk : DiskOf D) (size : ℕ) (t : SectionState D)
    (head_frame : Option (List ℕ)) (capacity : ℕ) (frames : List (Option ℕ)) : Type 0 where
  pub room : HEAD_PLACE_LEN + BUCKET_PLACE_LEN * t.buckets ≤ size
  pub name_len : length t.name ≡ NAME_LEN
  pub head_len : t.head_twin.frame_len ≡ FRAME_LEN
  pub frame_len : length t.frame ≡ FRAME_LEN
  pub buffer : HasHeadFrame t head_frame
  pub most : (0 < t.most) × (t.most ≤ GROUP_MAX)
  pub memory : GROUP_MAX ≤ capacity
  pub few : length t.group ≤ t.most
  pub group : PutsEntries t.phase → IsGroup t
  pub alone : ¬ PutsEntries t.phase → t.group ≡ []
  pub rest : IsAtRest t → IsIdleSection t
  pub goes : t.stopped ≡ None → t.head_twin.failed ≡ false
  pub remembers : Remembers disk t.disk t.buckets frames
