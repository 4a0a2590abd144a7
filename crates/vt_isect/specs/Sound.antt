-- What a disk holds for a section, and what a crash leaves of it.
use Rattle.std.specs.Prelude.{◌≡◌, ◌≢◌, ◌⊎◌, ◌==◌, ℕ, ◌-◌, ◌%◌, nat_lt, false, List, length, Option, Some, None, IsSome, slice_get, if◌then◌else◌}
use Rattle.std.specs.List.{Contains}
use Rattle.vt_base.specs.declared.place.Entry.{Entry}
use Rattle.vt_bucket.specs.Frame.{IsBucketFrame}
use Rattle.vt_disk.specs.declared.region.Region.{Region}
use Rattle.vt_disk.specs.Members.{DiskOf}
use Rattle.vt_twin.specs.Frames.{frame_of, named_number, current_frame}
use Rattle.vt_twin.specs.Twin.{TwinState, twin_calls_made, next_frame}
use Rattle.vt_twin.specs.Sound.{IsSoundTwin, TwinHasBegunSelector}
use Rattle.vt_isect.specs.declared.TheConstants.{FRAME_LEN}
use Rattle.vt_isect.specs.declared.groups.Member.{Member}
use Rattle.vt_isect.specs.declared.head.Head.{Head}
use Rattle.vt_isect.specs.declared.phase.Phase.{Phase}
use Rattle.vt_isect.specs.declared.phase.Phase.TheVariants.{Rest, ReadSelector, ReadFrame, WriteFrame, SyncFrames, WriteSelector, SyncSelectors, ChangeHead}
use Rattle.vt_isect.specs.Head.{IsHeadFrame}
use Rattle.vt_isect.specs.Layout.{head_place, IsBucketPlace, InRange, IsSection}
use Rattle.vt_isect.specs.Merging.{Merges}
use Rattle.vt_isect.specs.Section.{SectionState, IsChanging, IsMember, IsOfGroup, entering}

-- What is known of the buckets, by their numbers: the entries of a bucket, or nothing.
abbrev pub KnownBuckets : Type 0
KnownBuckets = ℕ → Option (List Entry)

-- of no bucket it is known what entries it has
abbrev pub nothing_known : KnownBuckets
nothing_known n = None

-- of each bucket it is known what entries it has
abbrev pub all_known : (ℕ → List Entry) → KnownBuckets
all_known entries n = Some (entries n)

-- what was known, but this of one bucket
abbrev pub with_bucket : (number : ℕ) → Option (List Entry) → KnownBuckets → KnownBuckets
with_bucket number entries known n = if n == number then entries else known n

-- each bucket of the section is known
abbrev pub KnowsEachBucket : {D : Type 0} → SectionState D → KnownBuckets → Type 0
KnowsEachBucket t known = (n : ℕ) → InRange t.head t.buckets n → IsSome (known n)

-- How many of the four calls of its change have succeeded for member j of the group: its frame's
-- write, a sync, its selector's write, a sync. Each sync is one for all members.
abbrev pub made_of : Phase → (j : ℕ) → ℕ
made_of Rest j = 0
made_of ReadSelector j = 1
made_of (ReadFrame selector) j = 1
made_of (WriteFrame current) j = 1
made_of SyncFrames j = 1
made_of (WriteSelector member) j = if nat_lt j member then 3 else 2
made_of SyncSelectors j = 3
made_of ChangeHead j = 0

-- The change of bucket n, which is member j of the group and has had these entries, has come so
-- far. The frame that it gets has the entries of the group in it, too.
pub record HasCome {D : Type 0} (t : SectionState D) (n : ℕ) (entries : List Entry)
    (twin : TwinState) (j : ℕ) (member : Member) : Type 0 where
  pub current : twin.current ≡ member.current
  pub made : twin_calls_made twin ≡ made_of t.phase j
  pub goes : t.stopped ≡ None → twin.failed ≡ false
  pub whole : length (next_frame twin) ≡ FRAME_LEN
  pub new : List Entry
  pub spelled : IsBucketFrame n new (next_frame twin)
  pub merges : Merges entries (IsOfGroup t n) new

-- Bucket n has these entries in its current frame in every image. Where it is one of the group, the
-- frame that it gets is written.
pub record HoldsBucket {D : Type 0} (t : SectionState D) (n : ℕ) (entries : List Entry)
    (read : List ℕ) (images : List ℕ → Type 0) : Type 0 where
  pub region : Region
  pub place : IsBucketPlace (n - t.head.first) region
  pub twin : TwinState
  pub frame : List ℕ
  pub frame_len : twin.frame_len ≡ FRAME_LEN
  pub sound : IsSoundTwin twin region frame read images
  pub spelled : IsBucketFrame n entries frame
  pub rest : ¬ IsChanging t n → twin.change ≡ None
  pub changing : (j : ℕ) (member : Member) → IsMember t n member
      → slice_get t.group j ≡ Some member → HasCome t n entries twin j member

-- The frame that is read of bucket n, at this place: the current one or, while it is being changed,
-- the one that was current before.
pub record IsReadFrom {D : Type 0} (t : SectionState D) (n : ℕ) (region : Region)
    (file frame : List ℕ) : Type 0 where
  pub rest : ¬ IsChanging t n → frame ≡ current_frame region FRAME_LEN file
  pub changing : (member : Member) → IsMember t n member
      → frame ≡ frame_of region FRAME_LEN member.current file

-- the selector of the bucket under way still names this frame
abbrev pub StillNames : {D : Type 0} → SectionState D → (number : ℕ) → (file : List ℕ) → Type 0
StillNames t number file = (region : Region) → IsBucketPlace (t.bucket - t.head.first) region
    → named_number region FRAME_LEN file ≡ number

-- the frame that the bucket under way gets has the entries that are put into it, too
abbrev pub IsFrameMade : {D : Type 0} → SectionState D → (entries : List Entry) → Type 0
IsFrameMade t entries =
    (new : List Entry) × IsBucketFrame t.bucket new t.frame
    × Merges entries (Contains (entering t)) new

-- A disk, by what it reads as and by its images, is sound for a section of which so much is known.
pub record IsSoundSection {D : Type 0} (t : SectionState D) (known : KnownBuckets) (read : List ℕ)
    (images : List ℕ → Type 0) : Type 0 where
  pub head_frame : List ℕ
  pub head_len : t.head_twin.frame_len ≡ FRAME_LEN
  pub head_twin : IsSoundTwin t.head_twin head_place head_frame read images
  pub head : IsHeadFrame t.name t.head head_frame
  pub head_rest : t.phase ≢ ChangeHead → t.head_twin.change ≡ None
  pub head_changing : t.phase ≡ ChangeHead → IsHeadFrame t.name t.next (next_frame t.head_twin)
  -- the selector that was read is still the one that stands there
  pub selector : (s : ℕ) → t.phase ≡ ReadFrame s → StillNames t (s % 2) read
  pub current : (s : ℕ) → t.phase ≡ WriteFrame s → StillNames t s read
  pub made : (s : ℕ) (entries : List Entry) → t.phase ≡ WriteFrame s
      → known t.bucket ≡ Some entries → IsFrameMade t entries
  pub bucket : (n : ℕ) (entries : List Entry) → InRange t.head t.buckets n
      → known n ≡ Some entries → HoldsBucket t n entries read images

-- the section's disk holds what is known of it, and each image does
abbrev pub DiskHolds : {D : Type 0} → DiskOf D → SectionState D → KnownBuckets → Type 0
DiskHolds disk t known = IsSoundSection t known (disk.bytes t.disk) (disk.images t.disk)

-- The head that a crash leaves: the section's own or, once its change begins to write the selector,
-- the next one. That is behind the change's first sync.
abbrev pub LeavesHead : {D : Type 0} → SectionState D → Head → Type 0
LeavesHead t head = (head ≡ t.head)
    ⊎ ((t.phase ≡ ChangeHead) × TwinHasBegunSelector t.head_twin × (head ≡ t.next))

-- What a crash leaves is a section with the old head or, while that changes, the next one, and with
-- the entries that are known or, in a bucket of the group, these with the group's, too.
abbrev pub LeavesSection : {D : Type 0} → SectionState D → KnownBuckets → (file : List ℕ) → Type 0
LeavesSection t known file = (head : Head) × (entries : ℕ → List Entry)
    × IsSection t.name head t.buckets entries file
    × LeavesHead t head
    × ((n : ℕ) (old : List Entry) → InRange t.head t.buckets n → known n ≡ Some old
    → (entries n ≡ old) ⊎ (IsChanging t n × Merges old (IsOfGroup t n) (entries n)))
