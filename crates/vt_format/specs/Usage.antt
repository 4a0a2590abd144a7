-- What it is to put index sections to use (venti(8), fmtindex).
use Rattle.std.specs.Prelude.{ℕ, ◌≡◌, ◌≢◌, ◌⊎◌, ◌+◌, ◌*◌, ◌<◌, ◌≤◌, IsTrue, List, [], Some, length, slice_get, sum_by, take}
use Rattle.vt_base.specs.Faults.{HasRisen}
use Rattle.vt_disk.specs.Calls.{IsSynced}
use Rattle.vt_disk.specs.Disk.{ChangesAt, SameBut}
use Rattle.vt_disk.specs.Members.{DiskOf}
use Rattle.vt_disk.specs.Region.{Inside}
use Rattle.vt_isect.specs.declared.TheConstants.{FRAME_LEN}
use Rattle.vt_isect.specs.declared.head.Head.{Head}
use Rattle.vt_isect.specs.declared.phase.Phase.TheVariants.{ChangeHead}
use Rattle.vt_isect.specs.Filling.{with_buckets}
use Rattle.vt_isect.specs.Head.{IsHeadFrame}
use Rattle.vt_isect.specs.Layout.{IsSection, head_place}
use Rattle.vt_isect.specs.Section.{IsAtRest, SectionState}
use Rattle.vt_isect.specs.Sound.{DiskHolds, KnownBuckets, nothing_known}
use Rattle.vt_twin.specs.Frames.{current_frame}

-- a head with mark 0 of a section with this place among the others
abbrev pub head_in : (state first count total : ℕ) → Head
head_in state first count total =
    record { state = state; first = first; count = count; total = total; mark = 0 }

-- so many of its buckets, from the first on, are known to have no entries
abbrev pub cleared : (first count : ℕ) → KnownBuckets
cleared first count = with_buckets first count (Some []) nothing_known

-- What a crash leaves of a section while it is put to use, which had this name and head and these
-- images: it has that head, and is written in the place of its head alone; or its head says that it
-- is being built; or it is in use.
abbrev pub LeavesMidway : (name : List ℕ) → (old : Head) → (first count total : ℕ)
    → (images : List ℕ → Type 0) → (file : List ℕ) → Type 0
LeavesMidway name old first count total images file =
    (IsHeadFrame name old (current_frame head_place FRAME_LEN file)
    × (before : List ℕ) × images before × SameBut (Inside head_place) before file)
    ⊎ IsHeadFrame name (head_in 2 first count total) (current_frame head_place FRAME_LEN file)
    ⊎ IsSection name (head_in 1 first count total) count (λ n. []) file

-- Whatever a crash leaves of the section's disk is a section midway: with its old head over its old
-- buckets, with a head that says that it is being built, or in use.
abbrev pub IsMidway : {D : Type 0} → DiskOf D → (first total : ℕ) → (old new : SectionState D)
    → Type 0
IsMidway disk first total old new = (file : List ℕ) → disk.images new.disk file
    → LeavesMidway old.name old.head first old.buckets total (disk.images old.disk) file

-- The section is in use, with its buckets from this number on, of which none has entries: whatever
-- a crash leaves.
pub record IsInUse {D : Type 0} (disk : DiskOf D) (first total : ℕ) (old new : SectionState D)
    : Type 0 where
  pub rest : IsAtRest new
  pub name : new.name ≡ old.name
  pub buckets : new.buckets ≡ old.buckets
  pub head : new.head ≡ head_in 1 first old.buckets total
  pub images : IsTrue disk.tells → (c : List ℕ) → disk.images new.disk c
      → IsSection old.name (head_in 1 first old.buckets total) old.buckets (λ n. []) c
  pub settled : IsSynced disk new.disk

-- two calls for each bucket, and so many more, at most
abbrev pub CallsForBuckets : {D : Type 0} → DiskOf D → (more : ℕ) → (old new : SectionState D)
    → Type 0
CallsForBuckets disk more old new = IsTrue disk.tells
    → disk.calls new.disk ≤ disk.calls old.disk + (2 * old.buckets + more)

-- The section's head says this, behind a sync; what was known of its buckets still is, unless their
-- numbers changed.
pub record ChangesHead {D : Type 0} (disk : DiskOf D) (state first total : ℕ)
    (old new : SectionState D) : Type 0 where
  pub rest : IsAtRest new
  pub name : new.name ≡ old.name
  pub buckets : new.buckets ≡ old.buckets
  pub head : new.head ≡ head_in state first old.buckets total
  pub next : new.next ≡ new.head
  pub settled : IsSynced disk new.disk
  pub holds : IsTrue disk.tells → DiskHolds disk old nothing_known
      → DiskHolds disk new nothing_known
  pub keeps : (known : KnownBuckets) → IsTrue disk.tells → first ≡ old.head.first
      → DiskHolds disk old known → DiskHolds disk new known

-- The change of its head to this one has stopped, and what was known of its buckets still is.
pub record StopsHead {D : Type 0} (disk : DiskOf D) (state first total : ℕ)
    (old new : SectionState D) : Type 0 where
  pub phase : new.phase ≡ ChangeHead
  pub name : new.name ≡ old.name
  pub buckets : new.buckets ≡ old.buckets
  pub head : new.head ≡ old.head
  pub next : new.next ≡ head_in state first old.buckets total
  pub images : ChangesAt (Inside head_place) (disk.images old.disk) (disk.images new.disk)
  pub keeps : (known : KnownBuckets) → IsTrue disk.tells → DiskHolds disk old known
      → DiskHolds disk new known

-- a section as it is mounted: at rest, and its disk holds its head
pub record IsOpened {D : Type 0} (disk : DiskOf D) (t : SectionState D) : Type 0 where
  pub rest : IsAtRest t
  pub sound : IsTrue disk.tells → DiskHolds disk t nothing_known

-- How many buckets these sections have together.
abbrev pub total_buckets : {D : Type 0} → List (SectionState D) → ℕ
total_buckets sections = sum_by (λ section. section.buckets) sections

-- how many buckets the sections before this one have
abbrev pub buckets_before : {D : Type 0} → List (SectionState D) → (i : ℕ) → ℕ
buckets_before sections i = total_buckets (take i sections)

-- A section was put to use: it has the buckets from `first` on, of `total` over all sections, none
-- of which has an entry, and no call failed.
pub record IsUsed {D : Type 0} (disk : DiskOf D) (first total : ℕ) (old new : SectionState D)
    : Type 0 where
  pub in_use : IsInUse disk first total old new
  pub size : disk.size new.disk ≡ disk.size old.disk
  pub calls : CallsForBuckets disk 24 old new
  pub faults : disk.faults new.disk ≡ disk.faults old.disk

-- All sections were put to use, one behind the other: the first bucket of each is numbered behind
-- the last one of the section before it.
pub record AreUsed {D : Type 0} (disk : DiskOf D) (total : ℕ) (olds news : List (SectionState D))
    : Type 0 where
  pub many : length news ≡ length olds
  pub each : (i : ℕ) (old new : SectionState D) → slice_get olds i ≡ Some old
      → slice_get news i ≡ Some new → IsUsed disk (buckets_before olds i) total old new

-- A call of the one with this number failed: those before it are in use, and those behind it as they
-- were.
pub record IsStoppedSection {D : Type 0} (disk : DiskOf D) (number i first total : ℕ)
    (old new : SectionState D) : Type 0 where
  pub size : disk.size new.disk ≡ disk.size old.disk
  pub rose : i ≡ number → HasRisen (disk.faults old.disk) (disk.faults new.disk)
  pub others : i ≢ number → disk.faults new.disk ≡ disk.faults old.disk
  pub before : i < number → IsUsed disk first total old new
  pub midway : i ≡ number → IsTrue disk.tells → IsMidway disk first total old new
  pub behind : number < i → new ≡ old

-- The sections before the one that stopped are in use, it is midway, and those behind it are as they
-- were.
pub record StopsAtSection {D : Type 0} (disk : DiskOf D) (number total : ℕ)
    (olds news : List (SectionState D)) : Type 0 where
  pub many : length news ≡ length olds
  pub each : (i : ℕ) (old new : SectionState D) → slice_get olds i ≡ Some old
      → slice_get news i ≡ Some new
      → IsStoppedSection disk number i (buckets_before olds i) total old new
