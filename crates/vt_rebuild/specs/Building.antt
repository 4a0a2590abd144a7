-- How the sections of an index are rebuilt, one behind the other.
use Rattle.std.specs.Prelude.{◌≡◌, ◌⊎◌, ⊤, ℕ, ◌+◌, ◌*◌, ◌<◌, ◌≤◌, IsTrue, List, Result, All, length, map, slice_get, Some}
use Rattle.vt_disk.specs.Calls.{IsSynced}
use Rattle.vt_disk.specs.Members.{DiskOf}
use Rattle.vt_isect.specs.declared.head.Head.{Head}
use Rattle.vt_isect.specs.declared.phase.Phase.TheVariants.{ChangeHead}
use Rattle.vt_isect.specs.Filling.{ReadsKnown}
use Rattle.vt_isect.specs.Agreement.{KnownAgrees}
use Rattle.vt_isect.specs.Sound.{DiskHolds, KnownBuckets, nothing_known}
use Rattle.vt_isect.specs.Section.{IsAtRest, SectionState}
use Rattle.vt_model.specs.Places.{Setup, first_bucket}
use Rattle.vt_rebuild.specs.Heads.{IsSameSection}
use Rattle.vt_base.specs.Damage.{Differ}
use Rattle.vt_base.specs.Faults.{TellsFault}
use Rattle.vt_log.specs.Faults.{OneHasRisen}
use Rattle.vt_log.specs.Log.{LogState}
use Rattle.vt_model.specs.History.{History}
use Rattle.vt_rebuild.specs.declared.error.RebuildBad.{RebuildBad}
use Rattle.vt_rebuild.specs.declared.error.RebuildBad.TheVariants.{Fault, IndexFull, Damaged, NoMemory}
use Rattle.vt_rebuild.specs.Walking.{is_rebuild_fault}
use Rattle.vt_rebuild.specs.Rebuilt.{EachSection, IsBeingBuilt, IsFirstFull, IsUnwrittenSection, counts_of}

-- the disks that the sections are on
abbrev pub disks_under : {D : Type 0} → List (SectionState D) → List D
disks_under sections = map (λ section. section.disk) sections

-- the head of a section says that it is being built
pub record IsBuildBegun {D : Type 0} (disk : DiskOf D) (first total : ℕ) (old new : SectionState D)
    : Type 0 where
  pub rest : IsAtRest new
  pub built : IsBeingBuilt disk first total old new
  pub calls : IsTrue disk.tells → disk.calls new.disk ≤ disk.calls old.disk + 4

-- rebuilding has begun in each section
abbrev pub AreBegun : {D : Type 0} → DiskOf D → (total : ℕ) → (olds news : List (SectionState D))
    → Type 0
AreBegun disk total olds news = EachSection (λ first. IsBuildBegun disk first total) olds news

-- Sections were changed in turn up to this one, at which it stopped. Those behind it are as they
-- were.
pub record StopsInTurn {D : Type 0} (stopped done : (first : ℕ) → (old new : SectionState D) → Type 0)
    (olds news : List (SectionState D)) : Type 0 where
  pub at : ℕ
  pub within : at < length olds
  pub many : length news ≡ length olds
  pub before : (i : ℕ) (old new : SectionState D) → i < at → slice_get olds i ≡ Some old
      → slice_get news i ≡ Some new → done (first_bucket (counts_of olds) i) old new
  pub here : (old new : SectionState D) → slice_get olds at ≡ Some old
      → slice_get news at ≡ Some new → stopped (first_bucket (counts_of olds) at) old new
  pub behind : (i : ℕ) → at < i → slice_get news i ≡ slice_get olds i

-- some heads say that they are being built; nothing was written behind them
abbrev pub AreHalfBegun : {D : Type 0} → DiskOf D → (total : ℕ)
    → (olds news : List (SectionState D)) → Type 0
AreHalfBegun disk total olds news =
    StopsInTurn (λ first. IsUnwrittenSection disk first total)
    (λ first. IsBuildBegun disk first total) olds news

-- A fault is told exactly where the count of failed calls rose of one of the log's disks or of one
-- of the sections'.
abbrev pub CountsAll : {D T : Type 0} → DiskOf D → Result T RebuildBad
    → (log log' : LogState D) → (olds news : List (SectionState D)) → Type 0
CountsAll disk result log log' olds news = TellsFault is_rebuild_fault result
    ((OneHasRisen (map disk.faults log.disks) (map disk.faults log'.disks)
    × (map disk.faults (disks_under news) ≡ map disk.faults (disks_under olds)))
    ⊎ ((map disk.faults log'.disks ≡ map disk.faults log.disks)
    × OneHasRisen (map disk.faults (disks_under olds)) (map disk.faults (disks_under news))))
    ((map disk.faults log'.disks ≡ map disk.faults log.disks)
    × (map disk.faults (disks_under news) ≡ map disk.faults (disks_under olds)))

-- Why an index isn't rebuilt where the log has this history: a disk failed, memory ran out, or a
-- bucket has more blocks than it has room for.
abbrev pub IsRefusedFor : (score : List ℕ → List ℕ) → (total : ℕ) → History → RebuildBad → Type 0
IsRefusedFor score total h Fault = ⊤
IsRefusedFor score total h (IndexFull bucket) = IsFirstFull score total h bucket
IsRefusedFor score total h (Damaged place want found) = ⊥
IsRefusedFor score total h NoMemory = ⊤

-- what is told of damage differs, whatever the disks hold
abbrev pub NamesDamage : RebuildBad → Type 0
NamesDamage Fault = ⊤
NamesDamage (IndexFull bucket) = ⊤
NamesDamage (Damaged place want found) = Differ want found
NamesDamage NoMemory = ⊤

-- ---- one section, from when its head says that it is being built

-- The section's head says that it is being built, with its own buckets, among so many.
pub record IsToFinish {D : Type 0} (total : ℕ) (t : SectionState D) : Type 0 where
  pub rest : IsAtRest t
  pub state : t.head.state ≡ 2
  pub count : t.head.count ≡ t.buckets
  pub total_is : t.head.total ≡ total
  pub within : t.head.first + t.buckets ≤ total
  pub next : t.next ≡ t.head

-- each section is filled, and its head has yet to say so
abbrev pub AreToFinish : {D : Type 0} → (total : ℕ) → List (SectionState D) → Type 0
AreToFinish total sections = All (IsToFinish total) sections

-- the head of a section in use, with the entries of so many blocks
abbrev pub in_use : (mark : ℕ) → Head → Head
in_use mark head = record head { state = 1; mark = mark }

-- A call failed by which the section was to get this head, in use: its head is what it was or, where
-- a crash may leave the next one, its disk holds all that a read gave.
pub record StopsInUse {D : Type 0} (disk : DiskOf D) (head : Head) (old new : SectionState D)
    : Type 0 where
  pub head_is : new.head ≡ old.head
  pub holds : IsTrue disk.tells → DiskHolds disk old nothing_known
      → DiskHolds disk new nothing_known
  pub next : (new.next ≡ new.head) ⊎ ((new.next ≡ head) × (new.phase ≡ ChangeHead)
      × ((known : KnownBuckets) → IsTrue disk.tells → DiskHolds disk old nothing_known
      → ReadsKnown disk old known → DiskHolds disk new known))

-- The section's disk holds the entries of the history's blocks, and no others.
pub record HoldsAll {D : Type 0} (score : List ℕ → List ℕ) (disk : DiskOf D) (c : Setup)
    (h : History) (t : SectionState D) : Type 0 where
  pub known : KnownBuckets
  pub holds : DiskHolds disk t known
  pub agrees : KnownAgrees score c h t known

-- The section is in use, with the entries of the history's blocks.
pub record IsFinished {D : Type 0} (score : List ℕ → List ℕ) (disk : DiskOf D) (c : Setup)
    (h : History) (old new : SectionState D) : Type 0 where
  pub same : IsSameSection disk old new
  pub rest : IsAtRest new
  pub head : new.head ≡ in_use (length h) old.head
  pub settled : IsSynced disk new.disk
  pub calls : disk.calls new.disk ≤ disk.calls old.disk + (2 * old.buckets + 5)
  pub all : DiskHolds disk old nothing_known → HoldsAll score disk c h new

-- The section is still being built or, where a crash may leave the next head, it has all entries.
pub record IsStoppedBuild {D : Type 0} (score : List ℕ → List ℕ) (disk : DiskOf D) (c : Setup)
    (h : History) (old new : SectionState D) : Type 0 where
  pub same : IsSameSection disk old new
  pub head : new.head ≡ old.head
  pub holds : DiskHolds disk old nothing_known → DiskHolds disk new nothing_known
  pub next : DiskHolds disk old nothing_known → (new.next ≡ new.head)
      ⊎ ((new.next ≡ in_use (length h) old.head) × HoldsAll score disk c h new)

-- ---- all of them

-- each section has the entries of its buckets, and is in use
abbrev pub AreFinished : {D : Type 0} → (List ℕ → List ℕ) → DiskOf D → Setup → History
    → (olds news : List (SectionState D)) → Type 0
AreFinished score disk c h olds news = EachSection (λ first. IsFinished score disk c h) olds news

-- some are finished, and one is stopped
abbrev pub AreHalfFinished : {D : Type 0} → (List ℕ → List ℕ) → DiskOf D → Setup → History
    → (olds news : List (SectionState D)) → Type 0
AreHalfFinished score disk c h olds news =
    StopsInTurn (λ first. IsStoppedBuild score disk c h) (λ first. IsFinished score disk c h) olds
    news
