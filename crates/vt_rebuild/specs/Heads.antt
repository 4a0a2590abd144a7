-- The head of a section whose index is rebuilt: it says state 2 while the buckets are written, and
-- state 1 behind that (venti(8), buildindex).
use Rattle.std.specs.Prelude.{◌≡◌, ℕ, IsTrue}
use Rattle.vt_disk.specs.Calls.{IsSynced}
use Rattle.vt_disk.specs.Members.{DiskOf}
use Rattle.vt_isect.specs.declared.head.Head.{Head}
use Rattle.vt_isect.specs.declared.phase.Phase.TheVariants.{ChangeHead}
use Rattle.vt_isect.specs.Section.{IsAtRest, SectionState}
use Rattle.vt_isect.specs.Sound.{DiskHolds, KnownBuckets, nothing_known}

-- the head of a section with this place among the others
abbrev pub head_in : (state first count total mark : ℕ) → Head
head_in state first count total mark =
    record { state = state; first = first; count = count; total = total; mark = mark }

-- The section's name stays, and how many buckets and bytes it has.
pub record IsSameSection {D : Type 0} (disk : DiskOf D) (old new : SectionState D) : Type 0 where
  pub name : new.name ≡ old.name
  pub buckets : new.buckets ≡ old.buckets
  pub size : disk.size new.disk ≡ disk.size old.disk

-- The section has this head, behind a sync. What was known of its buckets still is, unless their
-- numbers changed.
pub record HasHead {D : Type 0} (disk : DiskOf D) (head : Head) (old new : SectionState D)
    : Type 0 where
  pub rest : IsAtRest new
  pub head_is : new.head ≡ head
  pub next_is : new.next ≡ head
  pub settled : IsSynced disk new.disk
  pub holds : IsTrue disk.tells → DiskHolds disk old nothing_known
      → DiskHolds disk new nothing_known
  pub keeps : (known : KnownBuckets) → IsTrue disk.tells → head.first ≡ old.head.first
      → DiskHolds disk old known → DiskHolds disk new known

-- A call failed by which it was to get this head: the section has the one that it had, and what is
-- known of its buckets still is. A crash leaves one of the two heads.
pub record StopsAtHead {D : Type 0} (disk : DiskOf D) (head : Head) (old new : SectionState D)
    : Type 0 where
  pub head_is : new.head ≡ old.head
  pub next_is : new.next ≡ head
  pub phase : new.phase ≡ ChangeHead
  pub keeps : (known : KnownBuckets) → IsTrue disk.tells → DiskHolds disk old known
      → DiskHolds disk new known
