-- Filling the buckets of a section from the log.
use Rattle.std.specs.Prelude.{◌≡◌, ◌⊎◌, ℕ, ◌<◌, ◌≤◌, IsTrue, List, Some, Result, map}
use Rattle.vt_base.specs.Faults.{HasRisen, TellsFault}
use Rattle.vt_base.specs.declared.place.Entry.{Entry}
use Rattle.vt_disk.specs.Members.{DiskOf}
use Rattle.vt_isect.specs.Filling.{ReadsKnown}
use Rattle.vt_isect.specs.Section.{SectionState}
use Rattle.vt_isect.specs.Sound.{KnownBuckets, with_bucket}
use Rattle.vt_log.specs.Faults.{OneHasRisen}
use Rattle.vt_log.specs.Log.{LogState, setup_of_log}
use Rattle.vt_model.specs.History.{History}
use Rattle.vt_model.specs.Places.{Setup, crowd}
use Rattle.vt_model.specs.declared.TheConstants.{BUCKET_ROOM}
use Rattle.vt_rebuild.specs.declared.error.RebuildBad.{RebuildBad}
use Rattle.vt_rebuild.specs.declared.gathering.Gathered.{Gathered}
use Rattle.vt_rebuild.specs.Gathering.{CanIndex, HasItsBlocks, IsGathered}
use Rattle.vt_rebuild.specs.Rebuilt.{HasHistory}
use Rattle.vt_rebuild.specs.Walking.{is_rebuild_fault}

-- a fault is told exactly where the count of one of the log's disks rose, or that of the section's
abbrev pub CountsEither : {D T : Type 0} → DiskOf D → Result T RebuildBad
    → (log log' : LogState D) → (section section' : SectionState D) → Type 0
CountsEither disk result log log' section section' = TellsFault is_rebuild_fault result
    ((OneHasRisen (map disk.faults log.disks) (map disk.faults log'.disks)
    × (disk.faults section'.disk ≡ disk.faults section.disk))
    ⊎ ((map disk.faults log'.disks ≡ map disk.faults log.disks)
    × HasRisen (disk.faults section.disk) (disk.faults section'.disk)))
    ((map disk.faults log'.disks ≡ map disk.faults log.disks)
    × (disk.faults section'.disk ≡ disk.faults section.disk))

-- The log's blocks can be indexed, by a setup with the versions of its arenas, and what is gathered
-- so far is that of them.
pub record CanFill {D : Type 0} (score : List ℕ → List ℕ) (disk : DiskOf D) (c : Setup)
    (h : History) (l : LogState D) (g : Gathered) : Type 0 where
  pub log : HasHistory score disk l h
  pub versions : c.versions ≡ (setup_of_log l).versions
  pub index : CanIndex score c h g.total
  pub gathered : IsGathered score c h g

-- no bucket has more blocks than it has room for
abbrev pub FitsBuckets : (score : List ℕ → List ℕ) → (total : ℕ) → History → Type 0
FitsBuckets score total h = (n : ℕ) → n < total → crowd score total h n ≤ BUCKET_ROOM

-- a read of the section gives for each of so many buckets the entries of its blocks
pub record HasFilled {D : Type 0} (score : List ℕ → List ℕ) (disk : DiskOf D) (c : Setup)
    (h : History) (first end : ℕ) (t : SectionState D) : Type 0 where
  pub known : KnownBuckets
  pub reads : ReadsKnown disk t known
  pub each : (n : ℕ) → first ≤ n → n < end
      → (entries : List Entry) × (known n ≡ Some entries) × HasItsBlocks score c h n entries

-- a read of it gives these entries in a bucket, and in the others what it gave
abbrev pub PutsBucket : {D : Type 0} → DiskOf D → (n : ℕ) → List Entry
    → (old new : SectionState D) → Type 0
PutsBucket disk n entries old new =
    (known : KnownBuckets) → IsTrue disk.tells → ReadsKnown disk old known
    → ReadsKnown disk new (with_bucket n (Some entries) known)
