-- What rebuilding the index of a store does to its devices (venti(8), buildindex).
use Rattle.std.specs.Prelude.{◌≡◌, ℕ, List, Ok, Err, Result, sum}
use Rattle.vt_recover.specs.declared.devices.Devices.{Devices}
use Rattle.vt_disk.specs.Members.{DiskOf}
use Rattle.vt_isect.specs.Section.{SectionState}
use Rattle.vt_log.specs.Log.{LogState}
use Rattle.vt_model.specs.History.{History}
use Rattle.vt_rebuild.specs.declared.error.RebuildBad.{RebuildBad}
use Rattle.vt_rebuild.specs.declared.error.RebuildBad.TheVariants.{IndexFull}
use Rattle.vt_rebuild.specs.Building.{IsRefusedFor, NamesDamage, disks_under}
use Rattle.vt_rebuild.specs.Filling.{FitsBuckets}
use Rattle.vt_rebuild.specs.Rebuilt.{AreHalfRebuilt, AreRebuilt, HasHistory, counts_of, setup_with}
use Rattle.vt_rebuild.specs.Walking.{is_rebuild_fault}
use Rattle.vt_maintain.specs.Devices.{CountsOneFault, KeepsBlocks, device_faults}
use Rattle.vt_maintain.specs.Opened.{AreOpened}

-- The log that was found has so many blocks, and the sections that were found have their entries
-- and no others.
pub record RebuildsOn {D : Type 0} (score : List ℕ → List ℕ) (disk : DiskOf D) (blocks : ℕ)
    (devices back : Devices D) : Type 0 where
  pub log : LogState D
  pub olds : List (SectionState D)
  pub opened : AreOpened score disk devices log olds
  pub news : List (SectionState D)
  pub rebuilt : (h : History) → HasHistory score disk log h
      → AreRebuilt score disk (setup_with log olds) h olds news
  pub room : (h : History) → HasHistory score disk log h
      → FitsBuckets score (sum (counts_of olds)) h
  pub blocks_are : blocks ≡ log.durable
  pub sections : back.sections.items ≡ disks_under news
  pub keeps : KeepsBlocks disk devices back
  pub quiet : device_faults disk back ≡ device_faults disk devices

-- The log and the sections were found, and not all of the sections have their entries: a call
-- failed, memory ran out, a bucket has too many blocks, or the log is damaged. Where it isn't, no
-- crash leaves all of them in use unless all are as they were, or all have their entries.
pub record StopsOn {D : Type 0} (score : List ℕ → List ℕ) (disk : DiskOf D) (bad : RebuildBad)
    (devices back : Devices D) : Type 0 where
  pub log : LogState D
  pub olds : List (SectionState D)
  pub opened : AreOpened score disk devices log olds
  pub news : List (SectionState D)
  pub left : (h : History) → HasHistory score disk log h
      → AreHalfRebuilt score disk (setup_with log olds) h olds news
  pub unwritten : (h : History) (n : ℕ) → HasHistory score disk log h → bad ≡ IndexFull n
      → news ≡ olds
  pub why : (h : History) → HasHistory score disk log h
      → IsRefusedFor score (sum (counts_of olds)) h bad
  pub damage : NamesDamage bad
  pub sections : back.sections.items ≡ disks_under news
  pub keeps : KeepsBlocks disk devices back
  pub counts : CountsOneFault (is_rebuild_fault bad) (device_faults disk devices)
      (device_faults disk back)

-- the index was rebuilt with so many blocks, or it is told why not
abbrev pub Rebuilds : {D : Type 0} → (List ℕ → List ℕ) → DiskOf D → Result ℕ RebuildBad
    → (devices back : Devices D) → Type 0
Rebuilds score disk (Ok blocks) devices back = RebuildsOn score disk blocks devices back
Rebuilds score disk (Err bad) devices back = StopsOn score disk bad devices back
