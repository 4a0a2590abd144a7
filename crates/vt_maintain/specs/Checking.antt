-- What checking the arenas of a store does to its devices (venti(8), checkarenas).
use Rattle.std.specs.Prelude.{◌≡◌, ℕ, ◌+◌, ◌*◌, ◌≤◌, Bool, false, IfOk, IsTrue, List, Ok, Err, Result, length, sum_by}
use Rattle.vt_check.specs.declared.checking.CheckErr.{CheckErr}
use Rattle.vt_check.specs.declared.checking.Report.{Report}
use Rattle.vt_check.specs.Checking.{AreReports, AreTold, is_check_fault}
use Rattle.vt_recover.specs.declared.devices.Devices.{Devices}
use Rattle.vt_core.specs.Mounting.{devices_in, tables_in}
use Rattle.vt_core.specs.Opening.{AreHeld}
use Rattle.vt_disk.specs.Members.{DiskOf}
use Rattle.vt_isect.specs.Section.{SectionState}
use Rattle.vt_log.specs.Log.{LogState, disks_of}
use Rattle.vt_log.specs.Mounting.{reads_to_find_all}
use Rattle.vt_maintain.specs.Devices.{CountsOneFault, device_faults}
use Rattle.vt_maintain.specs.Opened.{AreInUse, AreOpened}
use Rattle.vt_part.specs.Layout.{layout_of}

-- a fault is told
abbrev pub check_fault_in : Result Report CheckErr → Bool
check_fault_in (Ok report) = false
check_fault_in (Err bad) = is_check_fault bad

-- The log and the sections were found, whose heads say that they are in use. There is a report of
-- each arena, and each tells of what its disk reads as. Nothing was written: of the partitions of
-- arenas a sync of each was made, the reads that find each arena, by what is read of it, and at most
-- two of each block.
pub record ChecksOn {D : Type 0} (score : List ℕ → List ℕ) (disk : DiskOf D)
    (result : Result Report CheckErr) (devices back : Devices D) : Type 0 where
  pub log : LogState D
  pub sections : List (SectionState D)
  pub opened : AreOpened score disk devices log sections
  pub in_use : AreInUse devices sections
  pub reports : IfOk result (λ report. AreReports log report.arenas.items)
  pub told : IfOk result (λ report. IsTrue disk.tells
      → AreTold score disk log report.arenas.items)
  pub tables : tables_in back ≡ tables_in devices
  pub held : AreHeld disk (devices_in devices) (devices_in back)
  pub filter : back.filter ≡ devices.filter
  pub calls : IsTrue disk.tells → sum_by disk.calls (disks_of back.parts.items)
      ≤ sum_by disk.calls (disks_of devices.parts.items) + length devices.parts.items
      + reads_to_find_all (layout_of log.tables) opened.log_is.found.read.fields + 2 * log.durable
  pub counts : CountsOneFault (check_fault_in result) (device_faults disk devices)
      (device_faults disk back)
