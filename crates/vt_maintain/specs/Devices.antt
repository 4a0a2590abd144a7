-- Work on the devices of a store, and what becomes of them.
use Rattle.std.specs.Prelude.{◌≡◌, ℕ, Bool, true, false, List, Ok, Err, Result, length, map}
use Rattle.std.specs.List.{All}
use Rattle.vt_base.specs.declared.mount.MountBad.{MountBad}
use Rattle.vt_recover.specs.declared.devices.Devices.{Devices}
use Rattle.vt_core.specs.Files.{all_of}
use Rattle.vt_core.specs.Mounting.{devices_in, tables_in}
use Rattle.vt_core.specs.Opening.{AreHeld}
use Rattle.vt_recover.specs.Refusals.{CountsRefusal}
use Rattle.vt_disk.specs.Calls.{IsSynced}
use Rattle.vt_disk.specs.Members.{DiskOf}
use Rattle.vt_log.specs.Answers.{HoldTheSame}
use Rattle.vt_log.specs.Faults.{OneHasRisen}
use Rattle.vt_log.specs.Log.{disks_of}
use Rattle.vt_open.specs.declared.error.OpenError.TheVariants.{Missing, Refused}
use Rattle.vt_maintain.specs.declared.error.MaintainError.{MaintainError}
use Rattle.vt_maintain.specs.declared.error.MaintainError.TheVariants.{Unopened, Ended}

-- how often calls of all devices failed
abbrev pub device_faults : {D : Type 0} → DiskOf D → Devices D → List ℕ
device_faults disk devices = map disk.faults (all_of (devices_in devices))

-- Of these counts of failed calls one rose where a fault is told, and else none.
abbrev pub CountsOneFault : (is_fault : Bool) → (old new : List ℕ) → Type 0
CountsOneFault true old new = OneHasRisen old new
CountsOneFault false old new = new ≡ old

-- The devices are back, and hold what they held: they were refused for this cause.
pub record RefusesDevices {D : Type 0} (Cause : MountBad
    → Type 0) (disk : DiskOf D) (devices : Devices D)
    (bad : MountBad) (back : Devices D) : Type 0 where
  pub why : Cause bad
  pub tables : tables_in back ≡ tables_in devices
  pub held : AreHeld disk (devices_in devices) (devices_in back)
  pub counts : CountsRefusal bad (device_faults disk devices) (device_faults disk back)

-- The partitions of arenas are back as they are read, whatever a crash leaves of them; so is the
-- filter's, which wasn't touched, and as many sections.
pub record KeepsBlocks {D : Type 0} (disk : DiskOf D) (devices back : Devices D) : Type 0 where
  pub tables : tables_in back ≡ tables_in devices
  pub partitions : HoldTheSame disk (disks_of devices.parts.items) (disks_of back.parts.items)
  pub settled : All (IsSynced disk) (disks_of back.parts.items)
  pub sections : length back.sections.items ≡ length devices.sections.items
  pub filter : back.filter ≡ devices.filter

-- The devices were refused for a cause, or this was done with them.
abbrev pub WorksOnDevices : {D T E : Type 0} → DiskOf D → (Cause : Devices D → MountBad → Type 0)
    → (Does : Result T E → (devices back : Devices D) → Type 0) → (devices back : Devices D)
    → Result T (MaintainError E) → Type 0
WorksOnDevices disk Cause Does devices back (Ok value) = Does (Ok value) devices back
WorksOnDevices disk Cause Does devices back (Err (Ended bad)) = Does (Err bad) devices back
WorksOnDevices disk Cause Does devices back (Err (Unopened (Refused why))) =
    RefusesDevices (Cause devices) disk devices why back
WorksOnDevices disk Cause Does devices back (Err (Unopened (Missing part))) = ⊥
