-- The log and the sections of a store, found on its devices, and why they aren't.
use Rattle.std.specs.Prelude.{◌≡◌, ◌⊎◌, ◌≤◌, ℕ, Err, Ok, List, Vec, length, map, sum}
use Rattle.std.specs.List.{AllZip}
use Rattle.vt_base.specs.declared.mount.MountBad.{MountBad}
use Rattle.vt_base.specs.declared.mount.MountBad.TheVariants.{NoMemory}
use Rattle.vt_base.specs.declared.mount.MountField.TheVariants.{Arenas, Buckets}
use Rattle.vt_core.specs.declared.TheConstants.{MOST_ARENAS, MOST_BUCKETS}
use Rattle.vt_recover.specs.declared.devices.Devices.{Devices}
use Rattle.vt_core.specs.Mounting.{devices_in, tables_in}
use Rattle.vt_core.specs.Opening.{IsLogFound, TestsHeads, buckets_in_each}
use Rattle.vt_recover.specs.Opening.{IsFoundSection, HasRoomForDevices}
use Rattle.vt_core.specs.Refusals.{LogIsRefused, PassesOrRefuses}
use Rattle.vt_recover.specs.Refusals.{SectionIsRefused}
use Rattle.vt_disk.specs.Members.{DiskOf}
use Rattle.vt_isect.specs.Section.{SectionState}
use Rattle.vt_log.specs.Log.{LogState, disks_of}

-- this log was found on the partitions of arenas
pub record IsLogOn {D : Type 0} (score : List ℕ → List ℕ) (disk : DiskOf D) (devices : Devices D)
    (log : LogState D) : Type 0 where
  pub tables : log.tables ≡ tables_in devices
  pub found : IsLogFound score disk (disks_of devices.parts.items) devices.sections.items
      devices.filter log

-- This log and these sections were found on the devices, whatever the sections' heads say and their
-- buckets hold. They pass no limit of a store.
pub record AreOpened {D : Type 0} (score : List ℕ → List ℕ) (disk : DiskOf D) (devices : Devices D)
    (log : LogState D) (sections : List (SectionState D)) : Type 0 where
  pub log_is : IsLogOn score disk devices log
  pub sections_are : AllZip (IsFoundSection disk) devices.sections.items sections
  pub few : sum (buckets_in_each sections) ≤ MOST_BUCKETS

-- Why the log and the sections weren't found on the devices: there are too many arenas; the log is
-- refused, or a section; or there are too many buckets.
abbrev pub RefusesOpening : {D : Type 0} → DiskOf D → Devices D → MountBad → Type 0
RefusesOpening {D} disk devices bad =
    (bad ≡ NoMemory)
    ⊎ PassesOrRefuses Arenas MOST_ARENAS 0 (map (λ t. t.count) (tables_in devices)) (Err bad)
    ⊎ LogIsRefused disk (tables_in devices) (devices_in devices) bad
    ⊎ SectionIsRefused disk (length devices.parts.items) devices.sections.items bad
    ⊎ ((sections : List (SectionState D))
    × AllZip (IsFoundSection disk) devices.sections.items sections
    × PassesOrRefuses Buckets MOST_BUCKETS (length devices.parts.items) (buckets_in_each sections)
    (Err bad))

-- The heads of the sections say that they are in use, one behind the other.
abbrev pub AreInUse : {D : Type 0} → Devices D → List (SectionState D) → Type 0
AreInUse devices sections = TestsHeads {U = Unit {0}} (length devices.parts.items) sections (Ok tt)

-- Opening is refused; or the log and the sections were found, and a head of these says something
-- else than that its section is in use at its place.
abbrev pub RefusesUse : {D : Type 0} → (List ℕ → List ℕ) → DiskOf D → Devices D → MountBad → Type 0
RefusesUse {D} score disk devices bad = RefusesOpening disk devices bad
    ⊎ ((log : LogState D) × (sections : List (SectionState D))
    × AreOpened score disk devices log sections
    × TestsHeads {U = Unit {0}} (length devices.parts.items) sections (Err bad))

-- beside the log of so many partitions: the number of the first section, how many buckets they
-- have, and memory to hand their devices back in
pub record StandsBeside {D Z : Type 0} (partitions : ℕ) (sections : List (SectionState D))
    (part buckets : ℕ) (room : Vec D Z) : Type 0 where
  pub part_is : part ≡ partitions
  pub buckets_are : buckets ≡ sum (buckets_in_each sections)
  pub room_is : HasRoomForDevices (length sections) room
