-- Work on the store that a configuration names, whose partitions are handed out by name.
use Rattle.std.specs.Prelude.{◌≡◌, ◌⊎◌, ⊤, ℕ, Ok, Err, List, Result, length}
use Rattle.vt_base.specs.declared.mount.MountBad.{MountBad}
use Rattle.vt_conf.specs.declared.conf.Conf.{Conf}
use Rattle.vt_recover.specs.declared.devices.Devices.{Devices}
use Rattle.vt_core.specs.Files.{all_of}
use Rattle.vt_core.specs.Mounting.{devices_in}
use Rattle.vt_disk.specs.Members.{DiskOf}
use Rattle.vt_open.specs.declared.error.OpenError.TheVariants.{Refused}
use Rattle.vt_open.specs.Names.{HaveOneShape, files_of}
use Rattle.vt_open.specs.Opening.{NamesCause}
use Rattle.vt_open.specs.Taking.{AreHandedBack, RefusesTaking}
use Rattle.vt_open.specs.TakingAll.{AreAllTaken}
use Rattle.vt_partitions.specs.Parts.{Standing}
use Rattle.vt_maintain.specs.declared.error.MaintainError.{MaintainError}
use Rattle.vt_maintain.specs.declared.error.MaintainError.TheVariants.{Unopened, Ended}
use Rattle.vt_maintain.specs.Devices.{RefusesDevices}

-- All partitions of a configuration were handed out, this was done with them, and they are back.
pub record OnStore {D : Type 0} (disk : DiskOf D) (told : Type 0) (conf : Conf)
    (Does : (devices back : Devices D) → Type 0) (old new : List ℕ → Standing D) : Type 0 where
  pub devices : Devices D
  pub during : List ℕ → Standing D
  pub taken : AreAllTaken disk told conf old during devices
  pub back : Devices D
  pub does : Does devices back
  pub shape : HaveOneShape (devices_in back) (files_of conf)
  pub given : AreHandedBack told (all_of (files_of conf)) during new (all_of (devices_in back))

-- Not all partitions were handed out; or they were, and were refused for a cause; or this was done
-- with them.
abbrev pub WorksOnStore : {D T E : Type 0} → DiskOf D → (told : Type 0) → Conf
    → (Cause : Devices D → MountBad → Type 0)
    → (Does : Result T E → (devices back : Devices D) → Type 0) → (old new : List ℕ → Standing D)
    → (faults faults' : ℕ) → Result T (MaintainError E) → Type 0
WorksOnStore disk told conf Cause Does old new faults faults' (Ok value) =
    OnStore disk told conf (Does (Ok value)) old new × (faults' ≡ faults)
WorksOnStore disk told conf Cause Does old new faults faults' (Err (Ended bad)) =
    OnStore disk told conf (Does (Err bad)) old new × (faults' ≡ faults)
WorksOnStore disk told conf Cause Does old new faults faults' (Err (Unopened bad)) =
    RefusesTaking disk told 0 (length conf.arenas.items) (all_of (files_of conf)) old new
    faults faults' bad
    ⊎ ((why : MountBad) × (bad ≡ Refused why) × (faults' ≡ faults)
    × OnStore disk told conf (λ devices. RefusesDevices (Cause devices) disk devices why) old new)

-- two values that are named where no store is found are two
abbrev pub NamesUnopened : {E : Type 0} → MaintainError E → Type 0
NamesUnopened (Unopened bad) = NamesCause bad
NamesUnopened (Ended bad) = ⊤
