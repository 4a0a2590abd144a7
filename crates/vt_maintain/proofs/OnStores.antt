-- Work on the devices of a store, whose partitions are handed out for it and handed back.
use Rattle.std.proofs.Common.{◌≡◌, inr, ℕ, List, length, Option, Result, Ok, Err, refl, sym, ◌∙◌, ap}
use Rattle.std.specs.Prelude.{IfErr}
use Rattle.std.specs.Option.{option_to_list}
use Rattle.std.proofs.lemmas.List.{length-map}
use Rattle.vt_base.specs.declared.mount.MountBad.{MountBad}
use Rattle.vt_check.specs.declared.checking.CheckErr.{CheckErr}
use Rattle.vt_check.specs.declared.checking.Report.{Report}
use Rattle.vt_conf.specs.declared.conf.Conf.{Conf}
use Rattle.vt_recover.specs.declared.devices.Devices.{Devices}
use Rattle.vt_core.specs.Files.{all_of}
use Rattle.vt_core.specs.Mounting.{devices_in}
use Rattle.vt_core.specs.Opening.{AreHeld}
use Rattle.vt_disk.specs.Members.{DiskOf}
use Rattle.vt_log.specs.Log.{disks_of}
use Rattle.vt_open.specs.declared.error.OpenError.TheVariants.{Missing, Refused}
use Rattle.vt_open.specs.Names.{HaveOneShape, files_of}
use Rattle.vt_open.specs.Taking.{AreHandedBack}
use Rattle.vt_open.specs.TakingAll.{AreAllTaken}
use Rattle.vt_open.proofs.Held.{held_many}
use Rattle.vt_open.proofs.Opened.{many_arenas, many_sections}
use Rattle.vt_open.proofs.Taken.{Stands}
use Rattle.vt_part.specs.Parts.{disk_of}
use Rattle.vt_rebuild.specs.declared.error.RebuildBad.{RebuildBad}
use Rattle.vt_mount_errors.specs.MountErrors.{NamesTwo}
use Rattle.vt_maintain.specs.declared.error.MaintainError.{MaintainError}
use Rattle.vt_maintain.specs.declared.error.MaintainError.TheVariants.{Unopened, Ended}
use Rattle.vt_maintain.specs.Checking.{ChecksOn}
use Rattle.vt_maintain.specs.Devices.{KeepsBlocks, WorksOnDevices}
use Rattle.vt_maintain.specs.Rebuilding.{Rebuilds}
use Rattle.vt_maintain.specs.Stores.{NamesUnopened, WorksOnStore}

module _ {D : Type 0} (disk : DiskOf D) (devices : Devices D) where
  -- ---- as many devices of each kind are back

  shape_held : (back : Devices D) → AreHeld disk (devices_in devices) (devices_in back)
      → HaveOneShape (devices_in back) (devices_in devices)
  shape_held back held = record {
    partitions = held_many disk (disks_of devices.parts.items) (disks_of back.parts.items)
        held.partitions;
    sections = held_many disk devices.sections.items back.sections.items held.sections;
    filter = held_many disk (option_to_list devices.filter) (option_to_list back.filter) held.filter;
  }

  shape_kept : (back : Devices D) → KeepsBlocks disk devices back
      → HaveOneShape (devices_in back) (devices_in devices)
  shape_kept back keeps = record {
    partitions = held_many disk (disks_of devices.parts.items) (disks_of back.parts.items)
        keeps.partitions;
    sections = keeps.sections;
    filter = ap (λ (o : Option D). length (option_to_list o)) keeps.filter;
  }

  pub shape_rebuilt : (score : List ℕ → List ℕ) (Cause : Devices D → MountBad → Type 0)
      (back : Devices D) (result : Result ℕ (MaintainError RebuildBad))
      → WorksOnDevices disk Cause (Rebuilds score disk) devices back result
      → HaveOneShape (devices_in back) (devices_in devices)
  shape_rebuilt score Cause back (Ok blocks) it = shape_kept back it.keeps
  shape_rebuilt score Cause back (Err (Ended bad)) it = shape_kept back it.keeps
  shape_rebuilt score Cause back (Err (Unopened (Refused why))) it = shape_held back it.held
  shape_rebuilt score Cause back (Err (Unopened (Missing part))) it = absurd it

  pub shape_checked : (score : List ℕ → List ℕ) (Cause : Devices D → MountBad → Type 0)
      (back : Devices D) (result : Result Report (MaintainError CheckErr))
      → WorksOnDevices disk Cause (ChecksOn score disk) devices back result
      → HaveOneShape (devices_in back) (devices_in devices)
  shape_checked score Cause back (Ok report) it = shape_held back it.held
  shape_checked score Cause back (Err (Ended bad)) it = shape_held back it.held
  shape_checked score Cause back (Err (Unopened (Refused why))) it = shape_held back it.held
  shape_checked score Cause back (Err (Unopened (Missing part))) it = absurd it

  -- ---- the partitions of a configuration

  module _ (told : Type 0) (conf : Conf) (old mid new : Stands D)
      (taken : AreAllTaken disk told conf old mid devices) (back : Devices D)
      (shape : HaveOneShape (devices_in back) (devices_in devices)) where
    pub shape_there : HaveOneShape (devices_in back) (files_of conf)
    shape_there =
        let own = taken.shape in
        record {
          partitions = shape.partitions
              ∙ length-map devices.parts.items (λ part. disk_of part)
              ∙ many_arenas disk told conf old mid devices taken;
          sections = shape.sections ∙ many_sections disk told conf old mid devices taken;
          filter = shape.filter ∙ ap length (sym taken.filter) ∙ own.filter;
        }

    module _ (given : AreHandedBack told (all_of (files_of conf)) mid new (all_of (devices_in back)))
        (faults faults' : ℕ) (quiet : faults' ≡ faults) where
      pub uses : {T E : Type 0} (Cause : Devices D → MountBad → Type 0)
          (Does : Result T E → (devices back : Devices D) → Type 0)
          (result : Result T (MaintainError E)) → WorksOnDevices disk Cause Does devices back result
          → WorksOnStore disk told conf Cause Does old new faults faults' result
      uses Cause Does (Ok value) it = (
        record {
          devices = devices;
          during = mid;
          taken = taken;
          back = back;
          does = it;
          shape = shape_there;
          given = given;
        },
        quiet,
      )
      uses Cause Does (Err (Ended bad)) it = (
        record {
          devices = devices;
          during = mid;
          taken = taken;
          back = back;
          does = it;
          shape = shape_there;
          given = given;
        },
        quiet,
      )
      uses Cause Does (Err (Unopened (Refused why))) it = inr (
        why,
        refl,
        quiet,
        record {
          devices = devices;
          during = mid;
          taken = taken;
          back = back;
          does = it;
          shape = shape_there;
          given = given;
        },
      )
      uses Cause Does (Err (Unopened (Missing part))) it = absurd it

  -- two values that a refusal names are two, as they are of its cause
  pub differs : {T E : Type 0} (Cause : Devices D → MountBad → Type 0)
      (Does : Result T E → (devices back : Devices D) → Type 0) (back : Devices D)
      → ((bad : MountBad) → Cause devices bad → NamesTwo bad)
      → (result : Result T (MaintainError E)) → WorksOnDevices disk Cause Does devices back result
      → IfErr result NamesUnopened
  differs Cause Does back two (Ok value) it = tt
  differs Cause Does back two (Err (Ended bad)) it = tt
  differs Cause Does back two (Err (Unopened (Refused why))) it = two why it.why
  differs Cause Does back two (Err (Unopened (Missing part))) it = absurd it
