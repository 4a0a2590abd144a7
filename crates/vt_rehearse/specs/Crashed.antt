-- What a crash leaves of devices in memory, and of a store on them.
use Rattle.std.specs.Prelude.{◌≡◌, ℕ, ◌≤◌, List, drop, length}
use Rattle.std.specs.List.{All, AllZip}
use Rattle.vt_core.specs.Core.{CoreState, devices_of}
use Rattle.vt_core.specs.Crashing.{Recovers}
use Rattle.vt_core.specs.Files.{PerDevice, all_of}
use Rattle.vt_core.specs.Mounting.{IsLogOf, KeepsLimits}
use Rattle.vt_disk.specs.Disk.{Only}
use Rattle.vt_disk.specs.Members.{DiskOf}
use Rattle.vt_memdisk.specs.declared.crash.CrashMode.{CrashMode}
use Rattle.vt_model.specs.History.{History}
use Rattle.vt_model.specs.Places.{Setup}
use Rattle.vt_part.specs.declared.part.Part.{Part}
use Rattle.vt_part.specs.Parts.{disk_of, table_of}
use Rattle.vt_part.specs.Table.{Table, arenas_end}
use Rattle.vt_rehearse.specs.declared.TheConstants.{SESSIONS}
use Rattle.vt_rehearse.specs.Shape.{the_sizes}

-- one of the images of a disk is left, and this mode leaves it; a second crash leaves just that
pub record IsImageLeft {D : Type 0} (disk : DiskOf D) (Leaves : CrashMode → D → List ℕ → Type 0)
    (mode : CrashMode) (before after : D) : Type 0 where
  pub left : Leaves mode before (disk.bytes after)
  pub image : disk.images before (disk.bytes after)
  pub only : Only (disk.bytes after) (disk.images after)
  pub size : disk.size after ≡ disk.size before

-- The image that is left of a partition is one that this mode leaves, and it was mounted again.
pub record IsLeftMounted {D : Type 0} (disk : DiskOf D) (Leaves : CrashMode → D → List ℕ → Type 0)
    (mode : CrashMode) (before after : Part D) : Type 0 where
  pub disks : IsImageLeft disk Leaves mode (disk_of before) (disk_of after)
  pub table : table_of after ≡ table_of before
  pub room : arenas_end (table_of after) ≤ disk.size (disk_of after)

-- these devices hold a store, and no want of room keeps it from being mounted
pub record CanBeMounted {D : Type 0} (score : List ℕ → List ℕ) (disk : DiskOf D)
    (tables : List Table) (devices : PerDevice D) : Type 0 where
  pub c : Setup
  pub h : History
  pub g : History
  pub base : ℕ
  pub log : IsLogOf score disk tables devices c h g base
  pub limits : KeepsLimits tables c

-- the store was mounted again, at the first trial, on what a crash of this mode left
pub record Restarts {D : Type 0} (score : List ℕ → List ℕ) (disk : DiskOf D)
    (Leaves : CrashMode → D → List ℕ → Type 0) (mode : CrashMode) (old new : CoreState D)
    : Type 0 where
  pub recovers : Recovers score disk old old new
  pub left : AllZip (Leaves mode) (all_of (devices_of old)) (all_of recovers.crash.files)
  pub at_once : recovers.tries ≡ 0
  pub sizes : recovers.sizes ≡ the_sizes
  pub sessions : recovers.sessions ≡ SESSIONS

-- a history that was cut off has lost no block of an arena before the base, each of which is sealed
abbrev pub KeepsSealed : (base : ℕ) → (before after : History) → Type 0
KeepsSealed base before after = All (λ e. base ≤ e.arena) (drop (length after) before)
