-- The devices of a store, and what a crash may leave of them, taken together.
use Rattle.std.specs.Prelude.{ℕ, List, ◌++◌}
use Rattle.vt_disk.specs.Members.{DiskOf}
use Rattle.vt_log.specs.Sound.{AreImagesOf, AreWithinCallOf}

-- Of each of a store's devices one thing: of the partitions of arenas, of the index sections, and
-- of the device of the Bloom filter, of which there is one or none.
pub record PerDevice (X : Type 0) : Type 0 where
  pub partitions : List X
  pub sections : List X
  pub filter : List X

-- The things of all devices, in this order: those of the partitions, of the sections, and of the
-- filter.
abbrev pub all_of : {X : Type 0} → PerDevice X → List X
all_of each = each.partitions ++ each.sections ++ each.filter

-- a file for each device
abbrev pub DeviceFiles : Type 0
DeviceFiles = PerDevice (List ℕ)

-- one file for each device, which a crash may leave of it
pub record AreImages {D : Type 0} (disk : DiskOf D) (devices : PerDevice D) (files : DeviceFiles)
    : Type 0 where
  pub partitions : AreImagesOf disk devices.partitions files.partitions
  pub sections : AreImagesOf disk devices.sections files.sections
  pub filter : AreImagesOf disk devices.filter files.filter

-- One file for each device, which a crash may leave of it at a moment within a call that turns the
-- ones into the others.
pub record AreWithinCall {D : Type 0} (disk : DiskOf D) (old new : PerDevice D)
    (files : DeviceFiles)
    : Type 0 where
  pub partitions : AreWithinCallOf disk old.partitions new.partitions files.partitions
  pub sections : AreWithinCallOf disk old.sections new.sections files.sections
  pub filter : AreWithinCallOf disk old.filter new.filter files.filter
