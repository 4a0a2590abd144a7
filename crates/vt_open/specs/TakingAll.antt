-- All partitions that a configuration names, handed out.
use Rattle.std.specs.Prelude.{◌≡◌, ℕ, List}
use Rattle.std.specs.List.{AllZip}
use Rattle.std.specs.Option.{option_to_list}
use Rattle.vt_conf.specs.declared.conf.Conf.{Conf}
use Rattle.vt_recover.specs.declared.devices.Devices.{Devices}
use Rattle.vt_core.specs.Files.{PerDevice, all_of}
use Rattle.vt_disk.specs.Members.{DiskOf}
use Rattle.vt_open.specs.Names.{HaveOneShape, files_of}
use Rattle.vt_open.specs.Taking.{AreTaken, IsMountedPart}
use Rattle.vt_partitions.specs.Parts.{Standing}

-- All partitions of a configuration were handed out, and the tables of those of arenas were read.
pub record AreAllTaken {D : Type 0} (disk : DiskOf D) (told : Type 0) (conf : Conf)
    (old new : List ℕ → Standing D) (devices : Devices D) : Type 0 where
  pub handed : PerDevice D
  pub shape : HaveOneShape handed (files_of conf)
  pub taken : AreTaken told (all_of (files_of conf)) old new (all_of handed)
  pub mounted : AllZip (IsMountedPart disk) handed.partitions devices.parts.items
  pub sections : handed.sections ≡ devices.sections.items
  pub filter : handed.filter ≡ option_to_list devices.filter
