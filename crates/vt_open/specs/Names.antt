-- What stands under the names of a configuration's files (venti.conf(6)).
use Rattle.std.specs.Prelude.{◌≡◌, ℕ, List, length, map}
use Rattle.std.specs.List.{AllZip}
use Rattle.std.specs.Option.{option_to_list}
use Rattle.vt_conf.specs.declared.conf.Conf.{Conf}
use Rattle.vt_conf.specs.declared.conf.PartFile.{PartFile}
use Rattle.vt_core.specs.Files.{PerDevice, all_of}
use Rattle.vt_partitions.specs.Parts.{Standing, there}

-- A configuration's files, each of which has one of a store's devices.
abbrev pub files_of : Conf → PerDevice PartFile
files_of conf = record {
  partitions = conf.arenas.items;
  sections = conf.sections.items;
  filter = option_to_list conf.filter;
}

-- the names of these files, in order
abbrev pub names_of : List PartFile → List (List ℕ)
names_of files = map (λ file. file.name) files

-- these devices stand under the names of these files, in order
abbrev pub StandUnder : {D : Type 0} → (standing : List ℕ → Standing D) → List PartFile → List D
    → Type 0
StandUnder standing files devices =
    AllZip (λ file device. standing file.name ≡ there device) files devices

-- as many of each kind
pub record HaveOneShape {X Y : Type 0} (these : PerDevice X) (those : PerDevice Y) : Type 0 where
  pub partitions : length these.partitions ≡ length those.partitions
  pub sections : length these.sections ≡ length those.sections
  pub filter : length these.filter ≡ length those.filter

-- the devices of a store stand under the names of a configuration's files
pub record AreUnder {D : Type 0} (standing : List ℕ → Standing D) (conf : Conf)
    (devices : PerDevice D) : Type 0 where
  pub shape : HaveOneShape devices (files_of conf)
  pub under : StandUnder standing (all_of (files_of conf)) (all_of devices)
