-- What a run is handed in, and whether a call of it failed.
use Rattle.std.specs.Prelude.{ℕ, ◌≡◌, ◌&&◌, IsTrue, Some, List}
use Rattle.vt_base.specs.Faults.{HasRisen}
use Rattle.vt_conf.specs.declared.conf.Conf.{Conf}
use Rattle.vt_conf.specs.Configuration.{Configures}
use Rattle.vt_disk.specs.Members.{DiskOf}
use Rattle.vt_model.specs.History.{History}
use Rattle.vt_model.specs.Places.{Setup}
use Rattle.vt_part.specs.Table.{Table}
use Rattle.vt_core.specs.Files.{PerDevice}
use Rattle.vt_core.specs.Mounting.{IsLogOf, KeepsLimits}
use Rattle.vt_open.specs.Names.{AreUnder}
use Rattle.run_base.specs.Errors.{PartHasFailed}
use Rattle.vt_commands.specs.Work.{Work}

-- All that is handed in tells what it holds: the file of this name is a configuration, of what
-- stands under its names every combination of images stands for a prefix of one legal history,
-- within the limits of a store.
pub record IsWellHandedIn {R K I P D N L : Type 0} (score : List ℕ → List ℕ) (disk : DiskOf D)
    (file : List ℕ) (work : Work R K I P D N L) : Type 0 where
  pub streams : IsTrue (work.source.tells && work.sink.tells)
  pub files : IsTrue work.files.tells
  pub parts : IsTrue work.parts.tells
  pub disks : IsTrue disk.tells
  pub text : List ℕ
  pub content : work.files.content file ≡ Some text
  pub conf : Conf
  pub says : Configures text conf
  pub tables : List Table
  pub devices : PerDevice D
  pub under : AreUnder work.parts.old conf devices
  pub c : Setup
  pub h : History
  pub g : History
  pub base : ℕ
  pub log : IsLogOf score disk tables devices c h g base
  pub limits : KeepsLimits tables c

-- no call failed: no count rose, of the streams, the files, the partitions or a disk of these
pub record NoneFails {R K I P D N L : Type 0} (disk : DiskOf D) (work : Work R K I P D N L)
    : Type 0 where
  pub source : ¬ HasRisen work.source.faults work.source.faults'
  pub sink : ¬ HasRisen work.sink.faults work.sink.faults'
  pub files : ¬ HasRisen work.files.faults work.files.faults'
  pub parts : ¬ HasRisen work.parts.faults work.parts.faults'
  pub disks : ¬ PartHasFailed disk work.parts
