-- What `fmtindex` says of the partitions under the names of a configuration, where it puts the
-- sections to use (venti(8)).
use Rattle.std.specs.Prelude.{ℕ, Ok, None, List, [], ◌++◌, map}
use Rattle.std.specs.List.{Contains}
use Rattle.std.specs.Option.{option_to_list}
use Rattle.vt_conf.specs.declared.conf.Conf.{Conf}
use Rattle.vt_conf.specs.declared.conf.PartFile.{PartFile}
use Rattle.vt_disk.specs.Members.{DiskOf}
use Rattle.vt_format.specs.declared.index.Index.{Index}
use Rattle.vt_format.specs.Index.{ArePutToUse, LeavesThere}
use Rattle.vt_format.specs.Opening.{FindsArenas}
use Rattle.vt_partitions.specs.Parts.{Standing, StaysThere}

-- the name of one of these files
abbrev pub IsNameOf : List PartFile → List ℕ → Type 0
IsNameOf files name = Contains (map (λ file. file.name) files) name

-- no section is named as another partition
abbrev pub HaveOwnNames : Conf → Type 0
HaveOwnNames conf = (name : List ℕ) → IsNameOf conf.sections.items name
    → ¬ IsNameOf (conf.arenas.items ++ option_to_list conf.filter) name

-- All partitions were found, and the sections put to use; the others are as they were.
pub record PutsToUse {D : Type 0} (disk : DiskOf D) (conf : Conf) (old new : List ℕ → Standing D)
    (it : Index) : Type 0 where
  pub found : FindsArenas disk old conf [] [] conf.arenas.items None
  pub used : ArePutToUse disk old new 0 it.buckets conf.sections.items
  pub back : (name : List ℕ) → LeavesThere disk (Ok it) (old name) (new name)
  pub stays : (name : List ℕ) → ¬ IsNameOf conf.sections.items name
      → StaysThere disk (old name) (new name)
