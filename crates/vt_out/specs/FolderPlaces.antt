-- Where the folder in memory is.
use Rattle.std.specs.Prelude.{Option, Some, None}
use Rattle.vt_out.specs.declared.mem_folder.MemFolder.{MemFolder}
use Rattle.vt_out.specs.FolderMemory.{may_fail_in, state_of}
use Rattle.vt_out.specs.declared.folder_place.Place.{Place}
use Rattle.vt_out.specs.declared.folder_place.Place.TheVariants.{Waiting, Out, Back}
use Rattle.vt_out.specs.FolderStanding.{Standing, lent, there}

-- the one that waits to be handed out
abbrev pub waiting_in : Place → Option MemFolder
waiting_in (Waiting folder) = Some folder
waiting_in Out = None
waiting_in (Back folder) = None

-- the one that is back
abbrev pub back_in : Place → Option MemFolder
back_in (Waiting folder) = None
back_in Out = None
back_in (Back folder) = Some folder

-- what stands there
abbrev pub standing_at : Place → Standing
standing_at (Waiting folder) = there (state_of folder).items (may_fail_in (state_of folder))
standing_at Out = lent
standing_at (Back folder) = there (state_of folder).items (may_fail_in (state_of folder))
