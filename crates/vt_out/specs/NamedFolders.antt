-- A folder in memory that is handed out once by its name.
use Rattle.std.specs.Prelude.{ℕ, List, Option, Some, None, bytes_eq, if◌then◌else◌}
use Rattle.vt_out.specs.declared.mem_folder.MemFolder.{MemFolder}
use Rattle.vt_out.specs.declared.mem_folders.MemFolders.{MemFolders}
use Rattle.vt_out.specs.FolderPlaces.{back_in, standing_at, waiting_in}
use Rattle.vt_out.specs.FolderStanding.{Standing, nothing}

-- The name of a folder in memory.
abbrev pub name_of : MemFolders → List ℕ
name_of folders = folders.name

-- the folder in memory until it is handed out, which it is once
abbrev pub waiting_of : MemFolders → Option MemFolder
waiting_of folders = waiting_in folders.place

-- the folder in memory behind its use, if it is back
abbrev pub back_of : MemFolders → Option MemFolder
back_of folders = back_in folders.place

-- How many calls of a folder in memory have failed.
abbrev pub folders_faults : MemFolders → ℕ
folders_faults folders = folders.faults

-- what stands under a name
abbrev pub standing_in : MemFolders → (name : List ℕ) → Standing
standing_in folders name =
    if bytes_eq folders.name name then standing_at folders.place else nothing
