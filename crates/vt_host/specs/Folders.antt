-- What folders of the system are made of.
use Rattle.std.specs.Prelude.{ℕ, List, Option, string_bytes}
use Rattle.vt_host.specs.declared.owners.Owner.{Owner}
use Rattle.vt_host.specs.declared.folder.StdFolder.{StdFolder}
use Rattle.vt_host.specs.declared.folders.StdFolders.{StdFolders}

-- what makes its calls
abbrev pub folder_calls : {C F : Type 0} → StdFolder C F → C
folder_calls folder = folder.calls

-- The path of a folder of the operating system.
abbrev pub folder_base : {C F : Type 0} → StdFolder C F → List ℕ
folder_base folder = string_bytes folder.base

-- the users whose names it knows
abbrev pub folder_users : {C F : Type 0} → StdFolder C F → List Owner
folder_users folder = folder.users.owners.items

-- the groups
abbrev pub folder_groups : {C F : Type 0} → StdFolder C F → List Owner
folder_groups folder = folder.groups.owners.items

-- the file that is open
abbrev pub folder_open : {C F : Type 0} → StdFolder C F → Option F
folder_open folder = folder.opened

-- How many calls of a folder of the operating system have failed.
abbrev pub folder_faults : {C F : Type 0} → StdFolder C F → ℕ
folder_faults folder = folder.faults.count

-- What opens the files that name users and groups.
abbrev pub folders_opener : {C O : Type 0} → StdFolders C O → O
folders_opener folders = folders.files.files

-- how many calls have failed, those of folders that are back among them
abbrev pub folders_faults : {C O : Type 0} → StdFolders C O → ℕ
folders_faults folders = folders.faults.count
