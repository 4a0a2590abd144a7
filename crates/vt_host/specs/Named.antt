-- What files by name are made of.
use Rattle.std.specs.Prelude.{ℕ}
use Rattle.vt_host.specs.declared.files.StdFiles.{StdFiles}
use Rattle.vt_host.specs.declared.parts.FileParts.{FileParts}

-- What opens the files of the system's partitions.
abbrev pub parts_files : {O : Type 0} → FileParts O → O
parts_files parts = parts.files

-- what opens the system's files
abbrev pub files_opener : {O : Type 0} → StdFiles O → O
files_opener files = files.files

-- How many calls of the system's partitions have failed.
abbrev pub parts_faults : {O : Type 0} → FileParts O → ℕ
parts_faults parts = parts.faults.count

-- how many calls on the system's files failed
abbrev pub files_faults : {O : Type 0} → StdFiles O → ℕ
files_faults files = files.faults.count
