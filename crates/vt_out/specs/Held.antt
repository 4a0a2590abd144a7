-- What the files in memory hold, and which of their calls fail.
use Rattle.std.specs.Prelude.{ℕ, List, [], ◌∷◌, bytes_eq, if◌then◌else◌, Option, Some, None}
use Rattle.vt_out.specs.declared.mem_files.MemFile.{MemFile}
use Rattle.vt_out.specs.declared.mem_files.MemFiles.{MemFiles}

-- the content of the first file that has this name
abbrev pub content_of : List MemFile → (name : List ℕ) → Option (List ℕ)
content_of [] name = None
content_of (file ∷ files) name =
    if bytes_eq file.name name then Some file.content else content_of files name

-- the files, in the order in which they were added
abbrev pub files_held : MemFiles → List MemFile
files_held files = files.files.items

-- the numbers of the calls that fail
abbrev pub files_failing : MemFiles → List ℕ
files_failing files = files.plan.failing.items

-- the number of the next call
abbrev pub files_calls : MemFiles → ℕ
files_calls files = files.plan.calls

-- how many calls have failed
abbrev pub files_faults : MemFiles → ℕ
files_faults files = files.plan.faults
