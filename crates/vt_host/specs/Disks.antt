-- What a file as a disk is made of.
use Rattle.std.specs.Prelude.{ℕ}
use Rattle.vt_host.specs.declared.disk.FileDisk.{FileDisk}
use Rattle.vt_host.specs.declared.system.FileCalls.{Ghosts as FileCallsOf}

-- the file whose bytes it has
abbrev pub disk_file : {F : Type 0} {calls : FileCallsOf F} → FileDisk F calls → F
disk_file disk = disk.file

-- how many bytes it has
abbrev pub disk_size : {F : Type 0} {calls : FileCallsOf F} → FileDisk F calls → ℕ
disk_size disk = disk.len

-- How many calls of a file as a disk have failed.
abbrev pub disk_faults : {F : Type 0} {calls : FileCallsOf F} → FileDisk F calls → ℕ
disk_faults disk = disk.faults.count
