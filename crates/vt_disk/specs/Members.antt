-- The ghost members of a disk as one record, which a clause writes `D.Disk`.
use Rattle.vt_disk.specs.declared.disk.Disk.{Ghosts}

-- what contracts know of a type of disks: its length, its bytes, what a crash may leave, and its
-- counts
abbrev pub DiskOf : Type 0 → Type 1
DiskOf D = Ghosts D
