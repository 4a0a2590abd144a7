-- What a disk in memory holds.
use Rattle.std.specs.Prelude.{ℕ, Bool, List}
use Rattle.vt_memdisk.specs.declared.mem_disk.MemDisk.{MemDisk}

-- the bytes that a read gives
abbrev pub memory_bytes : {P : Type 0} → MemDisk P → List ℕ
memory_bytes disk = disk.cells.content.items

-- the bytes at the last sync
abbrev pub memory_synced : {P : Type 0} → MemDisk P → List ℕ
memory_synced disk = disk.cells.synced.items

-- which bytes were touched since
abbrev pub memory_pending : {P : Type 0} → MemDisk P → List Bool
memory_pending disk = disk.cells.pending.items

-- Which calls of a disk in memory fail.
abbrev pub memory_plan : {P : Type 0} → MemDisk P → P
memory_plan disk = disk.plan
