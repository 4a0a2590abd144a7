-- The disks of a rehearsal, as its store sees them.
use Rattle.std.specs.Prelude.{ℕ, true, List, length}
use Rattle.vt_disk.specs.Members.{DiskOf}
use Rattle.vt_memdisk.specs.declared.crash.CrashMode.{CrashMode}
use Rattle.vt_memdisk.specs.declared.mem_disk.MemDisk.{MemDisk}
use Rattle.vt_memdisk.specs.declared.plan.Never.{Never}
use Rattle.vt_memdisk.specs.Cells.{IsCombination}
use Rattle.vt_memdisk.specs.Crashes.{IsLeftBy}
use Rattle.vt_memdisk.specs.Memory.{memory_bytes, memory_pending, memory_plan, memory_synced}

-- a disk in memory, of which no call fails
abbrev pub memory_disk : DiskOf (MemDisk Never)
memory_disk = record {
  tells = true;
  size = λ disk. length (memory_bytes disk);
  bytes = memory_bytes;
  images = λ disk. IsCombination (memory_synced disk) (memory_pending disk);
  calls = λ disk. (memory_plan disk).calls;
  faults = λ _. 0;
}

-- a crash of this mode leaves this file of it
abbrev pub LeavesMemory : {P : Type 0} → CrashMode → MemDisk P → List ℕ → Type 0
LeavesMemory mode disk file =
    IsLeftBy mode (memory_pending disk) (memory_synced disk) (memory_bytes disk) file
