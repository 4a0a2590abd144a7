-- A partition of arenas without blocks.
use Rattle.std.specs.Prelude.{◌≡◌, ℕ, ◌≤◌, List, codes}
use Rattle.vt_disk.specs.Members.{DiskOf}
use Rattle.vt_format.specs.Arenas.{IsEmptyLog}
use Rattle.vt_part.specs.declared.part.Part.{Part}
use Rattle.vt_part.specs.Parts.{disk_of, table_of}
use Rattle.vt_part.specs.Table.{arenas_end, table_for}

-- The partition stands on a disk of this size, and has as many arenas as that has room for.
pub record IsFreshPart {D : Type 0} (disk : DiskOf D) (size arena_len : ℕ) (part : Part D) : Type 0
  where
    pub table : table_of part ≡ table_for (codes "arenas") size arena_len
    pub size_is : disk.size (disk_of part) ≡ size
    pub room : arenas_end (table_of part) ≤ size
    pub log : (c : List ℕ) → disk.images (disk_of part) c → IsEmptyLog (table_of part) c
