-- Partitions in memory.
use Rattle.std.specs.Prelude.{ℕ, List, take, map, Result, Ok, Err}
use Rattle.vt_part.specs.declared.error.PartBad.{PartBad}
use Rattle.vt_part.specs.declared.head.Head.{Head}
use Rattle.vt_part.specs.declared.part.Part.{Part}
use Rattle.vt_part.specs.Table.{Table}

-- what the fields of a block say
abbrev pub table_in : Head → Table
table_in head = record {
  name = take head.name_len head.field;
  arena_size = head.arena_size;
  count = head.count;
}

-- a partition's table, and its disk
abbrev pub table_of : {D : Type 0} → Part D → Table
table_of part = table_in part.head

-- the disk that a partition is on
abbrev pub disk_of : {D : Type 0} → Part D → D
disk_of part = part.disk

-- the tables of a list of partitions, and their names
abbrev pub tables_of : {D : Type 0} → List (Part D) → List Table
tables_of parts = map (λ part. table_of part) parts

-- the names of partitions, in order
abbrev pub names_of : {D : Type 0} → List (Part D) → List (List ℕ)
names_of parts = map (λ part. (table_of part).name) parts

-- the disk after mounting, whatever the answer
abbrev pub disk_after : {D : Type 0} → Result (Part D) (PartBad × D) → D
disk_after (Ok part) = disk_of part
disk_after (Err refusal) = refusal.1
