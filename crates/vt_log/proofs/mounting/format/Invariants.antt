use Rattle.std.proofs.Common.{◌≡◌, ◌<◌, ◌≤◌, ℕ, Some, map}
use Rattle.std.specs.Prelude.{slice_get}
use Rattle.vt_part.specs.declared.part.Part.{Part}
use Rattle.vt_part.specs.Parts.{disk_of, table_of, tables_of}
use Rattle.vt_log.specs.Formatting.{IsEmpty, WritesInHeads}
use Rattle.vt_log.specs.Log.{disks_of}
use Rattle.vt_log.proofs.mounting.format.Given as goal

-- the arenas of the partitions so far have no blocks
abbrev pub invariant-loop-part : goal.invariant-loop-part
invariant-loop-part g l = record {
  tables : tables_of l.parts ≡ tables_of l.fn.parts;
  empty : (k : ℕ) (part : _) → k < l.part-index → slice_get l.parts k ≡ Some part → IsEmpty g.D.Disk part;
  writes : (k : ℕ) (before after : Part _) → slice_get l.fn.parts k ≡ Some before → slice_get l.parts k ≡ Some after
      → WritesInHeads g.D.Disk (table_of before) (disk_of before) (disk_of after);
  rest : (k : ℕ) → l.part-index ≤ k → slice_get l.parts k ≡ slice_get l.fn.parts k;
  size : map g.D.Disk.size (disks_of l.parts) ≡ map g.D.Disk.size (disks_of l.fn.parts);
  faults : map g.D.Disk.faults (disks_of l.parts) ≡ map g.D.Disk.faults (disks_of l.fn.parts);
}
