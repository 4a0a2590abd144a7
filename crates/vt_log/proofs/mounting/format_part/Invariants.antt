use Rattle.std.proofs.Common.{◌≡◌, ◌<◌, IsTrue}
use Rattle.vt_disk.specs.Calls.{IsSynced}
use Rattle.vt_part.specs.Parts.{disk_of, table_of}
use Rattle.vt_log.specs.Formatting.{AreEmpty, WritesInFirst}
use Rattle.vt_log.proofs.mounting.format_part.Given as goal

-- the arenas so far have no blocks
abbrev pub invariant-loop-arena : goal.invariant-loop-arena
invariant-loop-arena g l = record {
  table : table_of l.part ≡ table_of l.fn.part;
  empty : IsTrue g.D.Disk.tells → AreEmpty (table_of l.fn.part) l.arena (g.D.Disk.images (disk_of l.part));
  settled : 0 < l.arena → IsSynced g.D.Disk (disk_of l.part);
  writes : WritesInFirst g.D.Disk (table_of l.fn.part) l.arena (disk_of l.fn.part) (disk_of l.part);
  faults : g.D.Disk.faults (disk_of l.part) ≡ g.D.Disk.faults (disk_of l.fn.part);
}
