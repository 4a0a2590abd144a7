use Rattle.std.proofs.Common.{◌≡◌, ◌*◌, take, map}
use Rattle.vt_log.specs.Log.{disks_of}
use Rattle.vt_log.specs.Mounting.{OnlyReadsParts, AreFound}
use Rattle.vt_log.proofs.AreFound.{AreRead}
use Rattle.vt_log.proofs.mounting.find_all.Given as goal

-- the arenas so far pass, and these are their heads
abbrev pub invariant-loop-i : goal.invariant-loop-i
invariant-loop-i g l = record {
  passed : AreRead g.D.Disk l.fn.parts l.parts l.layout l.heads.items l.behind l.i;
  found : AreFound g.D.Disk.tells (take l.i l.layout) (map g.D.Disk.bytes (disks_of l.fn.parts)) l.heads.items;
  read : OnlyReadsParts g.D.Disk (3 * l.i) l.fn.parts l.parts;
  faults : map g.D.Disk.faults (disks_of l.parts) ≡ map g.D.Disk.faults (disks_of l.fn.parts);
}
