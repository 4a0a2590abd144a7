use Rattle.std.proofs.Common.{◌≡◌, ◌<◌, ◌≤◌, ℕ, Some, map}
use Rattle.std.specs.Prelude.{slice_get}
use Rattle.vt_disk.specs.Calls.{IsSynced}
use Rattle.vt_log.specs.Log.{disks_of}
use Rattle.vt_log.specs.Mounting.{OnlyReadsParts}
use Rattle.vt_log.proofs.mounting.sync_all.Given as goal

-- so many disks were synced
abbrev pub invariant-loop-part : goal.invariant-loop-part
invariant-loop-part g l = record {
  settled : (k : ℕ) (disk : _) → k < l.part-index → slice_get (disks_of l.parts) k ≡ Some disk → IsSynced g.D.Disk disk;
  rest : (k : ℕ) → l.part-index ≤ k → slice_get l.parts k ≡ slice_get l.fn.parts k;
  read : OnlyReadsParts g.D.Disk l.part-index l.fn.parts l.parts;
  faults : map g.D.Disk.faults (disks_of l.parts) ≡ map g.D.Disk.faults (disks_of l.fn.parts);
}
