use Rattle.std.specs.List.{AllZip}
use Rattle.vt_rehearse.specs.Crashed.{IsImageLeft}
use Rattle.vt_rehearse.proofs.crashing.crash_all.Given as goal

-- so many were crashed
abbrev pub invariant-loop-disk : goal.invariant-loop-disk
invariant-loop-disk g l = AllZip (IsImageLeft g.D.Disk g.D.Crashable.leaves l.mode) l.yielded l.left.items
