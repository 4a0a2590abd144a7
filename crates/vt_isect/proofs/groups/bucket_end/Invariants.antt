use Rattle.std.proofs.Common.{take, drop}
use Rattle.vt_isect.proofs.AreNext.{AreOwn}
use Rattle.vt_isect.proofs.groups.bucket_end.Given as goal

abbrev pub invariant-loop-i : goal.invariant-loop-i
invariant-loop-i l = AreOwn l.total l.bucket (drop l.first (take l.i l.entries))
