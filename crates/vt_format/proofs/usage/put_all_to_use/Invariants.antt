use Rattle.vt_format.proofs.InTurn.{AreUsedTo}
use Rattle.vt_format.proofs.usage.put_all_to_use.Given as goal

-- the sections so far are in use, and the others are as they were
abbrev pub invariant-loop-number : goal.invariant-loop-number
invariant-loop-number g l = AreUsedTo g.D.Disk l.total l.number l.first l.fn.sections l.sections
