use Rattle.vt_format.proofs.Clearing.{HasCleared}
use Rattle.vt_format.proofs.usage.clear_buckets.Given as goal

-- so many pieces are cleared
abbrev pub invariant-loop-piece : goal.invariant-loop-piece
invariant-loop-piece g l = HasCleared g.D.Disk l.piece l.initial.section l.section
