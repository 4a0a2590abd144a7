use Rattle.std.proofs.Common.{◌≡◌, ◌-◌, ◌≤◌, drop, replicate}
use Rattle.vt_part.proofs.head.name_len.Given as goal

abbrev pub invariant-loop-len : goal.invariant-loop-len
invariant-loop-len l = (l.len ≤ 64) × (drop l.len l.field ≡ replicate (64 - l.len) 0)

abbrev pub decreases-loop-len : goal.decreases-loop-len
decreases-loop-len l = l.len
