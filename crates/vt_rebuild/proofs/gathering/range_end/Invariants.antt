use Rattle.std.proofs.Common.{◌≤◌, ◌*◌}
use Rattle.vt_rebuild.proofs.gathering.range_end.Given as goal

-- each count has two bytes
abbrev pub invariant-loop-end : goal.invariant-loop-end
invariant-loop-end l = l.entries ≤ 65535 * l.end
