use Rattle.std.proofs.Common.{◌≡◌, ◌≤◌, sum_by, take}
use Rattle.vt_mount_errors.proofs.mount_errors.partition_of.Given as goal
use Rattle.vt_part.specs.Parts.{tables_of}

-- so many arenas are before partition i, and the one that is looked for isn't one of them
abbrev pub invariant-loop-i : goal.invariant-loop-i
invariant-loop-i g l = record {
  before : l.first ≡ sum_by (λ t. t.count) (take l.i (tables_of l.parts));
  behind : l.first ≤ l.arena;
}
