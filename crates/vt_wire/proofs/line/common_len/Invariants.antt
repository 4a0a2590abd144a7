use Rattle.std.proofs.Common.{◌≡◌, ◌+◌, ◌-◌, ◌≤◌, nat_eq, drop, length}
use Rattle.std.specs.Prelude.{codes}
use Rattle.std.specs.List.{common_prefix_len}
use Rattle.vt_wire.proofs.line.common_len.Given as goal

abbrev pub invariant-loop-same : goal.invariant-loop-same
invariant-loop-same l = record {
  at_most : l.same ≤ length l.line;
  so_far : l.same + common_prefix_len nat_eq (drop l.same l.line) (drop l.same (codes "venti-")) ≡ common_prefix_len nat_eq l.line (codes "venti-");
}

abbrev pub decreases-loop-same : goal.decreases-loop-same
decreases-loop-same l = length l.line - l.same
