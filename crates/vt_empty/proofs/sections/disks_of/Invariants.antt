use Rattle.std.proofs.Common.{◌≡◌, ◌+◌, ◌≤◌, ◌++◌, length, map, reverse, vec_capacity}
use Rattle.vt_empty.proofs.sections.disks_of.Given as goal

-- the disks that were put there, and those of the sections that are left, are all
abbrev pub invariant-loop-section : goal.invariant-loop-section
invariant-loop-section g l = record {
  disks : l.disks.items ++ reverse (map (λ s. s.disk) l.sections.items)
      ≡ reverse (map (λ s. s.disk) l.initial.sections.items);
  room : length l.disks.items + length l.sections.items ≤ vec_capacity l.disks;
}

abbrev pub decreases-loop-section : goal.decreases-loop-section
decreases-loop-section g l = length l.sections.items
