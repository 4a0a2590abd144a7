use Rattle.std.proofs.Common.{◌≡◌, ◌+◌, ◌≤◌, ◌++◌, length, map, reverse, vec_capacity}
use Rattle.vt_recover.proofs.opening.unpack.Given as goal

-- the devices that were put there, and those of the sections that are left, are all
abbrev pub invariant-loop-section : goal.invariant-loop-section
invariant-loop-section g l = record {
  devices : l.devices.items ++ reverse (map (λ s. s.disk) l.sections.items)
      ≡ l.initial.devices.items ++ reverse (map (λ s. s.disk) l.initial.sections.items);
  room : length l.devices.items + length l.sections.items ≤ vec_capacity l.devices;
  same : vec_capacity l.devices ≡ vec_capacity l.initial.devices;
}

abbrev pub decreases-loop-section : goal.decreases-loop-section
decreases-loop-section g l = length l.sections.items
