use Rattle.std.proofs.Common.{◌+◌, ◌≤◌, length, vec_capacity}
use Rattle.vt_recover.proofs.Opened.{IsSplitAt}
use Rattle.vt_recover.specs.Opening.{IsFoundSection}
use Rattle.vt_recover.proofs.opening.open_sections.Given as goal

-- the sections of the first devices are open, and the others wait, the last one first
abbrev pub invariant-loop-device : goal.invariant-loop-device
invariant-loop-device g l = record {
  split : IsSplitAt (IsFoundSection g.D.Disk) l.fn.devices.items l.sections.items l.devices.items;
  sections : length l.fn.devices.items ≤ vec_capacity l.sections;
  devices : length l.devices.items + length l.sections.items ≤ vec_capacity l.devices;
  all : length l.fn.devices.items ≤ vec_capacity l.devices;
}

abbrev pub decreases-loop-device : goal.decreases-loop-device
decreases-loop-device g l = length l.devices.items
