use Rattle.std.proofs.Common.{◌≤◌, length, vec_capacity}
use Rattle.vt_recover.proofs.Opened.{IsSplitAt}
use Rattle.vt_recover.specs.Opening.{IsShardMade}
use Rattle.vt_recover.proofs.opening.open_shards.Given as goal

-- the shards of the first sections are made, and the other sections wait, the last one first
abbrev pub invariant-loop-section : goal.invariant-loop-section
invariant-loop-section g l = record {
  split : IsSplitAt (IsShardMade g.D.Disk l.sizes.lumps l.sizes.clean) l.fn.sections.items l.shards.items l.sections.items;
  shards : length l.fn.sections.items ≤ vec_capacity l.shards;
  sections : length l.fn.sections.items ≤ vec_capacity l.sections;
}

abbrev pub decreases-loop-section : goal.decreases-loop-section
decreases-loop-section g l = length l.sections.items
