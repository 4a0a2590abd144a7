use Rattle.std.proofs.Common.{◌≤◌, ◌*◌, ◌^◌, map, take}
use Rattle.vt_core.specs.Refusals.{IsTally}
use Rattle.vt_core.proofs.mounting.test_buckets.Given as goal

abbrev pub invariant-loop-i : goal.invariant-loop-i
invariant-loop-i g l = record {
  tally : IsTally 1048576 l.part (take l.i (map (λ s. s.buckets) l.sections)) l.tally;
  low : l.tally.sum ≤ l.i * 2 ^ 32;
}
