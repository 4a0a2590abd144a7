use Rattle.std.proofs.Common.{◌≤◌, ◌*◌, ◌^◌, map, take}
use Rattle.vt_part.specs.Parts.{tables_of}
use Rattle.vt_core.specs.Refusals.{IsTally}
use Rattle.vt_core.proofs.mounting.test_arenas.Given as goal

abbrev pub invariant-loop-i : goal.invariant-loop-i
invariant-loop-i g l = record {
  tally : IsTally 4096 0 (take l.i (map (λ t. t.count) (tables_of l.parts))) l.tally;
  low : l.tally.sum ≤ l.i * 2 ^ 32;
}
