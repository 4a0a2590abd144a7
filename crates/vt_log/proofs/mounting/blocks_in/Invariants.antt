use Rattle.std.proofs.Common.{◌≡◌, ◌*◌, ◌≤◌, take}
use Rattle.std.specs.Prelude.{sum_by}
use Rattle.vt_log.proofs.mounting.blocks_in.Given as goal

-- those of the arenas so far
abbrev pub invariant-loop-found : goal.invariant-loop-found
invariant-loop-found l = record {
  sum : l.blocks ≡ sum_by (λ found. found.head.clumps) (take l.found-index l.heads);
  small : l.blocks ≤ 4294967295 * l.found-index;
}
