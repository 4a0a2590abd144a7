use Rattle.std.proofs.Common.{◌≡◌, ◌*◌, length, take}
use Rattle.std.specs.List.{flat_map}
use Rattle.vt_tree.proofs.writing.joined.Given as goal

abbrev pub invariant-loop-score : goal.invariant-loop-score
invariant-loop-score l = record {
  bytes : l.bytes.items ≡ flat_map (λ s. s.0) (take l.score-index l.scores);
  len : length l.bytes.items ≡ 20 * l.score-index;
}
