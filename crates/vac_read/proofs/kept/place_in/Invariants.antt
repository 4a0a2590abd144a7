use Rattle.std.proofs.Common.{◌≡◌, ◌<◌, ℕ}
use Rattle.vac_read.specs.Kept.{IsKeptAt}
use Rattle.vac_read.proofs.kept.place_in.Given as goal

abbrev pub invariant-loop-folder : goal.invariant-loop-folder
invariant-loop-folder l = record {
  at_is : l.at ≡ l.folder-index;
  before : (k : ℕ) → k < l.folder-index → IsKeptAt l.entries l.metadata l.folders k → ⊥;
}
