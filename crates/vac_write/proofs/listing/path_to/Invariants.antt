use Rattle.std.proofs.Common.{◌≡◌, drop}
use Rattle.vac_write.specs.Listing.{joined_path, joined_behind}
use Rattle.vac_write.proofs.listing.path_to.Given as goal

abbrev pub invariant-loop-above : goal.invariant-loop-above
invariant-loop-above l = joined_path l.path ≡ joined_behind l.whole.items (drop l.above-index l.path)
