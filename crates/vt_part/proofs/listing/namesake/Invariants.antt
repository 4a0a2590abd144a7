use Rattle.std.proofs.Common.{ℕ, ◌≤◌}
use Rattle.vt_part.specs.Layout.{AreNamesakes}
use Rattle.vt_part.specs.Parts.{names_of}
use Rattle.vt_part.proofs.listing.namesake.Given as goal

abbrev pub invariant-loop-second : goal.invariant-loop-second
invariant-loop-second g l =
    (k : ℕ) → AreNamesakes (names_of l.parts) l.first k → l.second ≤ k
