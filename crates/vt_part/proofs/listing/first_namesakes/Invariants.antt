use Rattle.std.proofs.Common.{ℕ, ◌≤◌}
use Rattle.vt_part.specs.Layout.{AreNamesakes}
use Rattle.vt_part.specs.Parts.{names_of}
use Rattle.vt_part.proofs.listing.first_namesakes.Given as goal

abbrev pub invariant-loop-first : goal.invariant-loop-first
invariant-loop-first g l = (i j : ℕ) → AreNamesakes (names_of l.parts) i j → l.first ≤ i
