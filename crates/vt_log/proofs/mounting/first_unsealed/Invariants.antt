use Rattle.std.proofs.Common.{◌≡◌, true, take}
use Rattle.std.specs.Prelude.{All}
use Rattle.vt_log.proofs.mounting.first_unsealed.Given as goal

-- the arenas before it are sealed
abbrev pub invariant-loop-i : goal.invariant-loop-i
invariant-loop-i l = All (λ found. found.head.sealed ≡ true) (take l.i l.heads)
