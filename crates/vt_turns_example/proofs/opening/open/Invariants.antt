use Rattle.std.specs.Prelude.{[], ◌∷◌, true}
use Rattle.vt_turns_example.proofs.opening.open.Given as goal

abbrev pub ghosts-new : goal.ghosts-new
ghosts-new a = record { opening = record { parts = a.parts.items; history = []; bits = 0 ∷ 0 ∷ []; kept = true } }
