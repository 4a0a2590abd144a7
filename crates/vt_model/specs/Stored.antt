-- The blocks as the plain store keeps them.
use Rattle.std.specs.Prelude.{ℕ, ◌≡◌, List, map}
use Rattle.std.specs.List.{All}
use Rattle.vt_model.specs.declared.stored.Stored.{Stored}
use Rattle.vt_model.specs.History.{History, Accepted}

-- a block that is kept in memory, as the history has it
abbrev pub accepted : Stored → Accepted
accepted b = record { block = record { kind = b.key.kind; bytes = b.bytes }; arena = b.arena }

-- the history that a list of blocks in memory is
abbrev pub history_of : List Stored → History
history_of blocks = map accepted blocks

-- each is kept with its own score
abbrev pub AreScored : (List ℕ → List ℕ) → List Stored → Type 0
AreScored score blocks = All (λ b. b.key.score.0 ≡ score b.bytes) blocks
