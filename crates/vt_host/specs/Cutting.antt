-- Bytes that are cut at each one that passes a test: the names of a folder at zeros, lines at their
-- ends, and a line at colons.
use Rattle.std.specs.Prelude.{ℕ, Bool, cond, List, [], ◌∷◌, ◌==◌}
use Rattle.std.specs.List.{onto_first}

-- the pieces, in order; behind the last byte none begins
abbrev pub pieces : (cuts : ℕ → Bool) → List ℕ → List (List ℕ)
pieces cuts [] = []
pieces cuts (b ∷ bytes) =
    cond (cuts b) ([] ∷ pieces cuts bytes) (onto_first b (pieces cuts bytes))

-- whether a byte is this one
abbrev pub is_byte : (separator b : ℕ) → Bool
is_byte separator b = b == separator
