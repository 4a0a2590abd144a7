-- What calls do to streams of bytes, as read(2) and write(2) do.
use Rattle.std.specs.Prelude.{◌≡◌, ℕ, ◌%◌, List, [], ◌∷◌, ◌++◌, length, take, slice_index, min, max}

-- some first bytes of the piece were appended: none, a part, or all
abbrev pub AppendsPrefix : (old new piece : List ℕ) → Type 0
AppendsPrefix old new piece = (n : ℕ) × (new ≡ old ++ take n piece)

-- the most bytes that the call of this number moves: the lengths in turn, where 0 counts as 1;
-- without lengths, as many as there is room for
abbrev pub piece_length : (pieces : List ℕ) (call room : ℕ) → ℕ
piece_length [] call room = room
piece_length (p ∷ ps) call room = min room (max 1 (slice_index (p ∷ ps) (call % length (p ∷ ps))))
