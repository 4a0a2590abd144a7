-- A history of blocks, and what it holds.
use Rattle.std.specs.Prelude.{ℕ, suc, ◌==◌, if◌then◌else◌, List, [], ◌∷◌, Option, Some, None}
use Rattle.vt_turns_example.specs.declared.part.Block.{Block}

-- the value of the first block of a key
abbrev pub held_value : List Block → (key : ℕ) → Option ℕ
held_value [] key = None
held_value (b ∷ bs) key = if b.key == key then Some b.value else held_value bs key

-- the number of that block, counted from n
abbrev pub number_from : (n : ℕ) → List Block → (key : ℕ) → Option ℕ
number_from n [] key = None
number_from n (b ∷ bs) key = if b.key == key then Some n else number_from (suc n) bs key
