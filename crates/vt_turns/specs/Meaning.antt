-- What a part means. The log is part 0; the others are shards, each with the blocks of a range.
use Rattle.std.specs.Prelude.{◌≡◌, ℕ, ◌≤◌, List, [], ◌∷◌, ◌++◌, Option, Bool, false, true}
use Rattle.vt_turns.specs.declared.view.Opening.{Opening}

-- what a rule says of the parts that threads share: which of them are sound for a list of blocks,
-- which blocks lie in a part's range, and how far a part bounds the list
pub record Meaning (P B : Type 0) : Type 1 where
  -- In a store that was opened so, the part is sound for this list of blocks. A log's history is
  -- known by this relation alone: it needs to be no function of the part.
  pub sound : Opening P B → List B → P → Type 0
  -- the block lies in the part's range
  pub covers : P → B → Bool
  -- the places of the block's Bloom bits
  pub places : B → List ℕ
  -- how many blocks a log has, and how many of them are durable
  pub front : P → ℕ
  pub durable : P → ℕ
  -- in such a store each filed number is below this number, and each mark is at most it
  pub within : Opening P B → ℕ → P → Type 0
  -- how many blocks have their index entries on the disk
  pub mark : P → ℕ
  -- the device call that stopped it
  pub stop : P → Option ℕ
  -- the faults of its devices, added up, and whether a device's count can't rise any more
  pub count : P → ℕ
  pub full : P → Bool

-- what a meaning has to keep to, so that one thread's step leaves other parts sound
pub record Lawful {P B : Type 0} (M : Meaning P B) : Type 0 where
  -- a part stays sound when a block outside its range is added
  pub outside : (o : Opening P B) (h : List B) (b : B) (x : P)
      → (o.kept ≡ true → M.covers x b ≡ false) → M.sound o h x → M.sound o (h ++ b ∷ []) x
  -- a larger bound is one too
  pub further : (o : Opening P B) (m n : ℕ) (x : P) → m ≤ n → M.within o m x → M.within o n x
