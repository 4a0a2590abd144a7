-- Blocks by score and type (venti(6)): what a store has of each.
use Rattle.std.specs.Prelude.{ℕ, ◌≡◌, ◌==◌, ◌&&◌, if◌then◌else◌, Option, Some, None, List, [], ◌∷◌}
use Rattle.std.specs.Option.{option_or}
use Rattle.std.specs.Str.{bytes_eq}
use Rattle.vt_model.specs.History.{Block}

-- the bytes under a score and a type, where there are any
abbrev pub BlockMap : Type 0
BlockMap = (score : List ℕ) → (kind : ℕ) → Option (List ℕ)

-- the map of a store without blocks: the zero score is that of no bytes
abbrev pub no_blocks : (score_of : List ℕ → List ℕ) → BlockMap
no_blocks score_of s kind = if bytes_eq s (score_of []) then Some [] else None

-- The map with this block under its score. What it had there before stays.
abbrev pub with_block : (score_of : List ℕ → List ℕ) → Block → BlockMap → BlockMap
with_block score_of b map s kind =
    option_or (map s kind)
    (if bytes_eq (score_of b.bytes) s && b.kind == kind then Some b.bytes else None)

-- the map with these blocks, the first of them first
abbrev pub with_blocks : (score_of : List ℕ → List ℕ) → List Block → BlockMap → BlockMap
with_blocks score_of [] map = map
with_blocks score_of (b ∷ blocks) map = with_blocks score_of blocks (with_block score_of b map)

-- the map has this block under its score
abbrev pub Has : (score_of : List ℕ → List ℕ) → BlockMap → Block → Type 0
Has score_of map b = map (score_of b.bytes) b.kind ≡ Some b.bytes

-- What the map has under the block's score, under any type, are the block's bytes.
abbrev pub HasNoOther : (score_of : List ℕ → List ℕ) → BlockMap → Block → Type 0
HasNoOther score_of map b =
    (kind : ℕ) (bytes : List ℕ) → map (score_of b.bytes) kind ≡ Some bytes → bytes ≡ b.bytes

-- what the first map has, the second has too
abbrev pub IsWithin : (old new : BlockMap) → Type 0
IsWithin old new = (s : List ℕ) (kind : ℕ) (bytes : List ℕ)
    → old s kind ≡ Some bytes → new s kind ≡ Some bytes

-- The map of a write-once store: each block is under its own score, one score has one content,
-- whatever the type, and the zero score, which is that of no bytes, has no bytes under any type.
pub record IsWriteOnce (score_of : List ℕ → List ℕ) (map : BlockMap) : Type 0 where
  pub scores : (s : List ℕ) (kind : ℕ) (bytes : List ℕ)
      → map s kind ≡ Some bytes → score_of bytes ≡ s
  pub contents : (s : List ℕ) (kind other : ℕ) (a b : List ℕ)
      → map s kind ≡ Some a → map s other ≡ Some b → a ≡ b
  pub zero_score : (kind : ℕ) → map (score_of []) kind ≡ Some []

-- what a store holds, and what of it the last answered sync has covered
pub record Maps : Type 0 where
  pub held : BlockMap
  pub synced : BlockMap
