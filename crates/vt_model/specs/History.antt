-- The blocks of a write-once store, in the order in which it took them.
use Rattle.std.specs.Prelude.{ℕ, ◌≡◌, ◌<◌, ◌≤◌, Bool, ◌&&◌, ◌==◌, if◌then◌else◌, Option, Some, List, [], length, find, slice_get}
use Rattle.std.specs.Option.{option_map}
use Rattle.std.specs.Str.{bytes_eq}
use Rattle.vt_base.specs.Kind.{IsKind}
use Rattle.vt_base.specs.declared.TheConstants.{MAX_BLOCK}

-- the number of a block type, and bytes
pub record Block : Type 0 where
  pub kind : ℕ
  pub bytes : List ℕ

-- what a client may write, and is kept: a block type, and 1 to 57,344 bytes (venti(6))
pub record IsBlock (b : Block) : Type 0 where
  pub kind : IsKind b.kind
  pub some : 0 < length b.bytes
  pub most : length b.bytes ≤ MAX_BLOCK

-- a block that was accepted, and the number of the arena where it stands, over all partitions
pub record Accepted : Type 0 where
  pub block : Block
  pub arena : ℕ

-- what a store has accepted, in order: a write-once log (Quinlan and Dorward 2002)
abbrev pub History : Type 0
History = List Accepted

-- the block has this score and this type
abbrev pub has_key : (List ℕ → List ℕ) → List ℕ → ℕ → Accepted → Bool
has_key score s kind e = bytes_eq (score e.block.bytes) s && e.block.kind == kind

-- The bytes under a score and type: none for the zero score, which is the score of no bytes; else
-- those of the block that has both, if there is one (venti(6)).
abbrev pub held : (List ℕ → List ℕ) → History → List ℕ → ℕ → Option (List ℕ)
held score h s kind =
    if bytes_eq s (score []) then Some []
    else option_map (λ e. e.block.bytes) (find (has_key score s kind) h)

-- ---- the same by the blocks' numbers

-- block i has this score
pub record HasScoreAt (score : List ℕ → List ℕ) (h : History) (i : ℕ) (s : List ℕ) : Type 0 where
  pub block : Accepted
  pub stands : slice_get h i ≡ Some block
  pub score_is : score block.block.bytes ≡ s

-- block i has this score and this type
pub record HasKeyAt (score : List ℕ → List ℕ) (h : History) (i : ℕ) (s : List ℕ) (kind : ℕ)
    : Type 0 where
  pub block : Accepted
  pub stands : slice_get h i ≡ Some block
  pub score_is : score block.block.bytes ≡ s
  pub kind_is : block.block.kind ≡ kind
