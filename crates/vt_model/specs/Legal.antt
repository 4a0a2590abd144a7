-- Which histories a store can come to have: a block is named by its score and type for ever
-- (venti(6)), and arenas fill one after another (Quinlan and Dorward 2002).
use Rattle.std.specs.Prelude.{ℕ, ◌≡◌, ◌≢◌, ◌≤◌, IsTrue, List, []}
use Rattle.std.specs.List.{All, AllPairs}
use Rattle.vt_model.specs.declared.TheConstants.{BUCKET_ROOM}
use Rattle.vt_model.specs.History.{History, Accepted, IsBlock}
use Rattle.vt_model.specs.Places.{Setup, fits, lengths_in, crowd, bucket_count}

-- one block isn't taken twice
abbrev pub HasOtherKey : (List ℕ → List ℕ) → Accepted → Accepted → Type 0
HasOtherKey score a b = a.block.kind ≡ b.block.kind → score a.block.bytes ≢ score b.block.bytes

-- equal scores have equal bytes
abbrev pub NoCollision : (List ℕ → List ℕ) → Accepted → Accepted → Type 0
NoCollision score a b = score a.block.bytes ≡ score b.block.bytes → a.block.bytes ≡ b.block.bytes

-- A list of blocks that a store of this setup may have come to hold: each is a block, none has
-- another's key or its score with other bytes, and arenas are filled in order.
pub record IsLegal (score : List ℕ → List ℕ) (c : Setup) (h : History) : Type 0 where
  pub blocks : All (λ e. IsBlock e.block) h
  pub keys : AllPairs (HasOtherKey score) h
  pub scores : AllPairs (NoCollision score) h
  -- no block has the zero score
  pub nonzero : All (λ e. score e.block.bytes ≢ score []) h
  -- arenas are filled in order
  pub arenas : AllPairs (λ a b. a.arena ≤ b.arena) h
  -- arenas are filled no further than they have room
  pub room : (arena : ℕ) → IsTrue (fits c arena (lengths_in arena h))
  -- buckets are filled no further than they have room
  pub buckets : (bucket : ℕ) → crowd score (bucket_count c) h bucket ≤ BUCKET_ROOM
