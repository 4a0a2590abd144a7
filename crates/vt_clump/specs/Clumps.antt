-- What clumps in memory say.
use Rattle.std.specs.Prelude.{◌≡◌, ℕ, List, length}
use Rattle.vt_clump.specs.declared.packed.Packed.{Packed}
use Rattle.vt_clump.specs.declared.reading.Clump.{Clump}
use Rattle.vt_clump.specs.Spelling.{Stored, IsStoredBlock, clump_bytes, stored_in}

-- What was read of a clump is this; the creator isn't read.
pub record IsClumpRead (s : Stored) (clump : Clump) : Type 0 where
  pub kind : clump.kind ≡ s.kind
  pub score : clump.score.0 ≡ s.score
  pub time : clump.time ≡ s.time
  pub bytes : clump.bytes ≡ s.block

-- what a clump to be stored says
abbrev pub stored_of : Packed → Stored
stored_of p = stored_in p.bytes

-- The bytes of a packed block are a clump, of a block of this score, and its other fields say what
-- the clump says.
pub record IsPacked (score_of : List ℕ → List ℕ) (p : Packed) : Type 0 where
  pub stored : IsStoredBlock score_of (stored_of p)
  pub bytes : p.bytes ≡ clump_bytes (stored_of p)
  pub kind : p.kind ≡ (stored_of p).kind
  pub score : p.score.0 ≡ (stored_of p).score
  pub len : p.len ≡ length (stored_of p).block
