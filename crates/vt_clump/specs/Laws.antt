-- What holds of all clumps.
use Rattle.std.specs.Prelude.{◌≡◌, ℕ, None, List, length}
use Rattle.vt_base.specs.Bytes.{AreBytes}
use Rattle.vt_clump.specs.Faults.{first_bad_clump}
use Rattle.vt_clump.specs.Spelling.{Stored, IsStoredBlock, clump_len, clump_bytes, stored_in, BeginsWithClump}

-- No bytes begin with two clumps.
abbrev pub IsUnambiguous : Type 0
IsUnambiguous = (score_of : List ℕ → List ℕ) (s t : Stored) (bytes : List ℕ)
    → BeginsWithClump score_of s bytes → BeginsWithClump score_of t bytes → s ≡ t

-- no test fails where the bytes begin with a clump
abbrev pub PassesClumps : Type 0
PassesClumps = (score_of : List ℕ → List ℕ) (s : Stored) (bytes : List ℕ)
    → BeginsWithClump score_of s bytes → first_bad_clump score_of bytes ≡ None

-- Where the bytes don't begin with a clump, a test fails.
abbrev pub PassesClumpsOnly : Type 0
PassesClumpsOnly = (score_of : List ℕ → List ℕ) (bytes : List ℕ) → AreBytes bytes
    → first_bad_clump score_of bytes ≡ None → BeginsWithClump score_of (stored_in bytes) bytes

-- the clump of a block is as long as its length calls for
abbrev pub HasClumpLen : Type 0
HasClumpLen = (score_of : List ℕ → List ℕ) (s : Stored) → IsStoredBlock score_of s
    → length (clump_bytes s) ≡ clump_len (length s.block)
