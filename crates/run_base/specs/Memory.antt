-- The store in memory.
use Rattle.std.specs.Prelude.{ℕ, ◌≡◌, None, List, [], ◌∷◌}
use Rattle.std.specs.List.{All}
use Rattle.vt_core.specs.Core.{CoreState, setup_of, stops_of}
use Rattle.vt_core.specs.Machine.{WaitsForNone}
use Rattle.vt_core.specs.Sound.{IsSound}
use Rattle.vt_disk.specs.Members.{DiskOf}
use Rattle.vt_model.specs.Places.{Setup}

-- one arena of 1,048,576 bytes, in version 1, and one index section of 4 buckets
abbrev pub memory_setup : Setup
memory_setup = record {
  arenas = 1048576 ∷ [];
  versions = 1 ∷ [];
  base = 0;
  sections = 4 ∷ [];
}

-- a store of this setup without blocks, of which no part has stopped
pub record IsMemoryStore {D : Type 0} (score : List ℕ → List ℕ) (disk : DiskOf D)
    (k : CoreState D) : Type 0 where
  pub sound : IsSound score disk k []
  pub setup : setup_of k ≡ memory_setup
  pub free : WaitsForNone k.waiting 0
  pub stops : All (λ stop. stop ≡ None) (stops_of k)
