-- What the arenas of all partitions stand for, in order: the blocks of the arenas up to and with
-- the first that isn't sealed (Quinlan and Dorward 2002, the data log; venti(8)).
use Rattle.std.specs.Prelude.{◌≡◌, ⊤, ℕ, ◌+◌, ◌==◌, ◌≤◌, Bool, if◌then◌else◌, MatchBool, Some, List, [], ◌∷◌, ◌++◌, All, length, map, sum_by, take, slice_get}
use Rattle.vt_clump.specs.Spelling.{Stored}
use Rattle.vt_model.specs.declared.TheConstants.{WRITTEN_VERSION}
use Rattle.vt_model.specs.History.{Accepted, History}
use Rattle.vt_model.specs.Places.{Setup, current_arena}
use Rattle.vt_part.specs.declared.layout.ArenaRegion.{ArenaRegion}
use Rattle.vt_part.specs.Table.{Table}
use Rattle.vt_arena.specs.Layout.{Content, IsArena}

-- a block of the arena with this number, over all partitions
abbrev pub accepted_in : (arena : ℕ) → Stored → Accepted
accepted_in arena s = record { block = record { kind = s.kind; bytes = s.block }; arena = arena }

-- the blocks of arenas that are numbered from this number on
abbrev pub blocks_from : (arena : ℕ) → List Content → History
blocks_from arena [] = []
blocks_from arena (a ∷ rest) = map (accepted_in arena) a.stored ++ blocks_from (arena + 1) rest

-- the version of each: an arena without blocks counts as one of the version that is written, since
-- its first commit writes it so
abbrev pub versions_of : List Content → List ℕ
versions_of contents =
    map (λ a. if length a.stored == 0 then WRITTEN_VERSION else a.version) contents

-- how many arenas are sealed before the first that isn't
abbrev pub first_unsealed : List Content → ℕ
first_unsealed [] = 0
first_unsealed (a ∷ rest) = if a.sealed then first_unsealed rest + 1 else 0

-- the arena takes no more blocks
abbrev pub IsSealed : Content → Type 0
IsSealed a = a.sealed ≡ Bool.true

-- the arena is as it was formatted
abbrev pub IsUntouched : Content → Type 0
IsUntouched a = (a.sealed ≡ Bool.false) × (a.stored ≡ [])

-- behind the first unsealed arena none has blocks, and none is sealed
abbrev pub InOrder : List Content → Type 0
InOrder [] = ⊤
InOrder (a ∷ rest) = MatchBool a.sealed (InOrder rest) (All IsUntouched rest)

-- the arenas of all partitions hold these contents; `files` has each partition's bytes
pub record AreArenas (score_of : List ℕ → List ℕ) (layout : List ArenaRegion)
    (files : List (List ℕ)) (contents : List Content) : Type 0 where
  pub many : length contents ≡ length layout
  pub each : (i : ℕ) (r : ArenaRegion) (a : Content)
      → slice_get layout i ≡ Some r → slice_get contents i ≡ Some a
      → (file : List ℕ) × (slice_get files r.part ≡ Some file)
      × IsArena score_of r.region r.number a file

-- The files are a log of this history, and `base` is the first unsealed arena or, where all are
-- sealed, the count of arenas.
pub record IsLog (score_of : List ℕ → List ℕ) (layout : List ArenaRegion) (files : List (List ℕ))
    (h : History) (base : ℕ) : Type 0 where
  pub contents : List Content
  pub arenas : AreArenas score_of layout files contents
  pub order : InOrder contents
  pub history : h ≡ blocks_from 0 contents
  pub base_is : base ≡ first_unsealed contents

-- The files stand for the first n blocks of a history, with the setup's versions, and a base from the
-- arena that was filled last with these to the one that is being filled now.
pub record LogStandsFor (score_of : List ℕ → List ℕ) (c : Setup) (layout : List ArenaRegion)
    (files : List (List ℕ)) (h : History) (n : ℕ) : Type 0 where
  pub base : ℕ
  pub log : IsLog score_of layout files (take n h) base
  pub versions : c.versions ≡ versions_of log.contents
  pub least : current_arena c (take n h) ≤ base
  pub most : base ≤ current_arena c h

-- how many arenas these partitions have
abbrev pub arena_count : List Table → ℕ
arena_count tables = sum_by (λ t. t.count) tables
