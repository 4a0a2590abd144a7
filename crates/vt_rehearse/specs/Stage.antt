-- A store that is rehearsed, and the plain list beside it.
use Rattle.std.specs.Prelude.{◌≡◌, ◌≢◌, ℕ, ◌<◌, ⊤, IsTrue, false, Option, None, List, [], ◌∷◌, ◌++◌, length, map, replicate}
use Rattle.std.specs.List.{All, AllPairs}
use Rattle.vt_disk.specs.Members.{DiskOf}
use Rattle.vt_empty.specs.Shape.{setup_for}
use Rattle.vt_log.specs.Logs.{arena_count}
use Rattle.vt_model.specs.History.{History}
use Rattle.vt_model.specs.Places.{Setup, current_arena, fits, lengths_in}
use Rattle.vt_core.specs.declared.event.Event.{Event}
use Rattle.vt_core.specs.declared.event.Event.TheVariants.{Ask, Answer as AskAnswer}
use Rattle.vt_core.specs.Core.{CoreState, setup_of, stops_of}
use Rattle.vt_core.specs.Mounting.{KeepsLimits}
use Rattle.vt_core.specs.Sound.{IsSound}
use Rattle.vt_rehearse.specs.Shape.{the_shape}
use Rattle.vt_rehearse.specs.Words.{WORD_MOST, block_of_word}
use Rattle.vt_rehearse.specs.declared.TheConstants.{SESSIONS, SHARDS}
use Rattle.vt_rehearse.specs.declared.summary.Summary.{Summary}
use Rattle.vt_rehearse.specs.declared.words.TheConstants.{WORDS}

-- The store; the words that it accepted, in their order; and what was counted so far.
pub record StageState (D : Type 0) : Type 0 where
  pub core : CoreState D
  pub listed : List ℕ
  pub summary : Summary

-- disks in memory: they tell what they hold, and no call of one fails
pub record IsMemory {D : Type 0} (disk : DiskOf D) : Type 0 where
  pub tells : IsTrue disk.tells
  pub never : (device : D) → disk.faults device ≡ 0

-- A store that has accepted this history goes on, since no part of it has stopped. It can be
-- mounted again.
pub record IsSteady {D : Type 0} (score : List ℕ → List ℕ) (disk : DiskOf D) (k : CoreState D)
    (h : History) : Type 0 where
  pub sound : IsSound score disk k h
  pub partitions : length k.log.tables ≡ 1
  pub arenas : 0 < arena_count k.log.tables
  pub shards : length k.shards ≡ SHARDS
  pub stops : All (λ stop. stop ≡ None) (stops_of k)
  pub limits : KeepsLimits k.log.tables (setup_of k)

-- no session waits
abbrev pub none_waits : List (Option ℕ)
none_waits = replicate SESSIONS None

-- the blocks of a history are those of these words, each of which stands there once
pub record HasWords (h : History) (listed : List ℕ) : Type 0 where
  pub blocks : map (λ e. e.block) h ≡ map block_of_word listed
  pub words : All (λ w. w < WORDS) listed
  pub once : AllPairs (λ v w. v ≢ w) listed

-- The store has the arenas that a rehearsal's has, and each that was left for the next one has no
-- room for the longest word.
pub record IsFilled (c : Setup) (h : History) : Type 0 where
  pub arenas : c.arenas ≡ (setup_for the_shape).arenas
  pub versions : c.versions ≡ (setup_for the_shape).versions
  pub full : (arena : ℕ) → arena < current_arena c h
      → fits c arena (lengths_in arena h ++ WORD_MOST ∷ []) ≡ false

-- an event that is neither asked for by a session nor its answer
abbrev pub IsNoRequest : Event → Type 0
IsNoRequest (Ask session operation now) = ⊥
IsNoRequest (AskAnswer session) = ⊥
IsNoRequest event = ⊤

-- the list has what the store has
pub record AreAlike {D : Type 0} (score : List ℕ → List ℕ) (disk : DiskOf D) (s : StageState D)
    : Type 0 where
  pub history : History
  pub store : IsSteady score disk s.core history
  pub free : s.core.waiting ≡ none_waits
  pub list : HasWords history s.listed
  pub filled : IsFilled (setup_of s.core) history
