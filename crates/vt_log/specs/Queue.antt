-- Blocks that are accepted and not yet committed.
use Rattle.std.specs.Prelude.{◌≡◌, ◌≢◌, ℕ, ◌<◌, Option, Some, None, List, [], ◌∷◌, ◌++◌, slice_get}
use Rattle.vt_base.specs.declared.place.Place.{Place}
use Rattle.vt_clump.specs.declared.packed.Packed.{Packed}
use Rattle.vt_clump.specs.Clumps.{stored_of}
use Rattle.vt_model.specs.History.{Accepted}
use Rattle.vt_model.specs.Places.{Spot}
use Rattle.vt_log.specs.declared.queue.Waiting.{Waiting}
use Rattle.vt_log.specs.Logs.{accepted_in}

-- the blocks that aren't staged yet, and the places of all queued ones, staged ones first
pub record QueueState : Type 0 where
  pub waiting : List Waiting
  pub places : List Place

-- no block is accepted that isn't committed
abbrev pub no_queue : QueueState
no_queue = record { waiting = []; places = [] }

-- with one more block
abbrev pub with_waiting_block : Waiting → Place → QueueState → QueueState
with_waiting_block w place q = record {
  waiting = q.waiting ++ w ∷ [];
  places = q.places ++ place ∷ [];
}

-- a block waits, and the first that does goes to this arena
abbrev pub WaitsFor : (arena : ℕ) → List Waiting → Type 0
WaitsFor arena [] = ⊥
WaitsFor arena (w ∷ rest) = w.arena ≡ arena

-- the arena of the first of them
abbrev pub IsArenaOfFirst : List Waiting → Option ℕ → Type 0
IsArenaOfFirst waiting (Some arena) = WaitsFor arena waiting
IsArenaOfFirst waiting None = waiting ≡ []

-- the first of them goes to this arena, and this is left; or there is none, or it goes to another
abbrev pub TakesFor : (arena : ℕ) → (old new : QueueState) → Option Packed → Type 0
TakesFor arena old new (Some packed) =
    (old.waiting ≡ record { arena = arena; packed = packed } ∷ new.waiting)
    × (new.places ≡ old.places)
TakesFor arena old new None = (new ≡ old) × ¬ WaitsFor arena old.waiting

-- a block, as the history has it
abbrev pub waiting_block : Waiting → Accepted
waiting_block w = accepted_in w.arena (stored_of w.packed)

-- the place, as the model has it
abbrev pub spot_of : Place → Spot
spot_of place = record { arena = place.arena; offset = place.offset }

-- The place is the one with this number in the list, and not an earlier one.
pub record IsFirstAt (places : List Place) (place : Place) (index : ℕ) : Type 0 where
  pub at : slice_get places index ≡ Some place
  pub first : (i : ℕ) → i < index → slice_get places i ≢ Some place

-- The place is none of the list.
abbrev pub IsNowhere : List Place → Place → Type 0
IsNowhere places place = (i : ℕ) → slice_get places i ≢ Some place
