-- The write-once store as a machine (Quinlan and Dorward 2002; venti(6)): one list of blocks, to
-- which blocks are only added, of which a crash may cut off what no sync covers.
use Rattle.std.specs.Prelude.{◌≡◌, ℕ, ◌≤◌, [], ◌∷◌, ◌++◌, max, Option, Some, None, List, length, take, slice_get, slice_set}
use Rattle.std.specs.List.{All}
use Rattle.vt_base.specs.Protocol.{Operation, RMessage}
use Rattle.vt_model.specs.History.{History, Accepted}
use Rattle.vt_model.specs.Places.{Setup, current_arena}
use Rattle.vt_model.specs.Answer.{answer}

-- What it was opened with; what it has accepted; how many of these blocks were synced; and for each
-- session the number at which its sync waits, if one does.
pub record Machine : Type 0 where
  pub setup : Setup
  pub history : History
  pub synced : ℕ
  pub waiting : List (Option ℕ)

-- ---- its steps

-- a block that the model adds goes to the end
pub record Accepts (score : List ℕ → List ℕ) (m : Operation) (reply : RMessage) (old new : Machine)
    : Type 0 where
  pub block : Accepted
  pub answer_is : answer score old.setup old.history m ≡ record { reply = reply; added = Some block }
  pub new_is : new ≡ record old { history = old.history ++ block ∷ [] }

-- nothing is added
pub record Answers (score : List ℕ → List ℕ) (m : Operation) (reply : RMessage) (old new : Machine)
    : Type 0 where
  pub answer_is : answer score old.setup old.history m ≡ record { reply = reply; added = None }
  pub same : new ≡ old

-- a session waits for nothing, or for a sync with this number
abbrev pub WaitsForNone : (waiting : List (Option ℕ)) → (session : ℕ) → Type 0
WaitsForNone waiting session = slice_get waiting session ≡ Some None

-- the session's sync waits for so many blocks
abbrev pub WaitsAt : (waiting : List (Option ℕ)) → (session number : ℕ) → Type 0
WaitsAt waiting session number = slice_get waiting session ≡ Some (Some number)

-- the machine where this session waits for so many blocks, or for nothing
abbrev pub with_waiting : (session : ℕ) → Option ℕ → Machine → Machine
with_waiting session number m = record m { waiting = slice_set m.waiting session number }

-- a sync waits for all that was accepted so far
pub record AsksSync (session : ℕ) (old new : Machine) : Type 0 where
  pub free : WaitsForNone old.waiting session
  pub new_is : new ≡ with_waiting session (Some (length old.history)) old

-- the blocks below the number that it waits for are synced
pub record Syncs (session number : ℕ) (old new : Machine) : Type 0 where
  pub waits : WaitsAt old.waiting session number
  pub new_is : new ≡ with_waiting session None (record old { synced = max old.synced number })

-- The session waits no more.
pub record GivesUp (session number : ℕ) (old new : Machine) : Type 0 where
  pub waits : WaitsAt old.waiting session number
  pub new_is : new ≡ with_waiting session None old

-- nothing changes
abbrev pub IsQuiet : (old new : Machine) → Type 0
IsQuiet old new = new ≡ old

-- The first n blocks are left, with all that were synced, and a base from the arena that was filled
-- last with these to the one that was being filled. Nobody waits, and what is left is synced.
pub record Crashes (old new : Machine) : Type 0 where
  pub n : ℕ
  pub keeps : old.synced ≤ n
  pub within : n ≤ length old.history
  pub history : new.history ≡ take n old.history
  pub base_least : current_arena old.setup (take n old.history) ≤ new.setup.base
  pub base_most : new.setup.base ≤ current_arena old.setup old.history
  pub setup : new.setup ≡ record old.setup { base = new.setup.base }
  pub synced : new.synced ≡ n
  pub waiting : All (λ number. number ≡ None) new.waiting
