-- A store on devices, as what is done with it asks it.
use Rattle.std.specs.Prelude.{ℕ, ⊤, List, Result}
use Rattle.vt_base.specs.declared.why.Why.{Why}
use Rattle.vt_base.specs.Protocol.{Operation, ping, read, write, sync, RMessage}
use Rattle.vt_disk.specs.Members.{DiskOf}
pub use Rattle.vt_handler.specs.declared.store.Store.{Ghosts as StoreOf}
use Rattle.vt_core.specs.Core.{CoreState}
use Rattle.vt_core.specs.Steps.{Runs}
use Rattle.vt_core.specs.declared.event.Event.{Event}
use Rattle.vt_core.specs.declared.event.Out.{Out}
use Rattle.vt_requests.specs.Driven.{DrivenState, DoesRequest, HoldsOn, condition_of}

-- an operation, and its answer
abbrev pub Exchange : Type 0
Exchange = Operation × Result RMessage Why

-- The operation asks for a block.
abbrev IsReading : Operation → Type 0
IsReading ping = ⊥
IsReading (read score kind count) = ⊤
IsReading (write kind bytes) = ⊥
IsReading sync = ⊥

-- The exchange adds nothing, and has nothing made durable.
abbrev pub AddsNothing : Exchange → Type 0
AddsNothing exchange = IsReading exchange.0

-- a store on devices, as its first session asks it
abbrev pub store_on : {D : Type 0} → (List ℕ → List ℕ) → DiskOf D → StoreOf (DrivenState D)
store_on {D} score disk = record {
  score_of = score;
  condition = λ (d : DrivenState D). condition_of disk d;
  holds = λ (d : DrivenState D) h. HoldsOn score disk d h;
  does = λ (d : DrivenState D) m answer d'. DoesRequest score disk m answer d d';
}

-- the store, and the time that the clumps get which are added
abbrev pub at_time : {D : Type 0} → (now : ℕ) → CoreState D → DrivenState D
at_time now k = record { core = k; now = now }

-- The store made a run of events: at each moment of it a crash leaves a prefix of what was
-- accepted, with every durable block.
abbrev pub MakesRun : {D : Type 0} → (List ℕ → List ℕ) → DiskOf D → (old new : CoreState D)
    → Type 0
MakesRun score disk old new =
    (events : List Event) × (outs : List Out) × Runs score disk events outs old new
