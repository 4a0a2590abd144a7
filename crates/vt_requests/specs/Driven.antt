-- A store on devices, as the store that a session asks.
use Rattle.std.specs.Prelude.{◌≡◌, ℕ, ◌+◌, Bool, IsTrue, Option, Result, List, [], ◌∷◌, ◌++◌, map}
use Rattle.std.specs.Option.{option_to_list}
use Rattle.vt_base.specs.Operations.{operation_of, result_of}
use Rattle.vt_base.specs.Protocol.{Operation, RMessage}
use Rattle.vt_base.specs.declared.answer.Answer.{Answer}
use Rattle.vt_base.specs.declared.operation.Operation.{Operation as Asked}
use Rattle.vt_base.specs.declared.why.Why.{Why}
use Rattle.vt_disk.specs.Members.{DiskOf}
use Rattle.vt_model.specs.History.{History}
use Rattle.vt_model.specs.Causes.{Part, log, section}
use Rattle.vt_handler.specs.Condition.{Condition}
use Rattle.vt_handler.specs.Serving.{asked_of_store}
use Rattle.vt_core.specs.Core.{CoreState, setup_of, each_of}
use Rattle.vt_core.specs.Sound.{IsSound}
use Rattle.vt_requests.specs.Answers.{DrivesRequest}

-- the store, and the time that the clumps get which the session adds
pub record DrivenState (D : Type 0) : Type 0 where
  pub core : CoreState D
  pub now : ℕ

-- which sections have stopped, each with the device call at which it did; the first one has this
-- number
abbrev pub section_stops : (first : ℕ) → List (Option ℕ) → List (Part × ℕ)
section_stops first [] = []
section_stops first (stop ∷ stops) =
    map (λ call. (section first, call)) (option_to_list stop) ++ section_stops (first + 1) stops

-- Which parts have stopped. No operation writes to the saved filter, so that isn't one: where it
-- can't be saved, the end tells it.
abbrev pub stops_in : {D : Type 0} → CoreState D → List (Part × ℕ)
stops_in k = map (λ call. (log, call)) (option_to_list k.log.stopped)
    ++ section_stops 0 (map (λ s. s.section.stopped) k.shards)

-- What a driven store tells of itself: nobody else adds blocks to it.
abbrev pub condition_of : {D : Type 0} → DiskOf D → DrivenState D → Condition
condition_of disk d = record {
  setup = setup_of d.core;
  alone = Bool.true;
  faults = each_of disk.faults d.core;
  stops = stops_in d.core;
  durable = d.core.log.durable;
}

-- The devices of the store tell what they hold, and are sound for this history.
abbrev pub HoldsOn : {D : Type 0} → (List ℕ → List ℕ) → DiskOf D → DrivenState D → History
    → Type 0
HoldsOn score disk d h = IsTrue disk.tells × IsSound score disk d.core h

-- An operation is one of the first session.
pub record DoesRequest {D : Type 0} (score : List ℕ → List ℕ) (disk : DiskOf D) (m : Operation)
    (result : Result RMessage Why) (old new : DrivenState D) : Type 0 where
  pub asked : Asked
  pub answer : Answer
  pub asks : operation_of asked ≡ asked_of_store m
  pub says : result_of answer.said ≡ result
  pub answers : DrivesRequest score disk 0 asked old.now answer old.core new.core
  pub time : new.now ≡ old.now
