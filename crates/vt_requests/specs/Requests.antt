-- How a store that takes one event at a time answers a request: by the event of that request, and
-- behind it, where it is told to come again or to wait, by the store's own work and an event more.
use Rattle.std.specs.Prelude.{◌≡◌, ◌⊎◌, ℕ, Result, MatchResult, List}
use Rattle.vt_base.specs.declared.answer.Answer.{Answer}
use Rattle.vt_base.specs.declared.answer.Said.TheVariants.{Refused}
use Rattle.vt_base.specs.declared.operation.Operation.{Operation as Asked}
use Rattle.vt_base.specs.declared.why.Why.{Why}
use Rattle.vt_base.specs.Operations.{operation_of}
use Rattle.vt_base.specs.Protocol.{write}
use Rattle.vt_disk.specs.Members.{DiskOf}
use Rattle.vt_core.specs.declared.event.Event.{Event}
use Rattle.vt_core.specs.declared.event.Event.TheVariants.{Ask, Answer as AskAnswer}
use Rattle.vt_core.specs.declared.event.Out.TheVariants.{Said as SaidOut, Waits, NotYet}
use Rattle.vt_core.specs.Asking.{shard_of}
use Rattle.vt_core.specs.Core.{CoreState, history_len}
use Rattle.vt_core.specs.Steps.{Steps}
use Rattle.vt_requests.specs.Working.{DoesWork, IsOwnWork, NeedsDurable, NeedsRoom}

-- the store's work failed, and that is answered
abbrev pub refused : Why → (at : ℕ) → Answer
refused why at = record { said = Refused why; at = at }

-- Room was made for a block that found none, and it was written again; or that failed, and it isn't
-- added.
pub record WritesAgain {D : Type 0} (score : List ℕ → List ℕ) (disk : DiskOf D) (session : ℕ)
    (operation : Asked) (now : ℕ) (answer : Answer) (old new : CoreState D) : Type 0 where
  pub kind : ℕ
  pub bytes : List ℕ
  pub is_write : operation_of operation ≡ write kind bytes
  pub made : Result (Unit {0}) Why
  pub room : CoreState D
  pub works : DoesWork score disk (NeedsRoom (shard_of old (score bytes))) made old room
  pub ends : MatchResult made
      (λ _. Steps score disk (Ask session operation now) (SaidOut answer) room new)
      (λ why. (answer ≡ refused why (history_len old)) × (new ≡ room))

-- The log was advanced until all that was accepted is durable, or that failed. A sync that waits
-- for it got its answer, and waits no more.
pub record EndsWait {D : Type 0} (score : List ℕ → List ℕ) (disk : DiskOf D) (session : ℕ)
    (answer : Answer) (old new : CoreState D) : Type 0 where
  pub made : Result (Unit {0}) Why
  pub committed : CoreState D
  pub works : DoesWork score disk (NeedsDurable (history_len old)) made old committed
  pub said : Answer
  pub ends : Steps score disk (AskAnswer session) (SaidOut said) committed new
  pub answer_is : MatchResult made (λ _. answer ≡ said) (λ why. answer ≡ refused why said.at)

-- A block is told to come again, and a sync to wait.
pub record IsPutOff {D : Type 0} (score : List ℕ → List ℕ) (disk : DiskOf D) (session : ℕ)
    (operation : Asked) (now : ℕ) (answer : Answer) (old new : CoreState D) : Type 0 where
  pub mid : CoreState D
  pub later : (Steps score disk (Ask session operation now) NotYet old mid
      × WritesAgain score disk session operation now answer mid new)
      ⊎ (Steps score disk (Ask session operation now) Waits old mid
      × EndsWait score disk session answer mid new)

-- A request of a session was answered: at once, or by way of work that the store did for it.
abbrev pub IsRequested : {D : Type 0} → (List ℕ → List ℕ) → DiskOf D → (session : ℕ) → Asked
    → (now : ℕ) → Answer → (old new : CoreState D) → Type 0
IsRequested score disk session operation now answer old new =
    Steps score disk (Ask session operation now) (SaidOut answer) old new
    ⊎ IsPutOff score disk session operation now answer old new

-- Which events that takes: it is asked, by its session and with its time, a sync's answer is asked
-- for, and all else is the store's own work.
abbrev pub IsForRequest : (session : ℕ) → Asked → (now : ℕ) → Event → Type 0
IsForRequest session operation now (Ask by asked time) =
    (by ≡ session) × (asked ≡ operation) × (time ≡ now)
IsForRequest session operation now (AskAnswer by) = by ≡ session
IsForRequest session operation now event = IsOwnWork event
