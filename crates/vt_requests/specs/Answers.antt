-- What the answer to a request that was driven to its end says, and what it leaves.
use Rattle.std.specs.Prelude.{◌≡◌, ◌≢◌, ◌⊎◌, ⊤, ℕ, ◌+◌, ◌≤◌, max, IsTrue, None, Some, Result, Ok, Err, List, length, slice_get}
use Rattle.vt_base.specs.declared.answer.Answer.{Answer}
use Rattle.vt_base.specs.declared.answer.Said.{Said}
use Rattle.vt_base.specs.declared.answer.Said.TheVariants.{Score, Block, Synced, Refused}
use Rattle.vt_base.specs.declared.why.Why.{Why}
use Rattle.vt_base.specs.declared.operation.Operation.{Operation as Asked}
use Rattle.vt_base.specs.declared.why.Why.TheVariants.{DiskFault}
use Rattle.vt_base.specs.Operations.{operation_of}
use Rattle.vt_base.specs.Protocol.{Operation, sync}
use Rattle.vt_disk.specs.Members.{DiskOf}
use Rattle.vt_model.specs.Answer.{answer}
use Rattle.vt_model.specs.History.{History}
use Rattle.vt_handler.specs.Serving.{Suits}
use Rattle.vt_core.specs.Asking.{MayBeTold}
use Rattle.vt_core.specs.Causes.{READS_MOST, CountsSaid, IsUndamagedSaid, OnlyReadFrom}
use Rattle.vt_core.specs.Core.{CoreState, devices_of, each_of, history_len, machine_of, setup_of, stops_of}
use Rattle.vt_core.specs.Events.{FailsIn, GivesAnswer}
use Rattle.vt_core.specs.Files.{all_of}
use Rattle.vt_core.specs.Machine.{Machine}
use Rattle.vt_core.specs.Sound.{IsSound}
use Rattle.vt_core.specs.Steps.{KeepsStore}
use Rattle.vt_requests.specs.Requests.{IsRequested}

-- ---- what stays

-- what a store was mounted with stays, and no block and no promise is lost; every session waits for
-- what it waited for
pub record KeepsAll {D : Type 0} (disk : DiskOf D) (old new : CoreState D) : Type 0 where
  pub store : KeepsStore disk old new
  pub waiting : new.waiting ≡ old.waiting

-- a part that has stopped stays so, and one stops only where a call failed
pub record KeepsStopped {D : Type 0} (failed : Type 0) (old new : CoreState D) : Type 0 where
  pub stay : (i call : ℕ) → slice_get (stops_of old) i ≡ Some (Some call)
      → slice_get (stops_of new) i ≡ Some (Some call)
  pub cause : ¬ failed → stops_of new ≡ stops_of old

-- ---- the answer

-- What a commit comes to for who asked for a sync.
abbrev pub done : Said → Result (Unit {0}) Why
done (Refused why) = Err why
done (Score given) = Ok tt
done (Block bytes) = Ok tt
done Synced = Ok tt

-- all that was accepted is synced
abbrev pub SyncsAll : Said → (old new : Machine) → Type 0
SyncsAll said old new = (said ≡ Synced)
    × (new ≡ record old { synced = max old.synced (length old.history) })

-- a read or a write is given the model's answer, a sync is done, or the store fails
abbrev pub IsServed : (List ℕ → List ℕ) → Operation → Said → (old new : Machine) → Type 0
IsServed score m said old new =
    ((m ≢ sync) × GivesAnswer score m said old new)
    ⊎ ((m ≡ sync) × SyncsAll said old new)
    ⊎ FailsIn score m said old new

-- A request was driven to its answer.
pub record DrivesRequest {D : Type 0} (score : List ℕ → List ℕ) (disk : DiskOf D) (session : ℕ)
    (operation : Asked) (now : ℕ) (a : Answer) (old new : CoreState D) : Type 0 where
  -- by which events, at every moment of which a crash leaves a prefix with all durable blocks
  pub requested : IsRequested score disk session operation now a old new
  -- it is about all blocks that were accepted before, and what it adds is one block at most
  pub at : a.at ≡ history_len old
  pub one_more : history_len new ≤ history_len old + 1
  pub suits : Suits score (operation_of operation) a.said
  pub keeps : KeepsAll disk old new
  pub stops : KeepsStopped (a.said ≡ Refused DiskFault) old new
  -- each failure has its cause, whatever the devices hold: a fault is told where a count rose, and
  -- only there
  pub counts : CountsSaid a.said (each_of disk.faults old) (each_of disk.faults new)
  pub cause : (why : Why) → a.said ≡ Refused why
      → MayBeTold score old (operation_of operation) why
  -- what was accepted before a sync is durable when that is answered
  pub covered : a.said ≡ Synced → history_len old ≤ new.log.durable
  -- on sound devices
  pub serves : (h : History) → IsTrue disk.tells → IsSound score disk old h → (next : History)
      × IsServed score (operation_of operation) a.said (machine_of old h)
      (machine_of new next) × IsSound score disk new next
  pub undamaged : (h : History) → IsTrue disk.tells → IsSound score disk old h
      → IsUndamagedSaid a.said
  -- there a request that adds no block only reads, but for a sync
  pub reads : (h : History) → IsTrue disk.tells → IsSound score disk old h
      → operation_of operation ≢ sync
      → (answer score (setup_of old) h (operation_of operation)).added ≡ None
      → OnlyReadFrom disk READS_MOST (all_of (devices_of old)) (all_of (devices_of new))
