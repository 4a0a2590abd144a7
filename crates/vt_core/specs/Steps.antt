-- All that is said of an event, and of events one after another.
use Rattle.std.specs.Prelude.{◌≡◌, ℕ, ◌+◌, ◌≤◌, IsTrue, List, [], ◌∷◌, length}
use Rattle.std.specs.Option.{option_map}
use Rattle.vt_disk.specs.Members.{DiskOf}
use Rattle.vt_model.specs.History.{History}
use Rattle.vt_core.specs.declared.event.Event.{Event}
use Rattle.vt_core.specs.declared.event.Event.TheVariants.{Ask, Answer as AskAnswer, LogAdvance, FileBegin, FileAdvance, BloomAdvance, EvictLump, EvictIndex}
use Rattle.vt_core.specs.declared.event.Out.{Out}
use Rattle.vt_core.specs.Asking.{AnswersRequest, AnswersSync}
use Rattle.vt_core.specs.Causes.{CountsOut, IsUndamaged, KeepsStops, MakesCalls}
use Rattle.vt_core.specs.Core.{CoreState, setup_of, machine_of, devices_of, each_of, history_len}
use Rattle.vt_base.specs.Operations.{operation_of}
use Rattle.vt_core.specs.Events.{MakesStep}
use Rattle.vt_core.specs.Files.{DeviceFiles, AreWithinCall, all_of}
use Rattle.vt_core.specs.Machine.{Machine}
use Rattle.vt_core.specs.Sound.{IsSound}
use Rattle.vt_core.specs.Stands.{StandForPrefix}
use Rattle.vt_core.specs.Work.{AdvancesLog, SavesFilter, ChangesShard, BeginsWriteback, AdvancesWriteback, DropsLump, DropsEntry}

-- ---- on sound devices

-- for each history for which they are sound it is a step of the machine, and they are sound for the
-- history after it
abbrev pub StepsSoundly : {D : Type 0} → (List ℕ → List ℕ) → DiskOf D → Event → Out
    → (old new : CoreState D) → Type 0
StepsSoundly score disk event out old new = (h : History) → IsSound score disk old h
    → (next : History) × MakesStep score event out (machine_of old h) (machine_of new next)
    × IsSound score disk new next

-- what a crash at any moment of it leaves of all devices, taken together, stands for a prefix that
-- has all durable blocks, and so all that are synced before it and after it
abbrev pub LeavesPrefix : {D : Type 0} → (List ℕ → List ℕ) → DiskOf D → (old new : CoreState D)
    → Type 0
LeavesPrefix score disk old new = (h : History) (files : DeviceFiles) → IsSound score disk old h
    → AreWithinCall disk (devices_of old) (devices_of new) files
    → StandForPrefix score (setup_of old) old.log.tables old.log.durable files h

-- ---- on any devices

-- what each event does to the store, and what it gives
abbrev pub DoesEvent : {D : Type 0} → (List ℕ → List ℕ) → DiskOf D → Event → Out
    → (old new : CoreState D) → Type 0
DoesEvent score disk (Ask session operation now) out old new =
    AnswersRequest score disk session (operation_of operation) now out old new
DoesEvent score disk (AskAnswer session) out old new = AnswersSync session out old new
DoesEvent score disk LogAdvance out old new = AdvancesLog disk out old new
DoesEvent score disk BloomAdvance out old new = SavesFilter out old new
DoesEvent score disk (FileBegin shard) out old new =
    ChangesShard shard old new (BeginsWriteback old.log.durable out)
DoesEvent score disk (FileAdvance shard) out old new =
    ChangesShard shard old new (AdvancesWriteback disk out)
DoesEvent score disk (EvictLump shard) out old new = ChangesShard shard old new (DropsLump out)
DoesEvent score disk (EvictIndex shard) out old new = ChangesShard shard old new (DropsEntry out)

-- what a store was mounted with stays, and no block and no promise is lost
pub record KeepsStore {D : Type 0} (disk : DiskOf D) (old new : CoreState D) : Type 0 where
  pub tables : new.log.tables ≡ old.log.tables
  pub layout : new.log.layout ≡ old.log.layout
  pub setup : setup_of new ≡ setup_of old
  pub shards : length new.shards ≡ length old.shards
  pub filter : option_map (λ b. b.m) new.bloom ≡ option_map (λ b. b.m) old.bloom
  pub counts : (new.bits.m ≡ old.bits.m) × (new.bits.k ≡ old.bits.k)
  pub sizes : each_of disk.size new ≡ each_of disk.size old
  pub sessions : length new.waiting ≡ length old.waiting
  pub len : history_len old ≤ history_len new
  pub durable : old.log.durable ≤ new.log.durable
  pub synced : old.synced ≤ new.synced

-- What a store was mounted with stays, no block and no promise is lost, an event accepts one block
-- at most, and only blocks that were durable before it become synced.
pub record StoreGoesOn {D : Type 0} (disk : DiskOf D) (old new : CoreState D) : Type 0 where
  pub store : KeepsStore disk old new
  pub one_more : history_len new ≤ history_len old + 1
  pub synced_before : new.synced ≤ old.log.durable

-- what is promised of an event: it is one of the machine, a crash in it leaves a prefix, and what
-- it tells is true
pub record Steps {D : Type 0} (score : List ℕ → List ℕ) (disk : DiskOf D) (event : Event)
    (out : Out) (old new : CoreState D) : Type 0 where
  pub machine : IsTrue disk.tells → StepsSoundly score disk event out old new
  pub crash : IsTrue disk.tells → LeavesPrefix score disk old new
  pub undamaged : (h : History) → IsTrue disk.tells → IsSound score disk old h
      → IsUndamaged out
  pub does : DoesEvent score disk event out old new
  pub calls : MakesCalls disk event out (all_of (devices_of old)) (all_of (devices_of new))
  pub counts : CountsOut out (each_of disk.faults old) (each_of disk.faults new)
  pub stops : KeepsStops out old new
  pub goes_on : StoreGoesOn disk old new

-- ---- one after another

-- a run of events, from one state of the store to another
abbrev pub Runs : {D : Type 0} → (List ℕ → List ℕ) → DiskOf D → List Event → List Out
    → (old new : CoreState D) → Type 0
Runs score disk [] [] old new = new ≡ old
Runs {D} score disk (event ∷ events) (out ∷ outs) old new =
    (mid : CoreState D) × Steps score disk event out old mid
    × Runs score disk events outs mid new
Runs score disk [] (out ∷ outs) old new = ⊥
Runs score disk (event ∷ events) [] old new = ⊥

-- A run of the machine, from one of its states to another.
abbrev pub RunsMachine : (List ℕ → List ℕ) → List Event → List Out → (old new : Machine) → Type 0
RunsMachine score [] [] old new = new ≡ old
RunsMachine score (event ∷ events) (out ∷ outs) old new =
    (mid : Machine) × MakesStep score event out old mid × RunsMachine score events outs mid new
RunsMachine score [] (out ∷ outs) old new = ⊥
RunsMachine score (event ∷ events) [] old new = ⊥
