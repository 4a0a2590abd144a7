-- Which step of the machine an event is, by what it gives.
use Rattle.std.specs.Prelude.{◌≡◌, ◌≢◌, ◌⊎◌, ⊤, ℕ, ◌<◌, IsSome, List, length}
use Rattle.vt_base.specs.declared.answer.Said.{Said}
use Rattle.vt_base.specs.declared.answer.Said.TheVariants.{Synced, Refused}
use Rattle.vt_base.specs.declared.why.Why.TheVariants.{Stopped}
use Rattle.vt_base.specs.Operations.{operation_of, reply_saying}
use Rattle.vt_base.specs.Protocol.{Operation, sync}
use Rattle.vt_model.specs.Answer.{answer}
use Rattle.vt_model.specs.Causes.{MayFail, Cause, why_of}
use Rattle.vt_core.specs.declared.event.Event.{Event}
use Rattle.vt_core.specs.declared.event.Event.TheVariants.{Ask, Answer as AskAnswer, LogAdvance, FileBegin, FileAdvance, BloomAdvance, EvictLump, EvictIndex}
use Rattle.vt_core.specs.declared.event.Out.{Out}
use Rattle.vt_core.specs.declared.event.Out.TheVariants.{Said as SaidOut, Waits, NotYet, Moved, Nothing, Failed}
use Rattle.vt_core.specs.Machine.{Machine, Accepts, Answers, WaitsForNone, WaitsAt, AsksSync, Syncs, GivesUp, IsQuiet}

-- ---- events

-- an event for a store with so many sessions and shards
abbrev pub IsFor : (sessions shards : ℕ) → Event → Type 0
IsFor sessions shards (Ask session operation now) = session < sessions
IsFor sessions shards (AskAnswer session) = session < sessions
IsFor sessions shards LogAdvance = ⊤
IsFor sessions shards (FileBegin shard) = shard < shards
IsFor sessions shards (FileAdvance shard) = shard < shards
IsFor sessions shards BloomAdvance = ⊤
IsFor sessions shards (EvictLump shard) = shard < shards
IsFor sessions shards (EvictIndex shard) = shard < shards

-- ---- their steps

-- the model's answer is given, which adds a block or not
abbrev pub GivesAnswer : (List ℕ → List ℕ) → Operation → Said → (old new : Machine) → Type 0
GivesAnswer score m said old new =
    Accepts score m (reply_saying said) old new ⊎ Answers score m (reply_saying said) old new

-- the store fails, for a cause that the operation may meet, and adds nothing
abbrev pub FailsIn : (List ℕ → List ℕ) → Operation → Said → (old new : Machine) → Type 0
FailsIn score m said old new = (cause : Cause) × (said ≡ Refused (why_of cause))
    × MayFail score old.setup m cause × IsQuiet old new

-- A session asks. It is answered at once, but for a sync, for which it waits; or it is told to come
-- again before a block is added. One that waits already is told nothing.
abbrev pub IsAsked : (List ℕ → List ℕ) → (session : ℕ) → Operation → Out → (old new : Machine)
    → Type 0
IsAsked score session m (SaidOut a) old new =
    WaitsForNone old.waiting session × (a.at ≡ length old.history)
    × (((m ≢ sync) × GivesAnswer score m a.said old new) ⊎ FailsIn score m a.said old new)
IsAsked score session m Waits old new = (m ≡ sync) × AsksSync session old new
IsAsked score session m NotYet old new =
    WaitsForNone old.waiting session × IsSome (answer score old.setup old.history m).added
    × IsQuiet old new
IsAsked score session m Nothing old new =
    ((number : ℕ) × WaitsAt old.waiting session number) × IsQuiet old new
IsAsked score session m Moved old new = ⊥
IsAsked score session m (Failed why) old new = ⊥

-- what is said to a session whose sync waits: all below its number is synced, or the log has stopped
abbrev pub EndsWaiting : (session at : ℕ) → Said → (old new : Machine) → Type 0
EndsWaiting session at Synced old new = Syncs session at old new
EndsWaiting session at (Refused (Stopped call)) old new = GivesUp session at old new
EndsWaiting session at said old new = ⊥

-- a session asks for its answer
abbrev pub IsAwaited : (session : ℕ) → Out → (old new : Machine) → Type 0
IsAwaited session (SaidOut a) old new = EndsWaiting session a.at a.said old new
IsAwaited session NotYet old new =
    ((number : ℕ) × WaitsAt old.waiting session number) × IsQuiet old new
IsAwaited session Nothing old new = WaitsForNone old.waiting session × IsQuiet old new
IsAwaited session Waits old new = ⊥
IsAwaited session Moved old new = ⊥
IsAwaited session (Failed why) old new = ⊥

-- the store's own work changes nothing
abbrev pub IsWork : Out → (old new : Machine) → Type 0
IsWork Moved old new = IsQuiet old new
IsWork Nothing old new = IsQuiet old new
IsWork (Failed why) old new = IsQuiet old new
IsWork (SaidOut a) old new = ⊥
IsWork Waits old new = ⊥
IsWork NotYet old new = ⊥

-- the step of the machine that an event is
abbrev pub MakesStep : (List ℕ → List ℕ) → Event → Out → (old new : Machine) → Type 0
MakesStep score (Ask session operation now) out old new =
    IsAsked score session (operation_of operation) out old new
MakesStep score (AskAnswer session) out old new = IsAwaited session out old new
MakesStep score LogAdvance out old new = IsWork out old new
MakesStep score (FileBegin shard) out old new = IsWork out old new
MakesStep score (FileAdvance shard) out old new = IsWork out old new
MakesStep score BloomAdvance out old new = IsWork out old new
MakesStep score (EvictLump shard) out old new = IsWork out old new
MakesStep score (EvictIndex shard) out old new = IsWork out old new
