-- The work of a store that one who drives it does for it, a piece at a time.
use Rattle.std.specs.Prelude.{◌≡◌, ◌⊎◌, ⊤, ℕ, ◌+◌, ◌*◌, ◌<◌, ◌≤◌, nat_lt, Bool, ◌||◌, if◌then◌else◌, Option, None, Some, Result, MatchResult, List, [], ◌∷◌, length, slice_get}
use Rattle.std.specs.List.{list_any}
use Rattle.std.specs.Option.{option_map_or}
use Rattle.vt_base.specs.declared.why.Why.{Why}
use Rattle.vt_disk.specs.Members.{DiskOf}
use Rattle.vt_log.specs.declared.TheConstants.{QUEUE_MAX}
use Rattle.vt_isect.specs.Writeback.{calls_left}
use Rattle.vt_log.specs.Log.{LogState, queued}
use Rattle.vt_log.specs.Owed.{owed}
use Rattle.vt_shard.specs.Shard.{ShardState}
use Rattle.vt_shard.specs.Writeback.{HasWork}
use Rattle.vt_shard.specs.declared.TheConstants.{ROOM}
use Rattle.vt_core.specs.declared.event.Event.{Event}
use Rattle.vt_core.specs.declared.event.Event.TheVariants.{Ask, Answer as AskAnswer, LogAdvance, FileBegin, FileAdvance, BloomAdvance, EvictLump, EvictIndex}
use Rattle.vt_core.specs.declared.event.Out.{Out}
use Rattle.vt_core.specs.declared.event.Out.TheVariants.{Said as SaidOut, Waits, NotYet, Moved, Nothing, Failed}
use Rattle.vt_core.specs.Core.{CoreState}
use Rattle.vt_core.specs.Steps.{Steps}

-- ---- pieces of work

-- the store's own work that brings something to its devices
abbrev pub IsOwnWork : Event → Type 0
IsOwnWork LogAdvance = ⊤
IsOwnWork (FileBegin shard) = ⊤
IsOwnWork (FileAdvance shard) = ⊤
IsOwnWork BloomAdvance = ⊤
IsOwnWork (Ask session operation now) = ⊥
IsOwnWork (AskAnswer session) = ⊥
IsOwnWork (EvictLump shard) = ⊥
IsOwnWork (EvictIndex shard) = ⊥

-- The store went on, or there was nothing to do.
abbrev pub WentOn : Out → Type 0
WentOn Moved = ⊤
WentOn Nothing = ⊤
WentOn (SaidOut answer) = ⊥
WentOn Waits = ⊥
WentOn NotYet = ⊥
WentOn (Failed why) = ⊥

-- Pieces one after another, each of which was needed as the store stood then, and went on.
abbrev pub WorksInPieces : {D : Type 0} → (List ℕ → List ℕ) → DiskOf D
    → (Needs : Event → CoreState D → Type 0) → List Event → List Out → (old new : CoreState D)
    → Type 0
WorksInPieces score disk Needs [] [] old new = new ≡ old
WorksInPieces {D} score disk Needs (event ∷ events) (out ∷ outs) old new =
    (mid : CoreState D) × Needs event old × WentOn out × Steps score disk event out old mid
    × WorksInPieces score disk Needs events outs mid new
WorksInPieces score disk Needs [] (out ∷ outs) old new = ⊥
WorksInPieces score disk Needs (event ∷ events) [] old new = ⊥

-- a piece that was needed failed
pub record WorkFails {D : Type 0} (score : List ℕ → List ℕ) (disk : DiskOf D)
    (Needs : Event → CoreState D → Type 0) (why : Why) (old new : CoreState D) : Type 0 where
  pub event : Event
  pub needed : Needs event old
  pub steps : Steps score disk event (Failed why) old new

-- Pieces of work were done, each of which was needed. The last one failed, or none did.
pub record DoesWork {D T : Type 0} (score : List ℕ → List ℕ) (disk : DiskOf D)
    (Needs : Event → CoreState D → Type 0) (result : Result T Why) (old new : CoreState D)
    : Type 0 where
  pub events : List Event
  pub outs : List Out
  pub mid : CoreState D
  pub works : WorksInPieces score disk Needs events outs old mid
  pub ends : MatchResult result (λ _. new ≡ mid) (λ why. WorkFails score disk Needs why mid new)

-- ---- what is needed

-- the log is advanced until so many blocks are durable
abbrev pub NeedsDurable : {D : Type 0} → (number : ℕ) → Event → CoreState D → Type 0
NeedsDurable number event k = (event ≡ LogAdvance) × (k.log.durable < number)

-- a shard has no room for a further dirty entry
pub record HasNoSpare {D : Type 0} (shard : ℕ) (k : CoreState D) : Type 0 where
  pub state : ShardState D
  pub at : slice_get k.shards shard ≡ Some state
  pub full : ROOM ≤ length state.index.dirty

-- no entry of a durable block waits to be written back, and the mark says so
abbrev pub IsShardFiled : {D : Type 0} → (durable : ℕ) → ShardState D → Type 0
IsShardFiled durable s = (s.writeback ≡ None) × ¬ HasWork durable s

-- entries of a shard are written back
abbrev pub FilesEntries : {D : Type 0} → (shard : ℕ) → Event → CoreState D → Type 0
FilesEntries shard event k = (event ≡ FileBegin shard) ⊎ (event ≡ FileAdvance shard)

-- no writeback is under way in a shard
pub record HasNoWriteback {D : Type 0} (shard : ℕ) (k : CoreState D) : Type 0 where
  pub state : ShardState D
  pub at : slice_get k.shards shard ≡ Some state
  pub none : state.writeback ≡ None

-- once the writeback under way is at its end, there is nothing to write back in a shard
pub record IsEnding {D : Type 0} (shard : ℕ) (k : CoreState D) : Type 0 where
  pub state : ShardState D
  pub at : slice_get k.shards shard ≡ Some state
  pub ends : IsShardFiled k.log.durable state
      ⊎ ((state.writeback ≡ Some k.log.durable) × (k.log.durable ≤ state.section.next.mark))

-- there is nothing to write back in a shard
pub record HasFiled {D : Type 0} (shard : ℕ) (k : CoreState D) : Type 0 where
  pub state : ShardState D
  pub at : slice_get k.shards shard ≡ Some state
  pub filed : IsShardFiled k.log.durable state

-- Room is made for a block of this shard. Where the queue is full the log is advanced. Where the
-- shard has no spare its entries are written back or, where it has nothing to write back, the log
-- is advanced.
abbrev pub NeedsRoom : {D : Type 0} → (shard : ℕ) → Event → CoreState D → Type 0
NeedsRoom shard LogAdvance k =
    (QUEUE_MAX ≤ queued k.log) ⊎ (HasNoSpare shard k × HasFiled shard k)
NeedsRoom shard (FileBegin i) k = (i ≡ shard) × HasNoSpare shard k
NeedsRoom shard (FileAdvance i) k = (i ≡ shard) × HasNoSpare shard k
NeedsRoom shard BloomAdvance k = ⊥
NeedsRoom shard (Ask session operation now) k = ⊥
NeedsRoom shard (AskAnswer session) k = ⊥
NeedsRoom shard (EvictLump i) k = ⊥
NeedsRoom shard (EvictIndex i) k = ⊥

-- ---- how much is left to do

-- some dirty entry is that of a block below a number, or the mark is
abbrev pub has_work : {D : Type 0} → (below : ℕ) → ShardState D → Bool
has_work below s = list_any (λ info. nat_lt info.number below) s.index.dirty
    || nat_lt s.section.head.mark below

-- the device calls of a writeback of all dirty entries at most, and one step to begin it
abbrev pub most_left : {D : Type 0} → ShardState D → ℕ
most_left s = 6 * length s.index.dirty + 5

-- The steps that a shard takes at most until it has nothing to write back: those of the writeback
-- under way, and of another one where that leaves something.
abbrev pub left_in : {D : Type 0} → (durable : ℕ) → ShardState D → (writeback : Option ℕ) → ℕ
left_in durable s None = if has_work durable s then most_left s else 0
left_in durable s (Some below) = calls_left s.section
    + (if nat_lt below durable || nat_lt s.section.next.mark durable then most_left s else 0)

-- The steps that a shard takes at most until it has nothing to write back, and those that the log
-- takes until it has spare: one of the log may bring something to write back.
abbrev pub left_with : {D : Type 0} → LogState D → ShardState D → ℕ
left_with log s = owed log * (most_left s + 1) + left_in log.durable s s.writeback

-- a bound of how many events a shard's writeback takes from here on
abbrev pub work_left : {D : Type 0} → (shard : ℕ) → CoreState D → ℕ
work_left shard k = option_map_or (λ s. left_with k.log s) (slice_get k.shards shard) 0
