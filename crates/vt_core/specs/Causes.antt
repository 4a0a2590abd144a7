-- Why an event's answer may come, and which device calls it makes, whatever the devices hold.
use Rattle.std.specs.Prelude.{◌≡◌, ◌≢◌, ⊤, ℕ, ◌+◌, ◌<◌, ◌≤◌, IsTrue, Some, List, length, sum_by, slice_get}
use Rattle.vt_base.specs.declared.answer.Said.{Said}
use Rattle.vt_base.specs.declared.answer.Said.TheVariants.{Refused}
use Rattle.vt_base.specs.declared.why.Why.{Why}
use Rattle.vt_base.specs.declared.why.Why.TheVariants.{DiskFault, Damaged}
use Rattle.vt_disk.specs.Calls.{MadeCalls}
use Rattle.vt_disk.specs.Members.{DiskOf}
use Rattle.vt_log.specs.Answers.{HoldTheSame}
use Rattle.vt_log.specs.Faults.{OneHasRisen}
use Rattle.vt_core.specs.declared.event.Event.{Event}
use Rattle.vt_core.specs.declared.event.Event.TheVariants.{Ask, Answer as AskAnswer, LogAdvance, FileBegin, FileAdvance, BloomAdvance, EvictLump, EvictIndex}
use Rattle.vt_core.specs.declared.event.Out.{Out}
use Rattle.vt_core.specs.declared.event.Out.TheVariants.{Said as SaidOut, Moved, Failed}
use Rattle.vt_core.specs.Core.{CoreState, stops_of}

-- ---- faults and damage

-- of all devices the count of one rose where a disk fault is told, and else none
abbrev pub CountsWhy : Why → (old new : List ℕ) → Type 0
CountsWhy DiskFault old new = OneHasRisen old new
CountsWhy why old new = new ≡ old

-- an answer tells a fault only where one device counted a failed call
abbrev pub CountsSaid : Said → (old new : List ℕ) → Type 0
CountsSaid (Refused why) old new = CountsWhy why old new
CountsSaid said old new = new ≡ old

-- what an event gives tells a fault only where one device counted a failed call
abbrev pub CountsOut : Out → (old new : List ℕ) → Type 0
CountsOut (SaidOut a) old new = CountsSaid a.said old new
CountsOut (Failed why) old new = CountsWhy why old new
CountsOut out old new = new ≡ old

-- The refusal tells of no damage.
abbrev pub IsUndamagedWhy : Why → Type 0
IsUndamagedWhy (Damaged site want found) = ⊥
IsUndamagedWhy why = ⊤

-- the answer tells of no damage
abbrev pub IsUndamagedSaid : Said → Type 0
IsUndamagedSaid (Refused why) = IsUndamagedWhy why
IsUndamagedSaid said = ⊤

-- what an event gives tells of no damage
abbrev pub IsUndamaged : Out → Type 0
IsUndamaged (SaidOut a) = IsUndamagedSaid a.said
IsUndamaged (Failed why) = IsUndamagedWhy why
IsUndamaged out = ⊤

-- ---- stops

-- a part that has stopped stays so, and one stops only where a disk fault is told
pub record KeepsStops {D : Type 0} (out : Out) (old new : CoreState D) : Type 0 where
  pub stay : (i call : ℕ) → slice_get (stops_of old) i ≡ Some (Some call)
      → slice_get (stops_of new) i ≡ Some (Some call)
  pub cause : out ≢ Failed DiskFault → stops_of new ≡ stops_of old

-- ---- device calls

-- one of these devices was called once, and every other is as it was
pub record CallsOne {D : Type 0} (disk : DiskOf D) (old new : List D) : Type 0 where
  pub many : length new ≡ length old
  pub which : ℕ
  pub within : which < length old
  pub one : (before after : D) → slice_get old which ≡ Some before
      → slice_get new which ≡ Some after → MadeCalls disk 1 before after
  pub others : (i : ℕ) → i ≢ which → slice_get new i ≡ slice_get old i

-- what the store's own work calls: one device where it moved on or was let down, and none where
-- there was nothing to do, or the part has stopped
abbrev pub CallsOnce : {D : Type 0} → DiskOf D → Out → (old new : List D) → Type 0
CallsOnce disk Moved old new = CallsOne disk old new
CallsOnce disk (Failed DiskFault) old new = CallsOne disk old new
CallsOnce disk (Failed (Damaged site want found)) old new = CallsOne disk old new
CallsOnce disk out old new = new ≡ old

-- a request reads at most twice for a bucket and twice for a block
abbrev pub READS_MOST : ℕ
READS_MOST = 4

-- these devices were read from, at most so many times
pub record OnlyReadFrom {D : Type 0} (disk : DiskOf D) (most : ℕ) (old new : List D) : Type 0
  where
    pub same : HoldTheSame disk old new
    pub calls : IsTrue disk.tells → sum_by disk.calls new ≤ sum_by disk.calls old + most

-- what an event calls: the log's, a shard's and the filter's work one device, a request the devices
-- that it reads, and any other event none
abbrev pub MakesCalls : {D : Type 0} → DiskOf D → Event → Out → (old new : List D) → Type 0
MakesCalls disk LogAdvance out old new = CallsOnce disk out old new
MakesCalls disk (FileAdvance shard) out old new = CallsOnce disk out old new
MakesCalls disk BloomAdvance out old new = CallsOnce disk out old new
MakesCalls disk (Ask session operation now) out old new = OnlyReadFrom disk READS_MOST old new
MakesCalls disk (AskAnswer session) out old new = new ≡ old
MakesCalls disk (FileBegin shard) out old new = new ≡ old
MakesCalls disk (EvictLump shard) out old new = new ≡ old
MakesCalls disk (EvictIndex shard) out old new = new ≡ old
