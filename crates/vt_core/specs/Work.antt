-- What the store's own work does, whatever its devices hold: the device calls of the log, of a shard
-- and of the saved filter, and what is dropped from memory.
use Rattle.std.specs.Prelude.{◌≡◌, ◌≢◌, ◌⊎◌, ◌↔◌, ℕ, ◌-◌, ◌<◌, ◌≤◌, IfOk, IsSome, max, Option, Some, None, Result, Ok, Err, length, take, slice_get, slice_set}
use Rattle.vt_base.specs.declared.why.Why.{Why}
use Rattle.vt_base.specs.declared.why.Why.TheVariants.{DiskFault, Stopped}
use Rattle.vt_disk.specs.Members.{DiskOf}
use Rattle.vt_twin.specs.declared.step.Step.{Step}
use Rattle.vt_twin.specs.declared.step.Step.TheVariants.{Done}
use Rattle.vt_disk.specs.declared.call.CallError.{CallError}
use Rattle.vt_disk.specs.declared.call.CallError.TheVariants as call_error
use Rattle.vt_twin.specs.Twin.{twin_calls_made}
use Rattle.vt_log.specs.Committing.{LogTakesStep}
use Rattle.vt_log.specs.declared.error.Progress.{Progress}
use Rattle.vt_log.specs.declared.error.Progress.TheVariants.{Idle, Step as LogStep, Durable}
use Rattle.vt_log.specs.declared.error.LogErr.{LogErr}
use Rattle.vt_log.specs.declared.error.LogErr.TheVariants as log_err
use Rattle.vt_isect.specs.declared.error.ShardErr.{ShardErr}
use Rattle.vt_lumps.specs.Lumps.{without_last}
use Rattle.vt_shard.specs.Shard.{ShardState}
use Rattle.vt_shard.specs.Writeback.{BeginsShardWriteback, HasWork, ShardTakesStep, ReadsFrame, ShardMakesCall}
use Rattle.vt_bloom.specs.Bits.{Filter}
use Rattle.vt_bloom.specs.Bloom.{BloomState, with_save, BloomAdvances}
use Rattle.vt_core.specs.declared.event.Out.{Out}
use Rattle.vt_core.specs.declared.event.Out.TheVariants.{Moved, Nothing, Failed}
use Rattle.vt_core.specs.Core.{CoreState}
use Rattle.vt_lookup.specs.Finding.{why_of_shard}

-- ---- the log

-- a log's failure, as the reason of a refusal
abbrev pub why_of_log : LogErr → Why
why_of_log log_err.Fault = DiskFault
why_of_log (log_err.Stopped call) = Stopped call

-- what an event gives where the log made a step
abbrev pub out_of_progress : Result Progress LogErr → Out
out_of_progress (Ok Idle) = Nothing
out_of_progress (Ok LogStep) = Moved
out_of_progress (Ok (Durable blocks)) = Moved
out_of_progress (Err bad) = Failed (why_of_log bad)

-- the log makes its next device call
pub record AdvancesLog {D : Type 0} (disk : DiskOf D) (out : Out) (old new : CoreState D) : Type 0
  where
    pub answer : Result Progress LogErr
    pub step : LogTakesStep disk answer old.log new.log
    pub out_is : out ≡ out_of_progress answer
    pub same : new ≡ record old { log = new.log }

-- ---- the saved filter

-- what an event gives where the filter's save made a step
abbrev pub out_of_save : Result Step CallError → Out
out_of_save (Ok step) = Moved
out_of_save (Err call_error.Fault) = Failed DiskFault
out_of_save (Err (call_error.Stopped call)) = Failed (Stopped call)

-- the filter as a call finds it: where no save is under way, one of all durable blocks begins
abbrev pub IsSaveBegun : {D : Type 0} → (bits : Filter) → (durable : ℕ) → (old begun : BloomState D)
    → Type 0
IsSaveBegun bits durable old begun =
    (IsSome old.twin.change × (begun ≡ old))
    ⊎ ((old.twin.change ≡ None) × (old.mark ≢ durable)
    × (begun ≡ with_save (record { filter = bits; mark = durable }) old))

-- no save is under way, and none is due
abbrev pub IsSaved : {D : Type 0} → (durable : ℕ) → BloomState D → Type 0
IsSaved durable b = (b.twin.change ≡ None) × (b.mark ≡ durable)

-- a save makes its next device call, of which the fourth is the last
pub record Saves {D : Type 0} (bits : Filter) (durable : ℕ) (out : Out) (old new : BloomState D)
    : Type 0 where
  pub begun : BloomState D
  pub answer : Result Step CallError
  pub begins : IsSaveBegun bits durable old begun
  pub made : twin_calls_made begun.twin ≤ 3
  pub advances : BloomAdvances answer begun new
  pub done : IfOk answer (λ step. (step ≡ Done) ↔ (twin_calls_made begun.twin ≡ 3))
  pub stopped : (call : ℕ)
      → (answer ≡ Err (call_error.Stopped call)) ↔ (begun.calls.stopped ≡ Some call)
  pub out_is : out ≡ out_of_save answer

-- the filter is saved as far as the log is durable, or one call of its save was made
abbrev pub SavesOne : {D : Type 0} → (bits : Filter) → (durable : ℕ) → Out
    → (old new : BloomState D) → Type 0
SavesOne bits durable out old new =
    (IsSaved durable old × (out ≡ Nothing) × (new ≡ old)) ⊎ Saves bits durable out old new

-- The filter, if there is a device for it, is saved as far as the log is durable, or one call of
-- its save was made.
abbrev pub SavesIn : {D : Type 0} → (bits : Filter) → (durable : ℕ) → Out
    → (old new : Option (BloomState D)) → Type 0
SavesIn bits durable out None new = (out ≡ Nothing) × (new ≡ None)
SavesIn {D} bits durable out (Some before) new =
    (after : BloomState D) × (new ≡ Some after) × SavesOne bits durable out before after

-- an event of saving touches the filter, and nothing else
pub record SavesFilter {D : Type 0} (out : Out) (old new : CoreState D) : Type 0 where
  pub saves : SavesIn old.bits old.log.durable out old.bloom new.bloom
  pub same : new ≡ record old { bloom = new.bloom }

-- ---- a shard

-- one shard changes, and nothing else
pub record ChangesShard {D : Type 0} (shard : ℕ) (old new : CoreState D)
    (Changes : (before after : ShardState D) → Type 0) : Type 0 where
  pub before : ShardState D
  pub after : ShardState D
  pub at : slice_get old.shards shard ≡ Some before
  pub changes : Changes before after
  pub same : new ≡ record old { shards = slice_set old.shards shard after }

-- a writeback of all durable blocks begins where none is under way and there is something to do
abbrev pub BeginsWriteback : {D : Type 0} → (durable : ℕ) → Out → (before after : ShardState D)
    → Type 0
BeginsWriteback durable Moved before after =
    (before.writeback ≡ None) × HasWork durable before
    × BeginsShardWriteback durable (max before.section.head.mark durable) before after
BeginsWriteback durable Nothing before after =
    (IsSome before.writeback ⊎ ¬ HasWork durable before) × (after ≡ before)
BeginsWriteback durable out before after = ⊥

-- what an event gives where a shard's writeback made a step
abbrev pub out_of_writeback : Result Step ShardErr → Out
out_of_writeback (Ok step) = Moved
out_of_writeback (Err bad) = Failed (why_of_shard bad)

-- the writeback under way makes its next device call; where none is, nothing happens
abbrev pub AdvancesWriteback : {D : Type 0} → DiskOf D → Out → (before after : ShardState D)
    → Type 0
AdvancesWriteback disk out before after =
    ((before.writeback ≡ None) × (out ≡ Nothing) × (after ≡ before))
    ⊎ (IsSome before.writeback
    × ((answer : Result Step ShardErr) × ShardTakesStep answer before after
    × ReadsFrame disk answer before after × ShardMakesCall disk answer before after
    × (out ≡ out_of_writeback answer)))

-- ---- what is dropped from memory

-- Moved where there is some, and Nothing where there is none
abbrev pub IsMovedWhere : (count : ℕ) → Out → Type 0
IsMovedWhere count Moved = 0 < count
IsMovedWhere count Nothing = count ≡ 0
IsMovedWhere count out = ⊥

-- the block that was used least recently
abbrev pub DropsLump : {D : Type 0} → Out → (before after : ShardState D) → Type 0
DropsLump out before after = IsMovedWhere (length before.lumps.entries) out
    × (after ≡ record before { lumps = without_last before.lumps })

-- The index entry was dropped that was used least recently, of those that were written back, and
-- never a dirty one.
abbrev pub DropsEntry : {D : Type 0} → Out → (before after : ShardState D) → Type 0
DropsEntry out before after = IsMovedWhere (length before.index.clean) out
    × (after ≡ record before {
      index = record before.index {
        clean = take (length before.index.clean - 1) before.index.clean;
      };
    })
