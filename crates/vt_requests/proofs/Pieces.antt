-- What each piece of a store's own work comes to, by what it gives.
use Rattle.std.proofs.Common.{◌≡◌, ◌⊎◌, ⊎_elim, ◌<◌, None, Ok, Err, Result, sym, subst}
use Rattle.std.specs.Prelude.{⊤, IsSome}
use Rattle.vt_base.specs.declared.answer.Answer.{Answer}
use Rattle.vt_disk.specs.Members.{DiskOf}
use Rattle.vt_isect.specs.declared.error.ShardErr.{ShardErr}
use Rattle.vt_log.specs.declared.error.LogErr.{LogErr}
use Rattle.vt_log.specs.declared.error.Progress.{Progress}
use Rattle.vt_log.specs.declared.error.Progress.TheVariants.{Idle, Step as LogStep, Durable}
use Rattle.vt_log.specs.Answers.{LogAdvances}
use Rattle.vt_log.specs.Log.{LogState, queued}
use Rattle.vt_log.specs.Owed.{owed}
use Rattle.vt_shard.specs.Shard.{ShardState}
use Rattle.vt_shard.specs.Writeback.{ShardTakesStep}
use Rattle.vt_twin.specs.declared.step.Step.{Step}
use Rattle.vt_core.specs.declared.event.Out.{Out}
use Rattle.vt_core.specs.declared.event.Out.TheVariants.{Said as SaidOut, Waits, NotYet, Moved, Nothing, Failed}
use Rattle.vt_core.specs.Core.{CoreState}
use Rattle.vt_core.specs.Work.{AdvancesLog, AdvancesWriteback, out_of_progress, out_of_writeback}

-- what the store's own work may give
abbrev pub IsWorkOut : Out → Type 0
IsWorkOut Moved = ⊤
IsWorkOut Nothing = ⊤
IsWorkOut (Failed why) = ⊤
IsWorkOut (SaidOut answer) = ⊥
IsWorkOut Waits = ⊥
IsWorkOut NotYet = ⊥

pub no_other : (out : Out) → IsWorkOut out → ((x : Answer) × (out ≡ SaidOut x)) ⊎ (out ≡ Waits) ⊎ (out ≡ NotYet) → ⊥
no_other out gives other = ⊎_elim
    (λ said. subst IsWorkOut said.1 gives)
    (λ rest. ⊎_elim (λ waits. subst IsWorkOut waits gives) (λ not_yet. subst IsWorkOut not_yet gives) rest)
    other

-- ---- the log

log_out : (answer : Result Progress LogErr) → IsWorkOut (out_of_progress answer)
log_out (Ok Idle) = tt
log_out (Ok LogStep) = tt
log_out (Ok (Durable blocks)) = tt
log_out (Err bad) = tt

pub log_gives : {D : Type 0} (disk : DiskOf D) (out : Out) (old new : CoreState D) → AdvancesLog disk out old new → IsWorkOut out
log_gives disk out old new it = subst IsWorkOut (sym it.out_is) (log_out it.answer)

moved_by : {D : Type 0} (answer : Result Progress LogErr) (old new : LogState D) → Moved ≡ out_of_progress answer → LogAdvances answer old new → owed new < owed old
moved_by (Ok Idle) old new is it = absurd (cc)
moved_by (Ok LogStep) old new is it = it.2
moved_by (Ok (Durable blocks)) old new is it = it.3
moved_by (Err bad) old new is it = absurd (cc)

pub log_moved : {D : Type 0} (disk : DiskOf D) (old new : CoreState D) → AdvancesLog disk Moved old new → owed new.log < owed old.log
log_moved disk old new it = moved_by it.answer old.log new.log it.out_is it.step.advances

idle_by : {D : Type 0} (answer : Result Progress LogErr) (old new : LogState D) → Nothing ≡ out_of_progress answer → LogAdvances answer old new → queued old ≡ 0
idle_by (Ok Idle) old new is it = it.0
idle_by (Ok LogStep) old new is it = absurd (cc)
idle_by (Ok (Durable blocks)) old new is it = absurd (cc)
idle_by (Err bad) old new is it = absurd (cc)

pub log_idle : {D : Type 0} (disk : DiskOf D) (old new : CoreState D) → AdvancesLog disk Nothing old new → queued old.log ≡ 0
log_idle disk old new it = idle_by it.answer old.log new.log it.out_is it.step.advances

-- ---- a shard

writeback_out : (answer : Result Step ShardErr) → IsWorkOut (out_of_writeback answer)
writeback_out (Ok step) = tt
writeback_out (Err bad) = tt

pub shard_gives : {D : Type 0} (disk : DiskOf D) (out : Out) (before after : ShardState D) → AdvancesWriteback disk out before after → IsWorkOut out
shard_gives disk out before after it = ⊎_elim
    (λ none. subst IsWorkOut (sym none.1) tt)
    (λ some. subst IsWorkOut (sym some.1.4) (writeback_out some.1.0)) it

-- where nothing was done none was under way
pub shard_idle : {D : Type 0} (disk : DiskOf D) (before after : ShardState D) → AdvancesWriteback disk Nothing before after → (before.writeback ≡ None) × (after ≡ before)
shard_idle disk before after it = ⊎_elim (λ none. (none.0, none.2)) (λ some. absurd (wrong some.1.0 some.1.4)) it
  where
    wrong : (answer : Result Step ShardErr) → Nothing ≡ out_of_writeback answer → ⊥
    wrong (Ok step) is = cc
    wrong (Err bad) is = cc

-- and where a call was made that went well, it was a step of the writeback under way
pub shard_moved : {D : Type 0} (disk : DiskOf D) (before after : ShardState D) → AdvancesWriteback disk Moved before after
    → IsSome before.writeback × ((step : Step) × ShardTakesStep (Ok step) before after)
shard_moved {D} disk before after it = ⊎_elim (λ none. absurd (let no = none.1 in cc)) (λ some. (some.0, by some.1.0 some.1.4 some.1.1)) it
  where
    by : (answer : Result Step ShardErr) → Moved ≡ out_of_writeback answer → ShardTakesStep answer before after → (step : Step) × ShardTakesStep (Ok step) before after
    by (Ok step) is takes = (step, takes)
    by (Err bad) is takes = absurd (cc)
