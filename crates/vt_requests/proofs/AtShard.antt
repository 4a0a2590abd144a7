-- A store at one of its shards, before and behind a piece of work.
use Rattle.std.proofs.Common.{◌≡◌, ◌≢◌, ◌⊎◌, ⊎_elim, inl, inr, ◌<◌, ◌≤◌, ℕ, List, [], ◌∷◌, length, Option, Some, None, sym, ◌∙◌, ap, subst, arith}
use Rattle.std.specs.Option.{option_map_or}
use Rattle.std.specs.Prelude.{IsSome, slice_get}
use Rattle.std.specs.List.{Contains}
use Rattle.std.proofs.lemmas.List.Elements.{Contains-get_or}
use Rattle.std.proofs.lemmas.Option.{same_Some}
use Rattle.vt_base.specs.declared.place.Info.{Info}
use Rattle.vt_disk.specs.Members.{DiskOf}
use Rattle.vt_isect.specs.Section.{SectionState}
use Rattle.vt_isect.specs.Writeback.{calls_left}
use Rattle.vt_isect.specs.declared.head.Head.{Head}
use Rattle.vt_log.specs.Log.{LogState, queued}
use Rattle.vt_shard.specs.Shard.{HasBelow, ShardState}
use Rattle.vt_shard.specs.Writeback.{HasWork}
use Rattle.vt_shard.specs.declared.TheConstants.{ROOM}
use Rattle.vt_core.specs.declared.event.Out.{Out}
use Rattle.vt_core.specs.declared.event.Out.TheVariants.{Said as SaidOut, Waits, NotYet, Moved, Nothing, Failed}
use Rattle.vt_core.specs.Core.{CoreState, history_len}
use Rattle.vt_core.specs.Work.{AdvancesLog, AdvancesWriteback, BeginsWriteback, ChangesShard}
use Rattle.vt_recover.proofs.Places.{get_set, get_other}
use Rattle.vt_requests.specs.Working.{HasFiled, HasNoWriteback, IsEnding, IsShardFiled, WentOn, left_with, work_left}
use Rattle.vt_requests.proofs.Filing.{Advanced, no_work_from, advanced, advance_less, begin_less, begin_fewer, log_less, shard_less}
use Rattle.vt_requests.proofs.Pieces.{log_moved, shard_idle}

-- a shard stands here
pub record Stands {D : Type 0} (shard : ℕ) (k : CoreState D) (s : ShardState D) : Type 0 where
  pub at : slice_get k.shards shard ≡ Some s

pub changed_at : {D : Type 0} (shard : ℕ) (old new : CoreState D) (P : (before after : ShardState D) → Type 0) → (it : ChangesShard shard old new P) → slice_get new.shards shard ≡ Some it.after
changed_at {D} shard old new P it = ap (λ (k : CoreState D). slice_get k.shards shard) it.same ∙ get_set old.shards shard it.after it.before it.at

pub same_log : {D : Type 0} (shard : ℕ) (old new : CoreState D) (P : (before after : ShardState D) → Type 0) → ChangesShard shard old new P → new.log ≡ old.log
same_log {D} shard old new P it = ap (λ (k : CoreState D). k.log) it.same

pub same_others : {D : Type 0} (shard : ℕ) (old new : CoreState D) (P : (before after : ShardState D) → Type 0) → ChangesShard shard old new P → (i : ℕ) → i ≢ shard
    → slice_get new.shards i ≡ slice_get old.shards i
same_others {D} shard old new P it i other = ap (λ (k : CoreState D). slice_get k.shards i) it.same ∙ get_other old.shards shard i it.after other

pub left_at : {D : Type 0} (shard : ℕ) (k : CoreState D) (s : ShardState D) → slice_get k.shards shard ≡ Some s → work_left shard k ≡ left_with k.log s
left_at {D} shard k s at = ap (λ (o : Option (ShardState D)). option_map_or (λ t. left_with k.log t) o 0) at

-- less is left behind a change of the shard that leaves less
module _ {D : Type 0} (shard : ℕ) (old new : CoreState D) (P : (before after : ShardState D) → Type 0) (it : ChangesShard shard old new P) where
  now_left : work_left shard new ≡ left_with old.log it.after
  now_left = left_at shard new it.after (changed_at shard old new P it) ∙ ap (λ (l : LogState D). left_with l it.after) (same_log shard old new P it)

  pub changes_less : left_with old.log it.after < left_with old.log it.before → work_left shard new < work_left shard old
  changes_less less = omega (arith, less, now_left, left_at shard old it.before it.at)

pub advances_less : {D : Type 0} (disk : DiskOf D) (shard : ℕ) (old new : CoreState D) → ChangesShard shard old new (AdvancesWriteback disk Moved) → work_left shard new < work_left shard old
advances_less disk shard old new it =
    let a = advanced disk it.before it.after it.changes in
    changes_less shard old new (AdvancesWriteback disk Moved) it (shard_less old.log it.before it.after a.fewer (advance_less old.log.durable it.before it.after a))

-- an idle shard stays as it is, and so does what is left
pub record Rests {D : Type 0} (shard : ℕ) (old new : CoreState D) (s : ShardState D) : Type 0 where
  pub was : slice_get old.shards shard ≡ Some s
  pub at : slice_get new.shards shard ≡ Some s
  pub log : new.log ≡ old.log
  pub left : work_left shard new ≡ work_left shard old

rests_by : {D : Type 0} (shard : ℕ) (old new : CoreState D) (P : (before after : ShardState D) → Type 0) → (it : ChangesShard shard old new P) → it.after ≡ it.before → Rests shard old new it.before
rests_by {D} shard old new P it same = record {
  was = it.at;
  at = changed_at shard old new P it ∙ ap Some same;
  log = same_log shard old new P it;
  left = now_left shard old new P it ∙ ap (λ (t : ShardState D). left_with old.log t) same ∙ sym (left_at shard old it.before it.at);
}

pub idle_rests : {D : Type 0} (disk : DiskOf D) (shard : ℕ) (old new : CoreState D) → (it : ChangesShard shard old new (AdvancesWriteback disk Nothing))
    → Rests shard old new it.before × (it.before.writeback ≡ None)
idle_rests disk shard old new it = let idle = shard_idle disk it.before it.after it.changes in (rests_by shard old new (AdvancesWriteback disk Nothing) it idle.1, idle.0)

pub unbegun_rests : {D : Type 0} (durable shard : ℕ) (old new : CoreState D) → (it : ChangesShard shard old new (BeginsWriteback durable Nothing))
    → Rests shard old new it.before × (IsSome it.before.writeback ⊎ ¬ HasWork durable it.before)
unbegun_rests durable shard old new it = (rests_by shard old new (BeginsWriteback durable Nothing) it it.changes.1, it.changes.0)

pub begins_less : {D : Type 0} (shard : ℕ) (old new : CoreState D) → ChangesShard shard old new (BeginsWriteback old.log.durable Moved) → work_left shard new < work_left shard old
begins_less shard old new it =
    changes_less shard old new (BeginsWriteback old.log.durable Moved) it
    (shard_less old.log it.before it.after (begin_fewer old.log.durable it.before it.after it.changes) (begin_less old.log.durable it.before it.after it.changes))

-- the log goes on where a shard has nothing to write back
pub logs_less : {D : Type 0} (disk : DiskOf D) (shard : ℕ) (old new : CoreState D) (s : ShardState D) → slice_get old.shards shard ≡ Some s → IsShardFiled old.log.durable s
    → AdvancesLog disk Moved old new → work_left shard new < work_left shard old
logs_less {D} disk shard old new s at filed it =
    let there : slice_get new.shards shard ≡ Some s = ap (λ (k : CoreState D). slice_get k.shards shard) it.same ∙ at in
    omega (arith, log_less old.log new.log s filed.0 filed.1 (log_moved disk old new it), left_at shard new s there, left_at shard old s at)

-- a shard that is full has something to write back where nothing is queued
pub full_has_work : {D : Type 0} (k : CoreState D) (s : ShardState D) → ROOM ≤ length s.index.dirty → ((info : Info) → Contains s.index.dirty info → info.number < history_len k)
    → queued k.log ≡ 0 → HasWork k.log.durable s
full_has_work k s full accepted none = at_first s.index.dirty full accepted
  where
    at_first : (dirty : List Info) → ROOM ≤ length dirty → ((info : Info) → Contains dirty info → info.number < history_len k)
        → ((info : Info) × Contains dirty info × (info.number < k.log.durable)) ⊎ (s.section.head.mark < k.log.durable)
    at_first [] full accepted = absurd (omega (arith, full))
    at_first (info ∷ dirty) full accepted =
        let has : Contains (info ∷ dirty) info = Contains-get_or (info ∷ dirty) 0 info (omega arith) in
        let low = accepted info has in
        inl (info, has, omega (arith, low, none))

-- ---- until no writeback is under way

calls_at : {D : Type 0} (shard : ℕ) (k : CoreState D) (s : ShardState D) → slice_get k.shards shard ≡ Some s
    → option_map_or (λ (t : ShardState D). calls_left t.section) (slice_get k.shards shard) 0 ≡ calls_left s.section
calls_at {D} shard k s at = ap (λ (o : Option (ShardState D)). option_map_or (λ t. calls_left t.section) o 0) at

pub advances_calls : {D : Type 0} (disk : DiskOf D) (shard : ℕ) (old new : CoreState D) → ChangesShard shard old new (AdvancesWriteback disk Moved)
    → option_map_or (λ (t : ShardState D). calls_left t.section) (slice_get new.shards shard) 0 < option_map_or (λ (t : ShardState D). calls_left t.section) (slice_get old.shards shard) 0
advances_calls disk shard old new it =
    let a = advanced disk it.before it.after it.changes in
    omega (arith, a.left, calls_at shard old it.before it.at, calls_at shard new it.after (changed_at shard old new (AdvancesWriteback disk Moved) it))

-- the state of a shard that is at its end once its writeback is
abbrev EndsOr : {D : Type 0} → (durable : ℕ) → ShardState D → Type 0
EndsOr durable s = IsShardFiled durable s ⊎ ((s.writeback ≡ Some durable) × (durable ≤ s.section.next.mark))

ends_on : {D : Type 0} (durable : ℕ) (before after : ShardState D) → Advanced before after → EndsOr durable before → EndsOr durable after
ends_on {D} durable before after a ends = ⊎_elim
    (λ filed. absurd (let no = sym filed.0 ∙ a.under in cc))
    (λ runs.
    let below : a.below ≡ durable = same_Some a.below durable (sym a.under ∙ runs.0) in
    ⊎_elim
    (λ more. inr (more.0 ∙ ap Some below, subst (λ (h : Head). durable ≤ h.mark) (sym more.1) runs.1))
    (λ done. inl (done.0, no_work_from durable after (subst (λ (n : ℕ). ¬ HasBelow n after.index.dirty) below done.1) (subst (λ (h : Head). durable ≤ h.mark) (sym done.2) runs.1)))
    a.ends)
    ends

same_durable : {D : Type 0} (shard : ℕ) (old new : CoreState D) (P : (before after : ShardState D) → Type 0) → ChangesShard shard old new P → new.log.durable ≡ old.log.durable
same_durable {D} shard old new P it = ap (λ (l : LogState D). l.durable) (same_log shard old new P it)

ends_before : {D : Type 0} (shard : ℕ) (k : CoreState D) (s : ShardState D) → slice_get k.shards shard ≡ Some s → (is : IsEnding shard k) → EndsOr k.log.durable s
ends_before {D} shard k s at is = subst (λ (t : ShardState D). EndsOr k.log.durable t) (same_Some is.state s (sym is.at ∙ at)) is.ends

pub ending_moves : {D : Type 0} (disk : DiskOf D) (shard : ℕ) (old new : CoreState D) → ChangesShard shard old new (AdvancesWriteback disk Moved) → IsEnding shard old → IsEnding shard new
ending_moves {D} disk shard old new it is = record {
  state = it.after;
  at = changed_at shard old new (AdvancesWriteback disk Moved) it;
  ends = subst (λ (n : ℕ). EndsOr n it.after) (sym (same_durable shard old new (AdvancesWriteback disk Moved) it))
      (ends_on old.log.durable it.before it.after (advanced disk it.before it.after it.changes) (ends_before shard old it.before it.at is));
}

filed_at_rest : {D : Type 0} (durable : ℕ) (s : ShardState D) → s.writeback ≡ None → EndsOr durable s → IsShardFiled durable s
filed_at_rest durable s none ends = ⊎_elim (λ filed. filed) (λ runs. absurd (let no = sym none ∙ runs.0 in cc)) ends

pub ending_idles : {D : Type 0} (disk : DiskOf D) (shard : ℕ) (old new : CoreState D) → ChangesShard shard old new (AdvancesWriteback disk Nothing) → IsEnding shard old → HasFiled shard new
ending_idles {D} disk shard old new it is =
    let idle = idle_rests disk shard old new it in
    record {
      state = it.before;
      at = idle.0.at;
      filed = subst (λ (n : ℕ). IsShardFiled n it.before) (sym (same_durable shard old new (AdvancesWriteback disk Nothing) it))
          (filed_at_rest old.log.durable it.before idle.1 (ends_before shard old it.before it.at is));
    }

-- behind the beginning of one of all durable blocks
pub begun_ends : {D : Type 0} (shard : ℕ) (old new : CoreState D) (out : Out) → HasNoWriteback shard old → ChangesShard shard old new (BeginsWriteback old.log.durable out) → IsEnding shard new
begun_ends {D} shard old new out rests it = record {
  state = it.after;
  at = changed_at shard old new (BeginsWriteback old.log.durable out) it;
  ends = subst (λ (n : ℕ). EndsOr n it.after) (sym (same_durable shard old new (BeginsWriteback old.log.durable out) it)) (by out it.changes);
}
  where
    none : it.before.writeback ≡ None
    none = subst (λ (t : ShardState D). t.writeback ≡ None) (same_Some rests.state it.before (sym rests.at ∙ it.at)) rests.none

    by : (o : Out) → BeginsWriteback old.log.durable o it.before it.after → EndsOr old.log.durable it.after
    by Moved b = inr (
      ap (λ (s : ShardState D). s.writeback) b.2.shard,
      omega (arith, ap (λ (t : SectionState D). t.next.mark) b.2.section),
    )
    by Nothing b = ⊎_elim
        (λ some. absurd (let no = subst IsSome none some in cc))
        (λ no. inl (subst (λ (t : ShardState D). IsShardFiled old.log.durable t) (sym b.1) (none, no))) b.0
    by (Failed why) b = absurd b
    by (SaidOut answer) b = absurd b
    by Waits b = absurd b
    by NotYet b = absurd b

-- a writeback begins, or there is nothing to do
pub begin_went_on : {D : Type 0} (shard : ℕ) (old new : CoreState D) (out : Out) → ChangesShard shard old new (BeginsWriteback old.log.durable out) → WentOn out
begin_went_on shard old new Moved it = tt
begin_went_on shard old new Nothing it = tt
begin_went_on shard old new (Failed why) it = it.changes
begin_went_on shard old new (SaidOut answer) it = it.changes
begin_went_on shard old new Waits it = it.changes
begin_went_on shard old new NotYet it = it.changes
