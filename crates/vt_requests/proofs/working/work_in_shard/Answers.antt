use Rattle.std.proofs.Common.{◌≡◌, ◌⊎◌, ⊎_elim, ◌<◌, ◌≤◌, ℕ, List, Ok, Err, None, length, refl, sym, ◌∙◌, ap, subst, inr, arith}
use Rattle.std.proofs.lemmas.Option.{same_Some, slice_get_within}
use Rattle.std.specs.Prelude.{IsSome}
use Rattle.vt_disk.specs.Members.{DiskOf}
use Rattle.vt_log.specs.Log.{LogState, front, queued}
use Rattle.vt_shard.specs.Shard.{ShardState}
use Rattle.vt_shard.specs.Writeback.{HasWork}
use Rattle.vt_shard.specs.declared.TheConstants.{ROOM}
use Rattle.vt_core.specs.declared.event.Event.TheVariants.{FileAdvance, FileBegin, LogAdvance}
use Rattle.vt_core.specs.declared.event.Out.TheVariants.{Moved, Nothing}
use Rattle.vt_core.specs.declared.event.Out.{Out}
use Rattle.vt_core.specs.Core.{CoreState}
use Rattle.vt_core.specs.Steps.{Steps}
use Rattle.vt_core.specs.Work.{AdvancesLog, AdvancesWriteback, BeginsWriteback, ChangesShard}
use Rattle.vt_requests.specs.Working.{DoesWork, HasNoSpare, IsShardFiled, NeedsRoom}
use Rattle.vt_requests.proofs.AtShard.{Rests, advances_less, begins_less, full_has_work, idle_rests, logs_less, unbegun_rests}
use Rattle.vt_requests.proofs.Pieces.{log_gives, log_idle, no_other}
use Rattle.vt_requests.proofs.WorkDone.{one_piece, piece_fails, work_then}
use Rattle.vt_requests.proofs.working.work_in_shard.Goals as goal

-- an idle shard that was full is full
full_still : {D : Type 0} (shard : ℕ) (old new : CoreState D) (s : ShardState D) → Rests shard old new s → HasNoSpare shard old → HasNoSpare shard new
full_still shard old new s rests full = record {
  state = s;
  at = rests.at;
  full = subst (λ (t : ShardState _). ROOM ≤ length t.index.dirty) (same_Some full.state s (sym full.at ∙ rests.was)) full.full;
}

-- what doesn't begin though none is under way has nothing to write back
filed_by : {D : Type 0} (durable : ℕ) (s : ShardState D) → s.writeback ≡ None → IsSome s.writeback ⊎ ¬ HasWork durable s → IsShardFiled durable s
filed_by durable s none either = (none, ⊎_elim (λ some. absurd (let no = subst IsSome none some in cc)) (λ no. no) either)

pub returns-in-Moved-clause-works : goal.returns-in-Moved-clause-works
returns-in-Moved-clause-works g c = one_piece g.S.Scorer.score_of g.D.Disk (NeedsRoom c.args.shard) tt (FileAdvance c.args.shard) Moved c.args.core.now c.step.new.self (refl, c.requires.full) tt c.in-Moved.ensures

pub returns-in-Moved-clause-less : goal.returns-in-Moved-clause-less
returns-in-Moved-clause-less g c = advances_less g.D.Disk c.args.shard c.args.core.now c.step.new.self c.in-Moved.ensures.does

pub returns-in-Failed-clause-works : goal.returns-in-Failed-clause-works
returns-in-Failed-clause-works g c = piece_fails g.S.Scorer.score_of g.D.Disk (NeedsRoom c.args.shard) c.in-Failed.why (FileAdvance c.args.shard) c.args.core.now c.step.new.self (refl, c.requires.full) c.in-Failed.ensures

pub step-requires-2 : goal.step-requires-2
step-requires-2 g c = omega (arith, slice_get_within c.args.core.now.shards c.args.shard c.requires.full.state c.requires.full.at, c.in-Nothing.ensures.goes_on.store.shards)

pub returns-in-Moved-step-clause-works : goal.returns-in-Moved-step-clause-works
returns-in-Moved-step-clause-works g c =
    let idle = idle_rests g.D.Disk c.args.shard c.args.core.now c.step.new.self c.in-Nothing.ensures.does in
    let full = full_still c.args.shard c.args.core.now c.step.new.self c.in-Nothing.ensures.does.before idle.0 c.requires.full in
    work_then {T = Unit {0}} {U = Unit {0}} g.S.Scorer.score_of g.D.Disk (NeedsRoom c.args.shard) tt (Ok tt) c.args.core.now c.step.new.self c.step-2.new.self
    (one_piece g.S.Scorer.score_of g.D.Disk (NeedsRoom c.args.shard) tt (FileAdvance c.args.shard) Nothing c.args.core.now c.step.new.self (refl, c.requires.full) tt c.in-Nothing.ensures)
    (one_piece g.S.Scorer.score_of g.D.Disk (NeedsRoom c.args.shard) tt (FileBegin c.args.shard) Moved c.step.new.self c.step-2.new.self (refl, full) tt c.in-Moved-step.ensures)

pub returns-in-Moved-step-clause-less : goal.returns-in-Moved-step-clause-less
returns-in-Moved-step-clause-less g c =
    let idle = idle_rests g.D.Disk c.args.shard c.args.core.now c.step.new.self c.in-Nothing.ensures.does in
    omega (arith, begins_less c.args.shard c.step.new.self c.step-2.new.self c.in-Moved-step.ensures.does, idle.0.left)

-- The shard has nothing to write back, after these two pieces.
pub record IsIdle {D : Type 0} (shard : ℕ) (old mid new : CoreState D) (s : ShardState D) : Type 0 where
  pub first : Rests shard old mid s
  pub second : Rests shard mid new s
  pub filed : IsShardFiled new.log.durable s

idle_by : {D : Type 0} (disk : DiskOf D) (shard : ℕ) (old mid new : CoreState D) → (a : ChangesShard shard old mid (AdvancesWriteback disk Nothing))
    → (b : ChangesShard shard mid new (BeginsWriteback mid.log.durable Nothing)) → IsIdle shard old mid new a.before
idle_by {D} disk shard old mid new a b =
    let first = idle_rests disk shard old mid a in
    let second = unbegun_rests mid.log.durable shard mid new b in
    let same : b.before ≡ a.before = same_Some b.before a.before (sym second.0.was ∙ first.0.at) in
    let durable : new.log.durable ≡ mid.log.durable = ap (λ (l : LogState D). l.durable) second.0.log in
    record {
      first = first.0;
      second = subst (λ (t : ShardState D). Rests shard mid new t) same second.0;
      filed = subst (λ (n : ℕ). IsShardFiled n a.before) (sym durable)
          (filed_by mid.log.durable a.before first.1 (subst (λ (t : ShardState D). IsSome t.writeback ⊎ ¬ HasWork mid.log.durable t) same second.1));
    }

-- the log is then needed for room
log_needed : {D : Type 0} (shard : ℕ) (old mid new : CoreState D) (s : ShardState D) → IsIdle shard old mid new s → HasNoSpare shard old → NeedsRoom shard LogAdvance new
log_needed shard old mid new s idle full =
    inr (full_still shard mid new s idle.second (full_still shard old mid s idle.first full), record { state = s; at = idle.second.at; filed = idle.filed })

two_pieces : {D : Type 0} (score : List ℕ → List ℕ) (disk : DiskOf D) (shard : ℕ) (old mid new : CoreState D) (s : ShardState D) → Rests shard old mid s → HasNoSpare shard old
    → Steps score disk (FileAdvance shard) Nothing old mid → Steps score disk (FileBegin shard) Nothing mid new → DoesWork {T = Unit {0}} score disk (NeedsRoom shard) (Ok tt) old new
two_pieces score disk shard old mid new s rests full a b =
    work_then {T = Unit {0}} {U = Unit {0}} score disk (NeedsRoom shard) tt (Ok tt) old mid new
    (one_piece score disk (NeedsRoom shard) tt (FileAdvance shard) Nothing old mid (refl, full) tt a)
    (one_piece score disk (NeedsRoom shard) tt (FileBegin shard) Nothing mid new (refl, full_still shard old mid s rests full) tt b)

pub unreachable-requires-in-Nothing-step-2 : goal.unreachable-requires-in-Nothing-step-2
unreachable-requires-in-Nothing-step-2 g c =
    let first = c.in-Nothing.ensures.does in
    let s : ShardState g.row.D.Denot = first.before in
    let idle = idle_by g.D.Disk c.args.shard c.args.core.now c.step.new.self c.step-2.new.self first c.in-Nothing-step.ensures.does in
    let full = full_still c.args.shard c.step.new.self c.step-2.new.self s idle.second (full_still c.args.shard c.args.core.now c.step.new.self s idle.first c.requires.full) in
    let own : full.state ≡ s = same_Some full.state s (sym full.at ∙ idle.second.at) in
    let log : c.step-2.new.self.log ≡ c.args.core.now.log = idle.second.log ∙ idle.first.log in
    let none : queued c.step-2.new.self.log ≡ 0 = ⊎_elim
    (λ nothing. log_idle g.D.Disk c.step-2.new.self c.step-3.new.self (subst (λ (o : Out). AdvancesLog g.D.Disk o c.step-2.new.self c.step-3.new.self) nothing c.step-3.ensures.does))
    (λ other. absurd (no_other c.step-3.result (log_gives g.D.Disk c.step-3.result c.step-2.new.self c.step-3.new.self c.step-3.ensures.does) other)) c.in-Nothing-step-2.is in
    idle.filed.1 (full_has_work c.step-2.new.self s (subst (λ (t : ShardState g.row.D.Denot). ROOM ≤ length t.index.dirty) own full.full)
    (λ info has. subst (λ (l : LogState g.row.D.Denot). info.number < front l) (sym log) (c.requires.accepted s info first.at has)) none)

pub returns-in-Moved-step-2-clause-works : goal.returns-in-Moved-step-2-clause-works
returns-in-Moved-step-2-clause-works g c =
    let first = c.in-Nothing.ensures.does in
    let idle = idle_by g.D.Disk c.args.shard c.args.core.now c.step.new.self c.step-2.new.self first c.in-Nothing-step.ensures.does in
    work_then {T = Unit {0}} {U = Unit {0}} g.S.Scorer.score_of g.D.Disk (NeedsRoom c.args.shard) tt (Ok tt) c.args.core.now c.step-2.new.self c.step-3.new.self
    (two_pieces g.S.Scorer.score_of g.D.Disk c.args.shard c.args.core.now c.step.new.self c.step-2.new.self first.before idle.first c.requires.full c.in-Nothing.ensures c.in-Nothing-step.ensures)
    (one_piece g.S.Scorer.score_of g.D.Disk (NeedsRoom c.args.shard) tt LogAdvance Moved c.step-2.new.self c.step-3.new.self
    (log_needed c.args.shard c.args.core.now c.step.new.self c.step-2.new.self first.before idle c.requires.full) tt c.in-Moved-step-2.ensures)

pub returns-in-Moved-step-2-clause-less : goal.returns-in-Moved-step-2-clause-less
returns-in-Moved-step-2-clause-less g c =
    let first = c.in-Nothing.ensures.does in
    let idle = idle_by g.D.Disk c.args.shard c.args.core.now c.step.new.self c.step-2.new.self first c.in-Nothing-step.ensures.does in
    omega (arith, logs_less g.D.Disk c.args.shard c.step-2.new.self c.step-3.new.self first.before idle.second.at idle.filed c.in-Moved-step-2.ensures.does, idle.first.left, idle.second.left)

pub returns-in-Failed-step-2-clause-works : goal.returns-in-Failed-step-2-clause-works
returns-in-Failed-step-2-clause-works g c =
    let first = c.in-Nothing.ensures.does in
    let idle = idle_by g.D.Disk c.args.shard c.args.core.now c.step.new.self c.step-2.new.self first c.in-Nothing-step.ensures.does in
    work_then {T = Unit {0}} {U = Unit {0}} g.S.Scorer.score_of g.D.Disk (NeedsRoom c.args.shard) tt (Err c.in-Failed-step-2.why) c.args.core.now c.step-2.new.self c.step-3.new.self
    (two_pieces g.S.Scorer.score_of g.D.Disk c.args.shard c.args.core.now c.step.new.self c.step-2.new.self first.before idle.first c.requires.full c.in-Nothing.ensures c.in-Nothing-step.ensures)
    (piece_fails g.S.Scorer.score_of g.D.Disk (NeedsRoom c.args.shard) c.in-Failed-step-2.why LogAdvance c.step-2.new.self c.step-3.new.self
    (log_needed c.args.shard c.args.core.now c.step.new.self c.step-2.new.self first.before idle c.requires.full) c.in-Failed-step-2.ensures)
