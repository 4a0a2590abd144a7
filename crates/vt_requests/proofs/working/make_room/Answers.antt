use Rattle.std.proofs.Common.{◌≤◌, Ok, Err, Result, sym, subst, arith}
use Rattle.vt_base.specs.declared.why.Why.{Why}
use Rattle.vt_requests.specs.Working.{DoesWork, NeedsDurable, NeedsRoom}
use Rattle.vt_requests.proofs.SyncTold.{durable_is_own}
use Rattle.vt_requests.proofs.Told.{room_from_durable}
use Rattle.vt_requests.proofs.WorkDone.{did, handed_on, work_for, work_then}
use Rattle.vt_log.proofs.AreFound.{on_ok}
use Rattle.vt_requests.proofs.working.make_room.Goals as goal

pub returns-in_err-commit-clause-works : goal.returns-in_err-commit-clause-works
returns-in_err-commit-clause-works g c =
    subst (λ (r : Result (Unit {0}) Why). DoesWork g.S.Scorer.score_of g.D.Disk (NeedsRoom c.args.shard) r c.args.core.now c.commit.new.core)
    (sym (handed_on c.from_residual.result c.in_err-commit.field-0.0 c.from_residual.ensures.1))
    (work_for g.S.Scorer.score_of g.D.Disk (NeedsDurable c.saturating_sub-number.result) (NeedsRoom c.args.shard) (durable_is_own c.saturating_sub-number.result) (Err c.in_err-commit.field-0.0)
    c.args.core.now c.commit.new.core
    (λ event k same needed. room_from_durable c.args.shard c.saturating_sub-number.result c.args.core.now k event (omega arith) same needed)
    c.in_err-commit.ensures.works)

pub make_spare-requires : goal.make_spare-requires
make_spare-requires g c =
    let made = did g.S.Scorer.score_of g.D.Disk (NeedsDurable c.saturating_sub-number.result) (durable_is_own c.saturating_sub-number.result) (Ok tt) c.args.core.now c.commit.new.core c.in_ok-commit.ensures.works in
    omega (arith, made.worked.keeps.store.shards, c.requires)

pub returns-clause-works : goal.returns-clause-works
returns-clause-works g c =
    work_then {T = Unit {0}} {U = Unit {0}} g.S.Scorer.score_of g.D.Disk (NeedsRoom c.args.shard) tt c.make_spare.result c.args.core.now c.commit.new.core c.make_spare.new.core
    (work_for g.S.Scorer.score_of g.D.Disk (NeedsDurable c.saturating_sub-number.result) (NeedsRoom c.args.shard) (durable_is_own c.saturating_sub-number.result) (Ok tt)
    c.args.core.now c.commit.new.core
    (λ event k same needed. room_from_durable c.args.shard c.saturating_sub-number.result c.args.core.now k event (omega arith) same needed)
    c.in_ok-commit.ensures.works)
    c.make_spare.ensures.works

pub returns-clause-queue : goal.returns-clause-queue
returns-clause-queue g c =
    let made = did g.S.Scorer.score_of g.D.Disk (NeedsDurable c.saturating_sub-number.result) (durable_is_own c.saturating_sub-number.result) (Ok tt) c.args.core.now c.commit.new.core c.in_ok-commit.ensures.works in
    let durable : c.saturating_sub-number.result ≤ c.commit.new.core.log.durable = c.in_ok-commit.ensures.durable in
    on_ok c.make_spare.result (omega (arith, durable, made.worked.len, c.make_spare.ensures.queue))
