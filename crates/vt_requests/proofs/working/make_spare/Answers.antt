use Rattle.std.proofs.Common.{Ok, Err, Result, sym, subst, arith}
use Rattle.vt_base.specs.declared.why.Why.{Why}
use Rattle.vt_requests.specs.Working.{DoesWork, NeedsRoom}
use Rattle.vt_requests.proofs.Told.{room_is_own}
use Rattle.vt_requests.proofs.WorkDone.{did, handed_on, no_work, work_then}
use Rattle.vt_log.proofs.Lists.{slice_get_there}
use Rattle.vt_requests.proofs.working.make_spare.Goals as goal

pub loop-alloc-init : goal.loop-alloc-init
loop-alloc-init g c = record {
  works = no_work g.S.Scorer.score_of g.D.Disk (NeedsRoom c.args.shard) tt c.args.core.now;
  within = c.requires;
}

pub work_in_shard-requires-clause-full : goal.work_in_shard-requires-clause-full
work_in_shard-requires-clause-full g c =
    let it = slice_get_there c.loop-alloc.core.shards c.args.shard c.loop-alloc.invariant.within in
    record { state = it.0; at = it.1; full = omega (arith, c.spare.ensures.count it.0 it.1, c.loop-alloc-test.true) }

pub loop-alloc-preserved : goal.loop-alloc-preserved
loop-alloc-preserved g c =
    let works = c.in_ok-work_in_shard.ensures.works in
    let made = did g.S.Scorer.score_of g.D.Disk (NeedsRoom c.args.shard) (room_is_own c.args.shard) (Ok tt) c.loop-alloc.core c.work_in_shard.new.core works in
    record {
      works = work_then {T = Unit {0}} {U = Unit {0}} g.S.Scorer.score_of g.D.Disk (NeedsRoom c.args.shard) tt (Ok tt) c.args.core.now c.loop-alloc.core c.work_in_shard.new.core
          c.loop-alloc.invariant.works works;
      within = omega (arith, c.loop-alloc.invariant.within, made.worked.keeps.store.shards);
    }

pub returns-in_err-work_in_shard-clause-works : goal.returns-in_err-work_in_shard-clause-works
returns-in_err-work_in_shard-clause-works g c =
    subst (λ (r : Result (Unit {0}) Why). DoesWork g.S.Scorer.score_of g.D.Disk (NeedsRoom c.args.shard) r c.args.core.now c.work_in_shard.new.core)
    (sym (handed_on c.from_residual.result c.in_err-work_in_shard.field-0.0 c.from_residual.ensures.1))
    (work_then {T = Unit {0}} {U = Unit {0}} g.S.Scorer.score_of g.D.Disk (NeedsRoom c.args.shard) tt (Err c.in_err-work_in_shard.field-0.0) c.args.core.now c.loop-alloc.core c.work_in_shard.new.core
    c.loop-alloc.invariant.works c.in_err-work_in_shard.ensures.works)

pub returns-in_err-work_in_shard-clause-queue : goal.returns-in_err-work_in_shard-clause-queue
returns-in_err-work_in_shard-clause-queue g c =
    let before = did g.S.Scorer.score_of g.D.Disk (NeedsRoom c.args.shard) (room_is_own c.args.shard) (Ok tt) c.args.core.now c.loop-alloc.core c.loop-alloc.invariant.works in
    let after = did g.S.Scorer.score_of g.D.Disk (NeedsRoom c.args.shard) (room_is_own c.args.shard) (Err c.in_err-work_in_shard.field-0.0) c.loop-alloc.core c.work_in_shard.new.core
    c.in_err-work_in_shard.ensures.works in
    omega (arith, before.worked.len, before.worked.keeps.store.durable, after.worked.len, after.worked.keeps.store.durable)

pub returns-clause-queue : goal.returns-clause-queue
returns-clause-queue g c =
    let made = did g.S.Scorer.score_of g.D.Disk (NeedsRoom c.args.shard) (room_is_own c.args.shard) (Ok tt) c.args.core.now c.loop-alloc.core c.loop-alloc.invariant.works in
    omega (arith, made.worked.len, made.worked.keeps.store.durable)
