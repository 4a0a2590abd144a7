use Rattle.std.proofs.Common.{◌≡◌, ◌+◌, ◌<◌, suc, refl, ◌∙◌, subst, arith}
use Rattle.vt_core.specs.declared.event.Event.TheVariants.{LogAdvance}
use Rattle.vt_core.specs.declared.event.Out.{Out}
use Rattle.vt_core.specs.Core.{history_len}
use Rattle.vt_core.specs.Steps.{Steps}
use Rattle.vt_rehearse.proofs.Asking.{log_moves}
use Rattle.vt_rehearse.proofs.Staged.{commit_more, made_more, none_made}
use Rattle.vt_rehearse.proofs.Stepping.{worked}
use Rattle.vt_rehearse.proofs.working.commit_all.Goals as goal

pub loop-alloc-init : goal.loop-alloc-init
loop-alloc-init g c = record {
  calls = (0, omega arith, refl, none_made c.args.stage.now);
  steady = λ h it. it;
  waiting = refl;
}

pub loop-alloc-preserved : goal.loop-alloc-preserved
loop-alloc-preserved g c =
    let score = g.S.Scorer.score_of in
    let disk = g.D.Disk in
    let first = c.args.stage.now in
    let old = c.loop-alloc.stage in
    let new = c.step.new.self in
    let made = c.loop-alloc.invariant.calls in
    let steady = c.loop-alloc.invariant.steady c.requires.steady.0 c.requires.steady.1 in
    let test = c.loop-alloc-test.true in
    let durable = c.durable.ensures in
    let len = c.history_len.ensures in
    let less : old.core.log.durable < history_len old.core = omega (arith, test, durable, len) in
    let moved = log_moves score disk c.requires.memory c.step.result c.requires.steady.0 old.core new.core steady less c.step.ensures.steps in
    let bound = made.1 in
    let lower = moved.1 in
    let more : made.0 + 1 ≡ suc made.0 = omega arith in
    record {
      calls = (
        suc made.0,
        omega (arith, bound, lower),
        commit_more score disk c.requires.memory made.0 first.core old.core new.core made.2 less (subst (λ (o : Out). Steps score disk LogAdvance o old.core new.core) moved.0 c.step.ensures.steps),
        made_more made.0 1 (suc made.0) first old new more made.3 c.step.ensures.same,
      );
      steady = λ h it. (worked score disk c.requires.memory LogAdvance c.step.result h old.core new.core tt (c.loop-alloc.invariant.steady h it) c.step.ensures.steps).steady;
      waiting = (worked score disk c.requires.memory LogAdvance c.step.result c.requires.steady.0 old.core new.core tt steady c.step.ensures.steps).waiting ∙ c.loop-alloc.invariant.waiting;
    }

pub loop-alloc-smaller : goal.loop-alloc-smaller
loop-alloc-smaller g c =
    let score = g.S.Scorer.score_of in
    let disk = g.D.Disk in
    let old = c.loop-alloc.stage in
    let new = c.step.new.self in
    let steady = c.loop-alloc.invariant.steady c.requires.steady.0 c.requires.steady.1 in
    let test = c.loop-alloc-test.true in
    let durable = c.durable.ensures in
    let len = c.history_len.ensures in
    let less : old.core.log.durable < history_len old.core = omega (arith, test, durable, len) in
    (log_moves score disk c.requires.memory c.step.result c.requires.steady.0 old.core new.core steady less c.step.ensures.steps).1
