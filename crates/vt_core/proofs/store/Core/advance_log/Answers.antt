use Rattle.std.proofs.Common.{sym, subst}
use Rattle.vt_core.specs.declared.event.Event.TheVariants.{LogAdvance}
use Rattle.vt_core.specs.declared.event.Out.{Out}
use Rattle.vt_core.specs.Core.{CoreState}
use Rattle.vt_core.specs.Steps.{Steps}
use Rattle.vt_core.specs.View.{state_of}
use Rattle.vt_core.proofs.LogWork.{log_steps, log_whole, tables_stay}
use Rattle.vt_core.proofs.store.Core.advance_log.Goals as goal

pub invariant_of-self : goal.invariant_of-self
invariant_of-self g c = (log_whole g.S.Scorer.score_of g.D.Disk (state_of c.self.inside) c.advance-answer.new.self c.advance-answer.result c.advance-answer.ensures.step c.self.invariant.0, c.self.invariant.1)

pub returns : goal.returns
returns g c =
    let k : CoreState g.row.D.Denot = state_of c.self.inside in
    let l = c.advance-answer.new.self in
    let new : CoreState g.row.D.Denot = record k { log = l } in
    subst (λ (m : CoreState g.row.D.Denot). Steps g.S.Scorer.score_of g.D.Disk LogAdvance c.out_of_progress.result m new) c.self.view_is
    (subst (λ (o : Out). Steps g.S.Scorer.score_of g.D.Disk LogAdvance o k new) (sym c.out_of_progress.ensures)
    (log_steps g.S.Scorer.score_of g.D.Disk k l c.advance-answer.result c.advance-answer.ensures.step
    c.more_are_durable.ensures c.crash_gives_a_prefix.ensures.each c.true_marks_stay.ensures.more c.self.invariant.0
    (λ layout. tables_stay g.D.Disk k l c.advance-answer.result c.advance-answer.ensures.step c.partitions_stay_on_disks.ensures c.layouts_are_in_order.ensures.arenas c.arenas_are_apart.ensures.inside layout)
    (λ tells h sound. c.advance-answer.ensures.sound h tells sound)
    (λ tells h sound files within. c.advance-answer.ensures.crash h tells sound files within)))
