use Rattle.std.proofs.Common.{◌≡◌, ℕ, Ok, refl, sym, ap, subst}
use Rattle.vt_core.specs.declared.event.Event.TheVariants.{BloomAdvance}
use Rattle.vt_core.specs.declared.event.Out.TheVariants.{Moved, Nothing}
use Rattle.vt_core.specs.Core.{CoreState}
use Rattle.vt_core.specs.Work.{IsSaved}
use Rattle.vt_requests.proofs.FilterLeft.{filter_idle, saves_less}
use Rattle.vt_requests.proofs.WorkDone.{no_work, one_piece, work_then}
use Rattle.vt_requests.proofs.ending.save_filter.Goals as goal

pub loop-why-init : goal.loop-why-init
loop-why-init g c = record { works = no_work g.S.Scorer.score_of g.D.Disk (λ event k. event ≡ BloomAdvance) tt c.args.core.now }

pub loop-why-smaller : goal.loop-why-smaller
loop-why-smaller g c = saves_less c.loop-why.core c.step.new.self c.in-Moved.ensures.does

pub loop-why-preserved : goal.loop-why-preserved
loop-why-preserved g c = record {
  works = work_then {T = Unit {0}} {U = Unit {0}} g.S.Scorer.score_of g.D.Disk (λ event k. event ≡ BloomAdvance) tt (Ok tt) c.args.core.now c.loop-why.core c.step.new.self c.loop-why.invariant.works
      (one_piece g.S.Scorer.score_of g.D.Disk (λ event k. event ≡ BloomAdvance) tt BloomAdvance Moved c.loop-why.core c.step.new.self refl tt c.in-Moved.ensures);
}

pub returns-in-Nothing-clause-works : goal.returns-in-Nothing-clause-works
returns-in-Nothing-clause-works g c =
    work_then {T = Unit {0}} {U = Unit {0}} g.S.Scorer.score_of g.D.Disk (λ event k. event ≡ BloomAdvance) tt (Ok tt) c.args.core.now c.loop-why.core c.step.new.self c.loop-why.invariant.works
    (one_piece g.S.Scorer.score_of g.D.Disk (λ event k. event ≡ BloomAdvance) tt BloomAdvance Nothing c.loop-why.core c.step.new.self refl tt c.in-Nothing.ensures)

pub returns-in-Nothing-clause-saved : goal.returns-in-Nothing-clause-saved
returns-in-Nothing-clause-saved g c = λ b _ is.
    let does = c.in-Nothing.ensures.does in
    subst (λ (n : ℕ). IsSaved n b) (sym (ap (λ (k : CoreState g.row.D.Denot). k.log.durable) does.same))
    (filter_idle c.loop-why.core.bits c.loop-why.core.log.durable c.loop-why.core.bloom c.step.new.self.bloom does.saves b is)
