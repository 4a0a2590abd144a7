use Rattle.std.proofs.Common.{◌+◌, ap, sym, subst, arith}
use Rattle.vt_rehearse.specs.declared.summary.Summary.{Summary}
use Rattle.vt_rehearse.specs.Counts.{with_events}
use Rattle.vt_rehearse.specs.Limits.{AreAtMost}
use Rattle.vt_rehearse.proofs.Limits.{more, more_events}
use Rattle.vt_rehearse.proofs.Staged.{alike_worked, one_work}
use Rattle.vt_rehearse.proofs.working.work.Goals as goal

pub step-requires-clause-most : goal.step-requires-clause-most
step-requires-clause-most g c = more 9223372036854775808 18446744073709551360 c.args.stage.summary (omega arith) c.requires.most

pub returns-clause-works : goal.returns-clause-works
returns-clause-works g c = one_work g.S.Scorer.score_of g.D.Disk c.requires.memory c.args.event c.step.result c.args.stage c.step.new.self c.step.ensures.steps c.step.ensures.same

pub returns-clause-alike : goal.returns-clause-alike
returns-clause-alike g c =
    alike_worked g.S.Scorer.score_of g.D.Disk c.requires.memory c.args.event c.step.result (with_events 1 c.args.stage.summary) c.args.stage c.step.new.self
    c.requires.work c.requires.alike c.step.ensures.steps c.step.ensures.same

pub returns-clause-grows : goal.returns-clause-grows
returns-clause-grows g c = λ most it.
    subst (λ (s : Summary). AreAtMost (most + 8192) s) (sym (ap (λ s. s.summary) c.step.ensures.same))
    (more (most + 1) (most + 8192) (with_events 1 c.args.stage.summary) (omega arith) (more_events most 1 c.args.stage.summary it))
