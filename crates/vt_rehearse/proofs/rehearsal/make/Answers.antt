-- two things are dropped one after the other
use Rattle.std.proofs.Common.{◌+◌, sym, ap, subst, arith}
use Rattle.vt_core.specs.declared.event.Event.TheVariants.{EvictIndex, EvictLump}
use Rattle.vt_rehearse.specs.declared.rounds.Round.{Round}
use Rattle.vt_rehearse.specs.declared.summary.Summary.{Summary}
use Rattle.vt_rehearse.specs.Counts.{with_events}
use Rattle.vt_rehearse.specs.Limits.{AreAtMost}
use Rattle.vt_rehearse.specs.Rehearsal.{MakesRound}
use Rattle.vt_rehearse.proofs.Limits.{more, more_events}
use Rattle.vt_rehearse.proofs.Staged.{two_works}
use Rattle.vt_rehearse.proofs.rehearsal.make.Goals as goal

pub returns-in-Evict-clause-makes : goal.returns-in-Evict-clause-makes
returns-in-Evict-clause-makes g c =
    let score = g.S.Scorer.score_of in
    let disk = g.D.Disk in
    let shard = c.in-Evict.shard in
    let new = c.work-in-Evict.result in
    let both = two_works score disk c.requires.memory (EvictLump shard) (EvictIndex shard) c.args.stage c.work-stage.result new c.work-stage.ensures.works c.work-in-Evict.ensures.works in
    subst (λ (round : Round). MakesRound score disk g.D.Crashable.leaves round c.args.stage new) (sym c.in-Evict.is) both

pub returns-in-Evict-clause-grows : goal.returns-in-Evict-clause-grows
returns-in-Evict-clause-grows g c = λ most it.
    let shard = c.in-Evict.shard in
    let old = c.args.stage in
    let both = two_works g.S.Scorer.score_of g.D.Disk c.requires.memory (EvictLump shard) (EvictIndex shard) old c.work-stage.result c.work-in-Evict.result
    c.work-stage.ensures.works c.work-in-Evict.ensures.works in
    subst (λ (s : Summary). AreAtMost (most + 8192) s) (sym (ap (λ s. s.summary) both.same))
    (more (most + 2) (most + 8192) (with_events 2 old.summary) (omega arith) (more_events most 2 old.summary it))
