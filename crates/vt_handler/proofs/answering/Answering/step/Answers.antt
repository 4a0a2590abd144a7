-- what waits goes out before more is taken
use Rattle.std.proofs.Common.{[], Ok, Err, Option, refl, sym, subst}
use Rattle.std.proofs.lemmas.Result.{err_from_is_err_and}
use Rattle.vt_session.specs.declared.Ended.{Ended}
use Rattle.vt_handler.specs.Writing.{WritesOut}
use Rattle.vt_handler.proofs.Doing.{does_none}
use Rattle.vt_handler.proofs.Links.{went_out, some_came, all_out, none_of_the_input}
use Rattle.vt_handler.proofs.answering.Answering.step.Goals as goal

pub hear_more-requires-clause-answered : goal.hear_more-requires-clause-answered
hear_more-requires-clause-answered g c tells waits =
    all_out (g.C.Client.sent c.args.client.now) (g.C.Client.sent c.flush.new.client)
    (g.C.Client.written c.args.client.now) c.self.inside.output
    (g.C.Client.written c.flush.new.client) c.flush.new.self
    (c.in_ok-flush.ensures.kept tells).0 c.flush.ensures.empty
    (c.in_ok-flush.ensures.written tells)
    (rw (← c.self.view_is) at (c.requires.answered tells waits (c.if-needs_more.ensures.unfinished refl)))

pub returns-in_err-flush-clause-goes : goal.returns-in_err-flush-clause-goes
returns-in_err-flush-clause-goes g c =
    let p = err_from_is_err_and c.from_residual.result c.from_residual.ensures.1 in
    rw (p.1, ← c.self.view_is) (went_out {V = Option Ended} g.T.Store
    (Err c.in_err-flush.field-0.0) c.args.store.now _ _ _ _ _ _ _ _ c.args.talker.now refl
    c.in_err-flush.ensures.kept c.in_err-flush.ensures.written)

pub returns-in_ok-flush-clause-goes : goal.returns-in_ok-flush-clause-goes
returns-in_ok-flush-clause-goes g c =
    rw (← c.self.view_is) (some_came {V = Option Ended} g.T.Store (Ok c.hear_more.result)
    c.args.store.now _ _ _ _ _ (g.C.Client.sent c.flush.new.client) _ _
    (g.C.Client.left c.flush.new.client) _ _ _ refl c.in_ok-flush.ensures.kept
    c.hear_more.ensures.comes
    (λ tells. subst (λ w. WritesOut {T = Option Ended} (Ok c.hear_more.result)
    (g.C.Client.written c.args.client.now) c.self.inside.output w c.flush.new.self [])
    (sym (c.hear_more.ensures.written tells)) (c.in_ok-flush.ensures.written tells)))

pub returns-else-needs_more-clause-all : goal.returns-else-needs_more-clause-all
returns-else-needs_more-clause-all g c tells =
    (none_of_the_input (g.C.Client.left c.answer_next.new.client) []
    c.answer_next.result c.answer_next.ensures.itself).0

pub returns-else-needs_more-clause-said : goal.returns-else-needs_more-clause-said
returns-else-needs_more-clause-said g c =
    (none_of_the_input [] c.answer_next.new.self.waiting
    c.answer_next.result c.answer_next.ensures.itself).1

pub returns-in_ok-flush-clause-does : goal.returns-in_ok-flush-clause-does
returns-in_ok-flush-clause-does g c =
    rw (← c.self.view_is) (does_none g.T.Store c.args.store.now c.self.inside.failure)
