-- each step is part of the session, from its first byte on
use Rattle.std.proofs.Common.{[], None, Option, IsTrue, refl, ◌∙◌, arith}
use Rattle.std.proofs.lemmas.Result.{err_from_is_err_and}
use Rattle.vt_base.specs.Bytes.{AreBytes-none}
use Rattle.vt_session.specs.declared.Ended.{Ended}
use Rattle.vt_session.proofs.Hearings.{heard_some}
use Rattle.vt_handler.proofs.Links.{session_begins, session_answered, session_on, session_fails, out_ends, out_fails, no_read_fault}
use Rattle.vt_handler.proofs.Doing.{does_none, does_more}
use Rattle.vt_handler.proofs.Taking.{stays, goes_on_on}
use Rattle.vt_handler.proofs.answering.Answering.serve_talker.Goals as goal

pub loop-ended-init : goal.loop-ended-init
loop-ended-init g c =
    let r = heard_some [] AreBytes-none in record {
      session = rw (c.requires.line, c.requires.talker) (session_begins g.T.Store
          c.args.store.now (g.C.Client.left c.args.client.now) (g.C.Client.sent c.args.client.now)
          (g.C.Client.written c.args.client.now));
      heard = rw c.requires.talker (r.0, r.1, r.2);
      some = c.requires.some;
      goes_on = stays (g.T.Store.condition c.args.store.now);
      does = rw c.requires.line (does_none g.T.Store c.args.store.now None);
      reads = refl;
      writes = refl;
    }

pub step-requires-clause-answered : goal.step-requires-clause-answered
step-requires-clause-answered g c tells waits unfinished =
    session_answered g.T.Store {P = IsTrue g.C.Client.tells} c.args.store.now c.loop-ended.store
    c.loop-ended.self _ _ _ (g.C.Client.sent c.loop-ended.client) _
    (g.C.Client.written c.loop-ended.client) c.loop-ended.talker c.loop-ended.invariant.session
    tells (c.requires.begins tells waits) unfinished

pub loop-ended-preserved : goal.loop-ended-preserved
loop-ended-preserved g c =
    let before = c.loop-ended.invariant in record {
      session = session_on g.T.Store {P = IsTrue g.C.Client.tells} c.args.store.now
          c.loop-ended.store c.step.new.store c.loop-ended.self c.step.new.self
          _ _ _ _ _ _ _ _ _ c.loop-ended.talker c.step.new.talker before.session
          c.in_ok-ended.field-0 c.in_ok-ended.ensures.goes;
      heard = c.step.ensures.heard;
      some = omega arith;
      goes_on = goes_on_on (g.T.Store.condition c.args.store.now)
          (g.T.Store.condition c.loop-ended.store) (g.T.Store.condition c.step.new.store)
          before.goes_on c.step.ensures.goes_on;
      does = does_more g.T.Store c.args.store.now c.loop-ended.store c.step.new.store None _ _
          before.does c.step.ensures.does;
      reads = (rw c.in_default.is at c.in_ok-ended.ensures.reads) ∙ before.reads;
      writes = c.in_ok-ended.ensures.writes ∙ before.writes;
    }

pub returns-in_err-ended-clause-told : goal.returns-in_err-ended-clause-told
returns-in_err-ended-clause-told g c h hold tells =
    let p = err_from_is_err_and c.from_residual.result c.from_residual.ensures.1 in
    rw p.1 (session_fails g.T.Store {P = IsTrue g.C.Client.tells} {V = Option Ended}
    c.args.store.now c.loop-ended.store c.step.new.store c.loop-ended.self c.step.new.self
    _ _ _ _ _ _ _ _ _ c.loop-ended.talker c.step.new.talker c.loop-ended.invariant.session
    c.in_err-ended.field-0.0 c.in_err-ended.ensures.goes c.step.ensures.heard h hold tells)

pub returns-in_err-flush-clause-told : goal.returns-in_err-flush-clause-told
returns-in_err-flush-clause-told g c h hold tells =
    let p = err_from_is_err_and c.from_residual-in_err-flush.result
    c.from_residual-in_err-flush.ensures.1 in
    let x = session_on g.T.Store {P = IsTrue g.C.Client.tells} c.args.store.now
    c.loop-ended.store c.step.new.store c.loop-ended.self c.step.new.self
    (g.C.Client.left c.args.client.now) _ (g.C.Client.left c.step.new.client)
    (g.C.Client.sent c.args.client.now) _ (g.C.Client.sent c.step.new.client)
    (g.C.Client.written c.args.client.now) _ (g.C.Client.written c.step.new.client)
    c.loop-ended.talker c.step.new.talker c.loop-ended.invariant.session
    c.in_ok-ended.field-0 c.in_ok-ended.ensures.goes in
    rw p.1 (out_fails g.T.Store {P = IsTrue g.C.Client.tells} c.args.store.now c.step.new.store
    _ (record { waiting = c.flush.new.self; failure = c.self.inside.failure })
    _ _ _ _ _ _ _ _ _ c.step.new.talker (rw (← c.self.view_is) at x) refl
    c.in_err-flush.ensures.kept c.in_err-flush.field-0.0
    c.in_err-flush.ensures.written c.step.ensures.heard h hold tells)

pub returns-in_err-flush-clause-reads : goal.returns-in_err-flush-clause-reads
returns-in_err-flush-clause-reads g c =
    let p = err_from_is_err_and c.from_residual-in_err-flush.result
    c.from_residual-in_err-flush.ensures.1 in
    rw p.1 (c.flush.ensures.read_faults ∙ no_read_fault c.in-Some.ended c.self.inside.output
    (g.C.Client.read_faults c.loop-ended.client) (g.C.Client.read_faults c.step.new.client)
    (rw c.in-Some.is at c.in_ok-ended.ensures.reads)
    (rw (c.in-Some.is, ← c.self.view_is) at c.in_ok-ended.ensures.said)
    c.in_err-flush.ensures.some ∙ c.loop-ended.invariant.reads)

pub returns-in-Some-clause-told : goal.returns-in-Some-clause-told
returns-in-Some-clause-told g c h hold tells =
    let x = session_on g.T.Store {P = IsTrue g.C.Client.tells} c.args.store.now
    c.loop-ended.store c.step.new.store c.loop-ended.self c.step.new.self
    (g.C.Client.left c.args.client.now) _ (g.C.Client.left c.step.new.client)
    (g.C.Client.sent c.args.client.now) _ (g.C.Client.sent c.step.new.client)
    (g.C.Client.written c.args.client.now) _ (g.C.Client.written c.step.new.client)
    c.loop-ended.talker c.step.new.talker c.loop-ended.invariant.session
    c.in_ok-ended.field-0 c.in_ok-ended.ensures.goes in
    out_ends g.T.Store {P = IsTrue g.C.Client.tells} c.args.store.now c.step.new.store
    _ (record { waiting = c.flush.new.self; failure = c.self.inside.failure })
    _ _ _ _ _ _ _ _ _ c.step.new.talker (rw (← c.self.view_is) at x) refl
    c.in_ok-flush.ensures.kept {V = Unit {0}} c.in_ok-flush.field-0 c.in-Some.ended
    c.in_ok-flush.ensures.written c.flush.ensures.empty
    (rw c.in-Some.is at c.in_ok-ended.ensures.ends) h hold tells

pub returns-in_err-ended-clause-does : goal.returns-in_err-ended-clause-does
returns-in_err-ended-clause-does g c =
    does_more g.T.Store c.args.store.now c.loop-ended.store c.step.new.store None _ _
    c.loop-ended.invariant.does c.step.ensures.does

pub returns-in_err-flush-clause-does : goal.returns-in_err-flush-clause-does
returns-in_err-flush-clause-does g c =
    does_more g.T.Store c.args.store.now c.loop-ended.store c.step.new.store None _ _
    c.loop-ended.invariant.does (rw (← c.self.view_is) at c.step.ensures.does)

pub returns-in-Some-clause-does : goal.returns-in-Some-clause-does
returns-in-Some-clause-does g c =
    does_more g.T.Store c.args.store.now c.loop-ended.store c.step.new.store None _ _
    c.loop-ended.invariant.does (rw (← c.self.view_is) at c.step.ensures.does)
