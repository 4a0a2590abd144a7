use Rattle.std.proofs.Common.{◌≡◌, ℕ, Some, sym, ◌∙◌, ap, subst}
use Rattle.vt_base.specs.declared.answer.Said.TheVariants.{Refused}
use Rattle.vt_base.specs.declared.why.Why.TheVariants.{Stopped}
use Rattle.vt_base.specs.declared.operation.Operation.TheVariants as asks
use Rattle.vt_core.specs.declared.event.Event.TheVariants.{Ask}
use Rattle.vt_core.specs.declared.event.Out.{Out}
use Rattle.vt_core.specs.declared.event.Out.TheVariants.{Said as SaidOut, Waits}
use Rattle.vt_core.specs.Asking.{says, with_waiting}
use Rattle.vt_core.specs.Core.{CoreState, history_len}
use Rattle.vt_core.specs.Machine.{WaitsForNone}
use Rattle.vt_core.specs.Steps.{Steps}
use Rattle.vt_core.specs.View.{state_of}
use Rattle.vt_core.proofs.AskWork.{asked_whole, sync_steps, sync_stops}
use Rattle.vt_core.proofs.store.Core.ask_sync.Goals as goal

pub returns-in-Some : goal.returns-in-Some
returns-in-Some g c =
    let k : CoreState g.row.D.Denot = state_of c.self.inside in
    let call = c.in-Some.call in
    let said : c.say.result ≡ says (Refused (Stopped call)) k = c.say.ensures ∙ ap (λ (n : ℕ). SaidOut (record { said = Refused (Stopped call); at = n })) c.front-at.ensures.front in
    let none : WaitsForNone k.waiting c.args.session = subst (λ (m : CoreState g.row.D.Denot). WaitsForNone m.waiting c.args.session) (sym c.self.view_is) c.requires.free in
    subst (λ (m : CoreState g.row.D.Denot). Steps g.S.Scorer.score_of g.D.Disk (Ask c.args.session asks.Sync c.args.now) c.say.result m m) c.self.view_is
    (subst (λ (o : Out). Steps g.S.Scorer.score_of g.D.Disk (Ask c.args.session asks.Sync c.args.now) o k k) (sym said)
    (sync_stops g.S.Scorer.score_of g.D.Disk k c.args.session c.args.now call c.crash_gives_a_prefix.ensures.prefix c.self.invariant.0 none (sym c.stopped.ensures ∙ c.in-Some.is)))

pub invariant_of-self : goal.invariant_of-self
invariant_of-self g c = (asked_whole g.S.Scorer.score_of g.D.Disk (state_of c.self.inside) c.args.session c.front-at.result c.front-at.ensures.front c.self.invariant.0, c.self.invariant.1)

pub returns : goal.returns
returns g c =
    let k : CoreState g.row.D.Denot = state_of c.self.inside in
    let none : WaitsForNone k.waiting c.args.session = subst (λ (m : CoreState g.row.D.Denot). WaitsForNone m.waiting c.args.session) (sym c.self.view_is) c.requires.free in
    let at : c.front-at.result ≡ history_len k = c.front-at.ensures.front in
    subst (λ (m : CoreState g.row.D.Denot). Steps g.S.Scorer.score_of g.D.Disk (Ask c.args.session asks.Sync c.args.now) Waits m (with_waiting c.args.session (Some c.front-at.result) k)) c.self.view_is
    (subst (λ (n : ℕ). Steps g.S.Scorer.score_of g.D.Disk (Ask c.args.session asks.Sync c.args.now) Waits k (with_waiting c.args.session (Some n) k)) (sym at)
    (sync_steps g.S.Scorer.score_of g.D.Disk k c.args.session c.crash_gives_a_prefix.ensures.prefix c.self.invariant.0 c.args.now none (sym c.stopped.ensures ∙ c.in_default.is)))
