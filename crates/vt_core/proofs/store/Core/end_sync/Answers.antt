use Rattle.std.proofs.Common.{◌≡◌, ℕ, ◌≤◌, ◌<◌, Some, None, refl, sym, ◌∙◌, ap, subst, arith, length, get_or}
use Rattle.std.specs.Prelude.{slice_set}
use Rattle.vt_core.specs.declared.event.Out.{Out}
use Rattle.vt_core.specs.Core.{CoreState}
use Rattle.vt_core.specs.Asking.{AnswersSync}
use Rattle.vt_core.specs.Machine.{WaitsAt}
use Rattle.vt_core.specs.View.{state_of}
use Rattle.vt_recover.proofs.Places.{there_is}
use Rattle.vt_core.proofs.Answering.{unset_whole}
use Rattle.vt_core.proofs.store.Core.end_sync.Goals as goal

pub invariant_of-self : goal.invariant_of-self
invariant_of-self g c = (unset_whole g.S.Scorer.score_of g.D.Disk (state_of c.self.inside) c.args.session c.self.inside.synced (omega arith) c.self.invariant.0.synced c.self.invariant.0, c.self.invariant.1)

pub returns-in-Some-stopped-clause-answers : goal.returns-in-Some-stopped-clause-answers
returns-in-Some-stopped-clause-answers g c =
    let stopped : c.self.inside.log.stopped ≡ Some c.in-Some-stopped.call = sym c.stopped.ensures ∙ c.in-Some-stopped.is in
    let old : CoreState g.row.D.Denot = state_of c.self.inside in
    let new : CoreState g.row.D.Denot = record old { waiting = slice_set c.self.inside.waiting.items c.args.session None } in
    subst (λ (k : CoreState g.row.D.Denot). AnswersSync c.args.session c.say.result k new) c.self.view_is
    (subst (λ (o : Out). AnswersSync c.args.session o old new) (sym c.say.ensures)
    (there_is c.self.inside.waiting.items c.args.session c.index.result.now (Some c.in-Some.number) (subst (λ (k : CoreState g.row.D.Denot). c.args.session < length k.waiting) (sym c.self.view_is) c.requires) (sym c.index.ensures ∙ c.in-Some.is), stopped, refl))

pub returns-then-number-durable-clause-answers : goal.returns-then-number-durable-clause-answers
returns-then-number-durable-clause-answers g c =
    let stopped : c.self.inside.log.stopped ≡ None = sym c.stopped.ensures ∙ c.in_default-stopped.is in
    let late : c.self.inside.log.durable < c.in-Some.number = omega (arith, c.if-number-durable.true, c.durable.ensures) in
    subst (λ (k : CoreState g.row.D.Denot). ((x : ℕ) × WaitsAt k.waiting c.args.session x × (k.log.durable < x)) × (k.log.stopped ≡ None) × (c.args.self.now ≡ c.args.self.now)) c.self.view_is
    ((c.in-Some.number, there_is c.self.inside.waiting.items c.args.session c.index.result.now (Some c.in-Some.number) (subst (λ (k : CoreState g.row.D.Denot). c.args.session < length k.waiting) (sym c.self.view_is) c.requires) (sym c.index.ensures ∙ c.in-Some.is), late), stopped, refl)

pub invariant_of-self-2 : goal.invariant_of-self-2
invariant_of-self-2 g c =
    let durable : c.in-Some.number ≤ c.self.inside.log.durable = omega (arith, c.if-number-durable.false, c.durable.ensures) in
    let low : c.self.inside.synced ≤ c.max-self-inside.result = omega (arith, c.max-self-inside.ensures) in
    let most : c.max-self-inside.result ≤ c.self.inside.log.durable = omega (arith, c.max-self-inside.ensures, c.self.invariant.0.synced, durable) in (
      unset_whole g.S.Scorer.score_of g.D.Disk (state_of c.self.inside) c.args.session c.max-self-inside.result low most c.self.invariant.0,
      c.self.invariant.1,
    )

pub returns-clause-answers : goal.returns-clause-answers
returns-clause-answers g c =
    let stopped : c.self.inside.log.stopped ≡ None = sym c.stopped.ensures ∙ c.in_default-stopped.is in
    let durable : c.in-Some.number ≤ c.self.inside.log.durable = omega (arith, c.if-number-durable.false, c.durable.ensures) in
    let old : CoreState g.row.D.Denot = state_of c.self.inside in
    let new : CoreState g.row.D.Denot = record old { waiting = slice_set c.self.inside.waiting.items c.args.session None; synced = c.max-self-inside.result } in
    subst (λ (k : CoreState g.row.D.Denot). AnswersSync c.args.session c.say-2.result k new) c.self.view_is
    (subst (λ (o : Out). AnswersSync c.args.session o old new) (sym c.say-2.ensures)
    (there_is c.self.inside.waiting.items c.args.session c.index.result.now (Some c.in-Some.number) (subst (λ (k : CoreState g.row.D.Denot). c.args.session < length k.waiting) (sym c.self.view_is) c.requires) (sym c.index.ensures ∙ c.in-Some.is), stopped, durable, ap (λ (n : ℕ). record old { waiting = slice_set c.self.inside.waiting.items c.args.session None; synced = n }) c.max-self-inside.ensures))

pub returns-in_default-clause-answers : goal.returns-in_default-clause-answers
returns-in_default-clause-answers g c = (
  there_is c.args.self.now.waiting c.args.session c.index.result.now None c.requires (ap (λ (k : CoreState g.row.D.Denot). get_or k.waiting c.args.session c.index.result.now) (sym c.self.view_is) ∙ sym c.index.ensures ∙ c.in_default.is),
  refl,
)
