use Rattle.std.proofs.Common.{◌≡◌, ℕ, ◌<◌, Option, Some, None, length, sym, ◌∙◌, subst}
use Rattle.std.specs.Prelude.{slice_get}
use Rattle.vt_base.specs.declared.operation.Operation.{Operation as Asked}
use Rattle.vt_core.specs.declared.event.Event.TheVariants.{Ask}
use Rattle.vt_core.specs.declared.event.Out.TheVariants.{Nothing}
use Rattle.vt_core.specs.Core.{CoreState}
use Rattle.vt_core.specs.Machine.{WaitsForNone}
use Rattle.vt_core.specs.Steps.{Steps}
use Rattle.vt_core.specs.View.{state_of}
use Rattle.vt_recover.proofs.Places.{there_is}
use Rattle.vt_core.proofs.AskWork.{waiting_steps}
use Rattle.vt_lookup.proofs.Fetching.{is_there}
use Rattle.vt_arena.proofs.Commits.{none_is}
use Rattle.vt_core.proofs.store.Core.ask.Goals as goal

pub returns-then-is_some : goal.returns-then-is_some
returns-then-is_some g c =
    let k : CoreState g.row.D.Denot = state_of c.self.inside in
    let v : Option ℕ = c.index.result.now in
    let it = is_there v (sym c.is_some.ensures ∙ c.if-is_some.true) in
    let at : slice_get k.waiting c.args.session ≡ Some (Some it.0) = there_is k.waiting c.args.session v (Some it.0)
    (subst (λ (m : CoreState g.row.D.Denot). c.args.session < length m.waiting) (sym c.self.view_is) c.requires) (sym c.index.ensures ∙ it.1) in
    subst (λ (m : CoreState g.row.D.Denot). Steps g.S.Scorer.score_of g.D.Disk (Ask c.args.session c.args.operation c.args.now) Nothing m m) c.self.view_is
    (waiting_steps g.S.Scorer.score_of g.D.Disk k c.crash_gives_a_prefix.ensures.prefix c.self.invariant.0 c.args.session c.args.now c.args.operation it.0 at)

pub returns-in-Read : goal.returns-in-Read
returns-in-Read g c =
    let k : CoreState g.row.D.Denot = state_of c.self.inside in
    let v : Option ℕ = c.index.result.now in
    let none : WaitsForNone k.waiting c.args.session = there_is k.waiting c.args.session v None
    (subst (λ (m : CoreState g.row.D.Denot). c.args.session < length m.waiting) (sym c.self.view_is) c.requires)
    (sym c.index.ensures ∙ none_is v (sym c.is_some.ensures ∙ c.if-is_some.false)) in
    subst (λ (r : Asked). Steps g.S.Scorer.score_of g.D.Disk (Ask c.args.session r c.args.now) c.ask_read.result c.args.self.now c.ask_read.new.self) (sym c.in-Read.is)
    (c.ask_read.ensures c.args.session c.args.now (subst (λ (m : CoreState g.row.D.Denot). WaitsForNone m.waiting c.args.session) c.self.view_is none))

pub returns-in-Write : goal.returns-in-Write
returns-in-Write g c =
    let k : CoreState g.row.D.Denot = state_of c.self.inside in
    let v : Option ℕ = c.index.result.now in
    let none : WaitsForNone k.waiting c.args.session = there_is k.waiting c.args.session v None
    (subst (λ (m : CoreState g.row.D.Denot). c.args.session < length m.waiting) (sym c.self.view_is) c.requires)
    (sym c.index.ensures ∙ none_is v (sym c.is_some.ensures ∙ c.if-is_some.false)) in
    subst (λ (r : Asked). Steps g.S.Scorer.score_of g.D.Disk (Ask c.args.session r c.args.now) c.ask_write.result c.args.self.now c.ask_write.new.self) (sym c.in-Write.is)
    (c.ask_write.ensures c.args.session (subst (λ (m : CoreState g.row.D.Denot). WaitsForNone m.waiting c.args.session) c.self.view_is none))

pub ask_sync-requires-clause-free : goal.ask_sync-requires-clause-free
ask_sync-requires-clause-free g c =
    let k : CoreState g.row.D.Denot = state_of c.self.inside in
    let v : Option ℕ = c.index.result.now in
    subst (λ (m : CoreState g.row.D.Denot). WaitsForNone m.waiting c.args.session) c.self.view_is
    (there_is k.waiting c.args.session v None
    (subst (λ (m : CoreState g.row.D.Denot). c.args.session < length m.waiting) (sym c.self.view_is) c.requires)
    (sym c.index.ensures ∙ none_is v (sym c.is_some.ensures ∙ c.if-is_some.false)))

pub returns-in-Sync : goal.returns-in-Sync
returns-in-Sync g c =
    subst (λ (r : Asked). Steps g.S.Scorer.score_of g.D.Disk (Ask c.args.session r c.args.now) c.ask_sync.result c.args.self.now c.ask_sync.new.self) (sym c.in-Sync.is)
    c.ask_sync.ensures
