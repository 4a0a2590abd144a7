use Rattle.std.proofs.Common.{◌≡◌, ℕ, ◌<◌, Option, Some, length, sym, ◌∙◌, ap, subst}
use Rattle.std.specs.Prelude.{slice_get}
use Rattle.std.specs.Option.{option_or}
use Rattle.std.proofs.lemmas.Option.{same_Some}
use Rattle.vt_shard.specs.Shard.{ShardState}
use Rattle.vt_core.specs.Core.{CoreState}
use Rattle.vt_core.specs.View.{state_of}
use Rattle.vt_recover.proofs.Places.{there_is}
use Rattle.vt_core.proofs.store.Core.stop_for.Goals as goal

pub returns : goal.returns
returns g c = λ s at.
    let k : CoreState g.row.D.Denot = state_of c.self.inside in
    let v : ShardState g.row.D.Denot = c.index.result.now in
    let here : slice_get k.shards c.args.shard ≡ Some v = there_is k.shards c.args.shard v v
    (subst (λ (m : CoreState g.row.D.Denot). c.args.shard < length m.shards) (sym c.self.view_is) c.requires) (sym c.index.ensures) in
    let same : v ≡ s = same_Some v s (sym here ∙ subst (λ (m : CoreState g.row.D.Denot). slice_get m.shards c.args.shard ≡ Some s) (sym c.self.view_is) at) in
    subst (λ (m : CoreState g.row.D.Denot). c.or.result ≡ option_or m.log.stopped s.section.stopped) c.self.view_is
    (c.or.ensures ∙ ap (λ (o : Option ℕ). option_or o c.stopped-2.result) c.stopped.ensures
    ∙ ap (λ (o : Option ℕ). option_or k.log.stopped o) (c.stopped-2.ensures ∙ ap (λ (t : ShardState g.row.D.Denot). t.section.stopped) same))
