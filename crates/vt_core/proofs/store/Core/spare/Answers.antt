use Rattle.std.proofs.Common.{◌≡◌, ◌≢◌, ◌-◌, ◌<◌, Some, length, sym, ◌∙◌, ap, subst}
use Rattle.std.specs.Prelude.{slice_get}
use Rattle.std.specs.List.{AllPairs}
use Rattle.std.proofs.lemmas.Option.{same_Some}
use Rattle.vt_base.specs.declared.place.Info.{Info}
use Rattle.vt_shard.specs.declared.TheConstants.{ROOM}
use Rattle.vt_shard.specs.Shard.{ShardState}
use Rattle.vt_core.specs.Core.{CoreState}
use Rattle.vt_core.specs.View.{state_of}
use Rattle.vt_core.specs.Whole.{IsWhole}
use Rattle.vt_recover.proofs.Places.{there_is}
use Rattle.vt_core.proofs.store.Core.spare.Goals as goal

pub returns-clause-count : goal.returns-clause-count
returns-clause-count g c = λ s at.
    let k : CoreState g.row.D.Denot = state_of c.self.inside in
    let v : ShardState g.row.D.Denot = c.index.result.now in
    let here : slice_get k.shards c.args.shard ≡ Some v = there_is k.shards c.args.shard v v
    (subst (λ (m : CoreState g.row.D.Denot). c.args.shard < length m.shards) (sym c.self.view_is) c.requires) (sym c.index.ensures) in
    let same : v ≡ s = same_Some v s (sym here ∙ subst (λ (m : CoreState g.row.D.Denot). slice_get m.shards c.args.shard ≡ Some s) (sym c.self.view_is) at) in
    c.spare.ensures.count ∙ ap (λ (t : ShardState g.row.D.Denot). ROOM - length t.index.dirty) same

pub returns-clause-apart : goal.returns-clause-apart
returns-clause-apart g c = λ s at.
    let k : CoreState g.row.D.Denot = state_of c.self.inside in
    let v : ShardState g.row.D.Denot = c.index.result.now in
    let here : slice_get k.shards c.args.shard ≡ Some v = there_is k.shards c.args.shard v v
    (subst (λ (m : CoreState g.row.D.Denot). c.args.shard < length m.shards) (sym c.self.view_is) c.requires) (sym c.index.ensures) in
    let same : v ≡ s = same_Some v s (sym here ∙ subst (λ (m : CoreState g.row.D.Denot). slice_get m.shards c.args.shard ≡ Some s) (sym c.self.view_is) at) in
    subst (λ (t : ShardState g.row.D.Denot). AllPairs (λ (a : Info). λ (b : Info). a.key ≢ b.key) t.index.dirty) same c.spare.ensures.apart

pub returns-clause-accepted : goal.returns-clause-accepted
returns-clause-accepted g c = λ s info at has.
    let w : IsWhole g.D.Disk c.args.self.now = subst (λ (m : CoreState g.row.D.Denot). IsWhole g.D.Disk m) c.self.view_is c.self.invariant.0 in
    (w.shards c.args.shard s at).numbers info has
