use Rattle.std.proofs.Common.{sym, subst}
use Rattle.vt_turns_example.specs.Stores.{Pass}
use Rattle.vt_turns_example.specs.Workers.{Begun}
use Rattle.vt_turns_example.proofs.workers.serve_all.Goals as goal

pub join_all-pass-requires-clause-begun : goal.join_all-pass-requires-clause-begun
join_all-pass-requires-clause-begun g c =
    let r = c.scoped-pass.result in
    subst (λ (q : Pass). Begun g.D.Link.Link.told c.args.store.now q.me.0 r.0.me.0 r.2.items) (sym c.of-before.ensures) c.scoped-pass.ensures.1.2
