use Rattle.std.proofs.Common.{Some, Ok, Err, refl, sym, subst}
use Rattle.std.specs.Option.{option_or}
use Rattle.vt_tree.specs.Calls.{get, Counts, with_refusal}
use Rattle.vt_blocks.specs.Local.{LocalState, DoesLocal}
use Rattle.vt_blocks.proofs.Doing.{got, not_got}
use Rattle.vt_blocks.proofs.local.LocalBlocks.get.Goals as goal

pub returns-in-Ok-clause-done : goal.returns-in-Ok-clause-done
returns-in-Ok-clause-done g c =
    let counts : Counts = record {
      faults = c.self.inside.faults;
      refusals = c.self.inside.refusals;
    } in
    let old : LocalState g.row.T.Denot =
    record { store = c.self.inside.store; counts = counts; refused = c.self.inside.refused } in
    let new : LocalState g.row.T.Denot =
    record { store = c.read.new.store; counts = counts; refused = c.self.inside.refused } in
    subst (λ (x : LocalState g.row.T.Denot). DoesLocal g.T.Store x (get c.args.kind
    c.args.score.now.0 (Ok c.in-Ok.bytes)) new)
    c.self.view_is
    (got g.T.Store old new c.in-Ok.ensures.goes_on c.args.kind c.wire.result c.args.score.now.0
    c.in-Ok.bytes
    c.wire.ensures.number c.wire.ensures.valid
    c.in-Ok.ensures.serves c.in-Ok.ensures.once refl refl)

pub returns-in-Err-clause-done : goal.returns-in-Err-clause-done
returns-in-Err-clause-done g c =
    let counts : Counts = record {
      faults = c.self.inside.faults;
      refusals = c.self.inside.refusals;
    } in
    let old : LocalState g.row.T.Denot =
    record { store = c.self.inside.store; counts = counts; refused = c.self.inside.refused } in
    let new : LocalState g.row.T.Denot =
    record { store = c.read.new.store; counts = counts; refused = c.self.inside.refused } in
    let after : LocalState g.row.T.Denot = record {
      store = c.read.new.store;
      counts = with_refusal (Some c.refuse.result) counts;
      refused = option_or c.self.inside.refused (Some c.in-Err.why);
    } in
    subst (λ (x : LocalState g.row.T.Denot). DoesLocal g.T.Store x (get c.args.kind
    c.args.score.now.0 (Err c.refuse.result)) c.refuse.new.self)
    c.self.view_is
    (subst (λ (y : LocalState g.row.T.Denot). DoesLocal g.T.Store old (get c.args.kind
    c.args.score.now.0 (Err c.refuse.result)) y)
    (sym c.refuse.ensures.left)
    (not_got g.T.Store old after c.in-Err.ensures.goes_on c.args.kind c.wire.result
    c.args.score.now.0
    c.in-Err.why c.refuse.result c.wire.ensures.number c.wire.ensures.valid c.refuse.ensures.err
    c.in-Err.ensures.serves
    c.in-Err.ensures.cause c.in-Err.ensures.once refl refl))
