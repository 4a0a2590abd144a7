use Rattle.std.proofs.Common.{Some, Ok, Err, refl, sym, subst}
use Rattle.std.specs.Option.{option_or}
use Rattle.vt_tree.specs.Calls.{sync, Counts, with_refusal}
use Rattle.vt_blocks.specs.Local.{LocalState, DoesLocal}
use Rattle.vt_blocks.proofs.Doing.{synced, not_synced}
use Rattle.vt_blocks.proofs.local.LocalBlocks.sync.Goals as goal

pub returns-in-Ok : goal.returns-in-Ok
returns-in-Ok g c =
    let counts : Counts = record {
      faults = c.self.inside.faults;
      refusals = c.self.inside.refusals;
    } in
    let old : LocalState g.row.T.Denot =
    record { store = c.self.inside.store; counts = counts; refused = c.self.inside.refused } in
    let new : LocalState g.row.T.Denot =
    record { store = c.sync.new.store; counts = counts; refused = c.self.inside.refused } in
    subst (λ (x : LocalState g.row.T.Denot). DoesLocal g.T.Store x (sync (Ok tt)) new)
    c.self.view_is
    (synced g.T.Store old new c.in-Ok.ensures.goes_on
    c.in-Ok.ensures.serves c.in-Ok.ensures.once refl refl)

pub returns-in-Err : goal.returns-in-Err
returns-in-Err g c =
    let counts : Counts = record {
      faults = c.self.inside.faults;
      refusals = c.self.inside.refusals;
    } in
    let old : LocalState g.row.T.Denot =
    record { store = c.self.inside.store; counts = counts; refused = c.self.inside.refused } in
    let new : LocalState g.row.T.Denot =
    record { store = c.sync.new.store; counts = counts; refused = c.self.inside.refused } in
    let after : LocalState g.row.T.Denot = record {
      store = c.sync.new.store;
      counts = with_refusal (Some c.refuse.result) counts;
      refused = option_or c.self.inside.refused (Some c.in-Err.why);
    } in
    subst (λ (x : LocalState g.row.T.Denot). DoesLocal g.T.Store x (sync (Err c.refuse.result))
    c.refuse.new.self)
    c.self.view_is
    (subst (λ (y : LocalState g.row.T.Denot). DoesLocal g.T.Store old (sync (Err c.refuse.result))
    y)
    (sym c.refuse.ensures.left)
    (not_synced g.T.Store old after c.in-Err.ensures.goes_on
    c.in-Err.why c.refuse.result c.refuse.ensures.err c.in-Err.ensures.serves
    c.in-Err.ensures.cause c.in-Err.ensures.once refl refl))
