use Rattle.std.proofs.Common.{◌∙◌, sym, ap}
use Rattle.std.specs.Prelude.{Some, None}
use Rattle.vt_turns.specs.Views.{holding, turn_of}
use Rattle.vt_turns.proofs.Lists.{at_put_here}
use Rattle.vt_turns_example.specs.declared.part.Part.TheVariants.{Log}
use Rattle.vt_turns_example.specs.Parts.{part_means, covers}
use Rattle.vt_turns_example.specs.Stores.{TheView}
use Rattle.vt_turns_example.proofs.Cuts.{log_at, took_covers, not_shard}
use Rattle.vt_turns_example.proofs.store.Store.take_log.Goals as goal

pub unreachable-requires : goal.unreachable-requires
unreachable-requires g c = let own = c.requires.own in let o = c.args.self.now.turns.table.shared.key.opening.value.me.0 in
    let l = log_at c.args.self.now.cut o.parts c.args.self.now.cut_is in
    not_shard l.0 c.in_default.field-0 (λ b. ap (λ x. covers x b) (sym c.in_default.is) ∙ took_covers o c.args.pass.now.me.0 c.take.new.pass.me.0 0 c.take.result (Log l.0) own.1 own.2 c.take.ensures.takes l.1 b)

pub returns-clause-view : goal.returns-clause-view
returns-clause-view g c = let t = c.take.ensures.takes in let v = c.args.pass.now.me.0 in
    let view = t.is ∙ (λ i. holding part_means 0 t.history (c.in-Log.is i) v) in
    let has = ap (λ (z : TheView). turn_of z 0) view ∙ at_put_here None v.turns 0 (Some (Log c.in-Log.log)) in
    (t.history, view, t.goes_on, t.sees.front (Log c.in-Log.log) has)
