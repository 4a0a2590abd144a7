use Rattle.std.proofs.Common.{sym, subst}
use Rattle.std.specs.Mem.Slots.{slots_items}
use Rattle.vt_turns.specs.Calls.{Closes}
use Rattle.vt_turns.proofs.OpensAndCloses.{closes}
use Rattle.vt_turns.proofs.shared.Turns.close.Goals as goal

pub gather-requires-clause-full : goal.gather-requires-clause-full
gather-requires-clause-full g c = let values = c.close_with.ensures.values in
    let cl = closes g.P.Held.means c.args.self.table.shared.key.bit_words c.args.self.table.shared.key.opening.value.me.0 c.args.pass.id c.args.pass.me.0 (slots_items c.close_with.result.words) (slots_items c.close_with.result.slots) c.requires.all c.requires.none_held values.2 in
    (values.1, (cl.0, cl.1))

pub returns : goal.returns
returns g c = let values = c.close_with.ensures.values in
    let cl = closes g.P.Held.means c.args.self.table.shared.key.bit_words c.args.self.table.shared.key.opening.value.me.0 c.args.pass.id c.args.pass.me.0 (slots_items c.close_with.result.words) (slots_items c.close_with.result.slots) c.requires.all c.requires.none_held values.2 in
    subst (λ l. Closes g.P.Held.means c.args.pass.me.0 l) (sym (c.gather.ensures cl.0 cl.1)) cl.2
