use Rattle.std.proofs.Common.{◌∙◌, [], ◌∷◌, ap, sym, refl, subst, arith}
use Rattle.vt_turns.specs.Views.{without, with_bits}
use Rattle.vt_turns.specs.Calls.{MayRaise}
use Rattle.vt_turns_example.specs.declared.part.Part.TheVariants.{Log, Shard}
use Rattle.vt_turns_example.specs.Parts.{part_means}
use Rattle.vt_turns_example.specs.Stores.{TheView}
use Rattle.vt_turns_example.proofs.Holding.{adds, raised_gave}
use Rattle.vt_turns_example.proofs.store.Store.add.Goals as goal

pub give_both-requires-clause-log : goal.give_both-requires-clause-log
give_both-requires-clause-log c = let e = c.if-not-put.ensures.left (λ t. cc) in (c.args.log, c.requires.log, sym e.0)

pub raise-requires-clause-raises : goal.raise-requires-clause-raises
raise-requires-clause-raises c =
    let put = c.if-not-put.ensures.put refl in
    let range = c.put.ensures.range in
    let v = c.args.pass.now.me.0 in
    let bits = c.set_bits.ensures.view ∙ ap (λ p. with_bits (p ∷ []) v) c.place_of.ensures in (
      Log c.args.log,
      Shard c.args.shard,
      subst (λ (w : TheView). MayRaise part_means w (Log c.args.log) (Log c.put.new.log) c.args.number (Shard c.args.shard) (Shard c.put.new.shard) c.args.block) (sym bits)
          (adds v c.args.number c.args.log c.put.new.log c.args.shard c.put.new.shard c.args.block c.len-at.result c.requires.number.0 c.requires.log c.requires.shard c.requires.front (omega arith) c.requires.covers c.requires.new
          (ap (λ o. o.kept) c.requires.own.1 ∙ c.args.self.now.kept) put.0 put.1 range.0 range.1),
    )

pub give-requires-2-clause-held : goal.give-requires-2-clause-held
give-requires-2-clause-held c =
    (raised_gave c.args.pass.now.me.0 c.set_bits.new.pass.me.0 c.raise.new.pass.me.0 c.give.new.pass.me.0 (without c.args.number c.give.new.pass.me.0) c.args.number (Log c.put.new.log) (Shard c.put.new.shard) c.args.block (c.place_of.result ∷ []) c.set_bits.ensures.view c.raise.ensures.view c.give.ensures.view refl c.requires.number.0).0

pub returns-clause-gave : goal.returns-clause-gave
returns-clause-gave c =
    (raised_gave c.args.pass.now.me.0 c.set_bits.new.pass.me.0 c.raise.new.pass.me.0 c.give.new.pass.me.0 c.give-2.new.pass.me.0 c.args.number (Log c.put.new.log) (Shard c.put.new.shard) c.args.block (c.place_of.result ∷ []) c.set_bits.ensures.view c.raise.ensures.view c.give.ensures.view c.give-2.ensures.view c.requires.number.0).1
