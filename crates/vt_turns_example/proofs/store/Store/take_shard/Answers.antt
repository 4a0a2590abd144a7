use Rattle.std.proofs.Common.{◌∙◌, sym, ap}
use Rattle.vt_turns_example.specs.declared.part.Part.TheVariants.{Shard}
use Rattle.vt_turns_example.specs.Parts.{covers}
use Rattle.vt_turns_example.proofs.Cuts.{routed, took_covers, not_log, at_key}
use Rattle.vt_turns_example.proofs.store.Store.take_shard.Goals as goal

pub unreachable-requires : goal.unreachable-requires
unreachable-requires g c = let own = c.requires.own in let n = c.shard_of-number.result in let o = c.args.self.now.turns.table.shared.key.opening.value.me.0 in
    let r = routed c.args.self.now.cut c.args.key n o.parts c.shard_of-number.ensures.low c.shard_of-number.ensures.high c.requires.key c.args.self.now.cut_is in
    not_log c.in_default.field-0 r.0 (λ b. ap (λ x. covers x b) (sym c.in_default.is) ∙ took_covers o c.args.pass.now.me.0 c.take.new.pass.me.0 n c.take.result (Shard r.0) own.1 own.2 c.take.ensures.takes r.1 b)

pub returns-clause-covers : goal.returns-clause-covers
returns-clause-covers g c = let own = c.requires.own in let n = c.shard_of-number.result in let o = c.args.self.now.turns.table.shared.key.opening.value.me.0 in
    let r = routed c.args.self.now.cut c.args.key n o.parts c.shard_of-number.ensures.low c.shard_of-number.ensures.high c.requires.key c.args.self.now.cut_is in
    ap (λ x. covers x (at_key c.args.key)) (sym c.in-Shard.is) ∙ took_covers o c.args.pass.now.me.0 c.take.new.pass.me.0 n c.take.result (Shard r.0) own.1 own.2 c.take.ensures.takes r.1 (at_key c.args.key) ∙ r.2
