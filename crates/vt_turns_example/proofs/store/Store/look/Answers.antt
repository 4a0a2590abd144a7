use Rattle.std.proofs.Common.{◌∙◌, ap}
use Rattle.vt_turns_example.proofs.Answering.{looked_absent}
use Rattle.vt_turns_example.proofs.store.Store.look.Goals as goal

pub returns-else-load_bits-clause-answered : goal.returns-else-load_bits-clause-answered
returns-else-load_bits-clause-answered c = let free = c.requires.free.0 in
    looked_absent c.args.pass.now.me.0 c.front-at.new.pass.me.0 c.load_bits.new.pass.me.0 c.args.key c.front-at.result c.place_of.result (ap (λ o. o.kept) free.1 ∙ c.args.self.now.kept) free.2 c.place_of.ensures c.front-at.ensures.loads c.if-load_bits.ensures.bits
