use Rattle.std.proofs.Common.{add-one, arith}
use Rattle.vt_turns.proofs.Moves.{claims}
use Rattle.vt_turns.proofs.shared.Turns.try_claim.Goals as goal

pub compare_exchange-requires : goal.compare_exchange-requires
compare_exchange-requires g c = let sized = c.args.self.now.sized in let near = c.requires.part in (
  c.requires.own.0,
  omega arith,
  rw add-one (claims g.P.Held.means c.args.self.now.table.shared.key.bit_words c.args.self.now.table.shared.key.opening.value.me.0 c.args.self.now.table.shared.table_id.slots c.args.pass.now.id c.args.part c.args.pass.now.me.0 c.args.pass.now.me.1 c.requires.part c.requires.share c.requires.own.2),
)
