use Rattle.std.proofs.Common.{arith}
use Rattle.vt_turns.proofs.Front.{looks}
use Rattle.vt_turns.proofs.Sole.{sole_loads}
use Rattle.vt_turns.proofs.shared.Turns.front.Goals as goal

pub load-requires : goal.load-requires
load-requires g c = let sized = c.args.self.now.sized in (
  c.requires.own.0,
  omega arith,
  looks g.P.Held.means c.args.self.now.table.shared.key.bit_words c.args.self.now.table.shared.key.opening.value.me.0 c.args.self.now.table.shared.table_id.slots c.args.pass.now.id c.args.pass.now.me.0 c.args.pass.now.me.1,
)

pub returns-clause-sole : goal.returns-clause-sole
returns-clause-sole g c = λ sole. sole_loads g.P.Held.means c.args.pass.now.me.0 c.load.new.seat.me.0 c.load.result sole c.load.ensures.2.1
