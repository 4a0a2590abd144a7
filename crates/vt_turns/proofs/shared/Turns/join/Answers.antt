use Rattle.std.proofs.Common.{rules, arith}
use Rattle.vt_turns.proofs.SplitsAndJoins.{joins}
use Rattle.vt_turns.proofs.KnowsAll.{knows_joined}
use Rattle.vt_turns.proofs.shared.Turns.join.Goals as goal

pub join_seat-requires : goal.join_seat-requires
join_seat-requires g c = let sized = c.args.self.now.sized in (
  c.requires.own.0,
  c.requires.other.0,
  c.requires.other.1,
  omega arith,
  joins g.P.Held.means c.args.self.now.table.shared.key.bit_words c.args.self.now.table.shared.key.opening.value.me.0 c.args.pass.now.id c.args.other.id c.args.pass.now.me.0 c.args.other.me.0 c.requires.share c.requires.none_held,
)

pub returns-clause-knows : goal.returns-clause-knows
returns-clause-knows g c = knows_joined c.args.pass.now.me.0 c.args.other.me.0 c.join_seat.new.seat.me.0 (search rules)
