use Rattle.std.proofs.Common.{arith}
use Rattle.vt_turns.proofs.SplitsAndJoins.{notes}
use Rattle.vt_turns.proofs.shared.Turns.note.Goals as goal

pub split_seat-requires : goal.split_seat-requires
split_seat-requires g c = let sized = c.args.self.now.sized in (c.requires.own.0, omega arith, notes g.P.Held.means c.args.self.now.table.shared.key.bit_words c.args.self.now.table.shared.key.opening.value.me.0 c.args.pass.now.id c.args.pass.now.me.0)
