-- the digits of the score
use Rattle.run_sessions.proofs.commands.write.print_score.Goals as goal

pub returns : goal.returns
returns g c = rw c.hexadecimal.ensures at c.print.ensures
