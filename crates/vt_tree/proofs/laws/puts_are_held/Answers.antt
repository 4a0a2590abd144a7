use Rattle.vt_tree.proofs.Making.{puts_leave, puts_are_there}
use Rattle.vt_tree.proofs.laws.puts_are_held.Goals as goal

pub returns-clause-map : goal.returns-clause-map
returns-clause-map c = puts_leave

pub returns-clause-each : goal.returns-clause-each
returns-clause-each c = puts_are_there
