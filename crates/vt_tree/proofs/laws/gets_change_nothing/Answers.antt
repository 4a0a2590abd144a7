use Rattle.vt_tree.proofs.Making.{gets_leave, gets_tell}
use Rattle.vt_tree.proofs.laws.gets_change_nothing.Goals as goal

pub returns-clause-left : goal.returns-clause-left
returns-clause-left c = gets_leave

pub returns-clause-told : goal.returns-clause-told
returns-clause-told c = gets_tell
