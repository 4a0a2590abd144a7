use Rattle.vt_tree.proofs.Making.{stays_held}
use Rattle.vt_tree.proofs.laws.held_stays.Goals as goal

pub returns : goal.returns
returns c = stays_held
