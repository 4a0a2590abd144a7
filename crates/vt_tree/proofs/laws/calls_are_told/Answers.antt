use Rattle.vt_tree.proofs.Making.{told}
use Rattle.vt_tree.proofs.laws.calls_are_told.Goals as goal

pub returns : goal.returns
returns g c = told g.B.Blocks.does g.B.Blocks.holds g.B.Scorer.score_of g.met.B.Blocks.tells
