use Rattle.vt_tree.proofs.ReadBack.{depth_below_8, depth_reaches, depth_is_least}
use Rattle.vt_tree.proofs.laws.depth_is_least.Goals as goal

pub returns-clause-reaches : goal.returns-clause-reaches
returns-clause-reaches c shape size fits most =
    (depth_below_8 shape size fits most, depth_reaches shape size fits most)

pub returns-clause-least : goal.returns-clause-least
returns-clause-least c = depth_is_least
