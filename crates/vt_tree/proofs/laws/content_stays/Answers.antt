use Rattle.vt_tree.proofs.Contents.{part_stays}
use Rattle.vt_tree.proofs.laws.content_stays.Goals as goal

pub returns : goal.returns
returns c = part_stays
