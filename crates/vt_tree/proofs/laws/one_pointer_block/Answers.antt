use Rattle.vt_tree.proofs.Contents.{one_pointer_block, past_one_pointer_block}
use Rattle.vt_tree.proofs.laws.one_pointer_block.Goals as goal

pub returns-clause-leaf : goal.returns-clause-leaf
returns-clause-leaf c = one_pointer_block

pub returns-clause-cut : goal.returns-clause-cut
returns-clause-cut c = past_one_pointer_block
