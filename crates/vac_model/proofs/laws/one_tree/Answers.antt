use Rattle.vac_model.proofs.OneTree.{same_tree}
use Rattle.vac_model.proofs.laws.one_tree.Goals as goal

pub returns : goal.returns
returns c map score a b x y =
    same_tree c.one_entry.ensures c.one_root.ensures c.one_content.ensures
    c.one_metadata.ensures map score a b x y
