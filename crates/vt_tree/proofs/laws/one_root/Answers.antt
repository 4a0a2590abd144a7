use Rattle.std.proofs.Common.{refl, sym, ◌∙◌}
use Rattle.vt_tree.specs.Roots.{root_bytes}
use Rattle.vt_tree.proofs.RootBytes.{spelled_root_is_read}
use Rattle.vt_tree.proofs.laws.one_root.Goals as goal

pub returns : goal.returns
returns c a b is_a is_b same =
    sym (spelled_root_is_read a (root_bytes a) is_a refl).0
    ∙ (spelled_root_is_read b (root_bytes a) is_b same).0
