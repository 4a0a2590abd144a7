use Rattle.std.proofs.Common.{sym, ◌∙◌}
use Rattle.vt_tree.proofs.EntryBytes.{spelled_is_read}
use Rattle.vt_tree.proofs.laws.one_entry.Goals as goal

pub returns : goal.returns
returns c a b bytes is_a is_b spells_a spells_b =
    sym (spelled_is_read a bytes is_a spells_a).0 ∙ (spelled_is_read b bytes is_b spells_b).0
