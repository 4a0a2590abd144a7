use Rattle.vac_read.proofs.Sound.{lists_are, read_bytes, top_stands}
use Rattle.vac_read.proofs.laws.nodes_are_items.Goals as goal

pub returns-clause-top : goal.returns-clause-top
returns-clause-top c map score items node tree top =
    top_stands c.one_entry.ensures c.one_root.ensures c.one_content.ensures
    c.one_metadata.ensures map score items node tree top

pub returns-clause-lists : goal.returns-clause-lists
returns-clause-lists c map s items nodes stand lists =
    lists_are c.one_entry.ensures c.one_root.ensures c.one_content.ensures
    c.one_metadata.ensures map s items nodes stand lists

pub returns-clause-reads : goal.returns-clause-reads
returns-clause-reads c = read_bytes
