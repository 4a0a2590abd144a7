-- item by item, from the top folder on
use Rattle.vac_view.proofs.Items.{fids_are_items, name_is_item}
use Rattle.vac_view.proofs.FilesRead.{read_is_of_file}
use Rattle.vac_view.proofs.laws.shown_folders_are_archived.Goals as goal

pub returns-clause-names : goal.returns-clause-names
returns-clause-names c map kept node name found is finds =
    name_is_item c.one_content.ensures c.one_metadata.ensures c.nodes_are_items.ensures.lists
    c.nodes_are_items.ensures.top map kept node name found is finds

pub returns-clause-fids : goal.returns-clause-fids
returns-clause-fids c map score items top turns tree shows =
    fids_are_items c.one_content.ensures c.one_metadata.ensures c.nodes_are_items.ensures.lists
    c.nodes_are_items.ensures.top map score items top turns tree shows

pub returns-clause-reads : goal.returns-clause-reads
returns-clause-reads c map known turn it msize fid offset count f reading bytes agreed is at opened
    holds none =
    read_is_of_file c.nodes_are_items.ensures.reads map known turn it msize fid offset count f
    reading bytes agreed is at opened holds none
