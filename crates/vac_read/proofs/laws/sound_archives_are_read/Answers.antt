use Rattle.vac_read.proofs.Sound.{broken_never, refused_never, unfound_never}
use Rattle.vac_read.proofs.laws.sound_archives_are_read.Goals as goal

pub returns-clause-opened : goal.returns-clause-opened
returns-clause-opened c map score items bad tree why =
    refused_never c.one_entry.ensures c.one_root.ensures c.one_content.ensures
    c.one_metadata.ensures map score items bad tree why

pub returns-clause-listed : goal.returns-clause-listed
returns-clause-listed c map s items bad are stand broken =
    broken_never c.one_entry.ensures c.one_root.ensures c.one_content.ensures
    c.one_metadata.ensures map c.one_flaw.ensures.none s items bad are stand broken

pub returns-clause-walked : goal.returns-clause-walked
returns-clause-walked c map s items name bad are stand unfound =
    unfound_never c.one_entry.ensures c.one_root.ensures c.one_content.ensures
    c.one_metadata.ensures map c.one_flaw.ensures.none s items name bad are stand unfound
