-- each call asks the store for one operation, whose answer it hands on
use Rattle.vt_use.specs.Stores.{store_on}
use Rattle.vt_use.proofs.OneBlocks.{read_asked, written_asked}
use Rattle.vt_use.proofs.one_block.blocks_are_asked.Goals as goal

pub returns-clause-read : goal.returns-clause-read
returns-clause-read g c score kind s output refused asked old new it =
    read_asked (store_on score g.D.Disk) kind s output refused asked old new it

pub returns-clause-written : goal.returns-clause-written
returns-clause-written g c score b output refused asked old new it =
    written_asked (store_on score g.D.Disk) b score output refused asked old new it
