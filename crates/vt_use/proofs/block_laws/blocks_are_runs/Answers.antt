-- what a store is asked for, and the end of its use, are runs of events
use Rattle.std.proofs.Common.{Ok, false, true}
use Rattle.vt_use.specs.OneBlock.{asks_block}
use Rattle.vt_use.proofs.Uses.{use_keeps, use_runs}
use Rattle.vt_use.proofs.BlockAsks.{reads_asks, writes_asks}
use Rattle.vt_use.proofs.block_laws.blocks_are_runs.Goals as goal

pub returns-clause-read : goal.returns-clause-read
returns-clause-read g c score kind s result old new it =
    let asks = reads_asks score g.D.Disk kind s result old new it in (
      use_runs score g.D.Disk 0 false (asks_block kind s result) (Ok tt) old new new asks,
      use_keeps score g.D.Disk 0 false (asks_block kind s result) (Ok tt) old new new asks,
    )

pub returns-clause-written : goal.returns-clause-written
returns-clause-written g c score now kind bytes result old new it =
    let asks = writes_asks score g.D.Disk now kind bytes result old new it in (
      use_runs score g.D.Disk now true it.puts.0 it.closed old it.kept new asks,
      use_keeps score g.D.Disk now true it.puts.0 it.closed old it.kept new asks,
    )
