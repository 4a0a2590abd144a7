use Rattle.vt_partitions.proofs.Standings.{made_zero}
use Rattle.vt_partitions.proofs.making_disks.Failing.disk.Goals as goal

pub returns-clause-made : goal.returns-clause-made
returns-clause-made g c =
    made_zero _ c.failing.result c.args.len c.failing.ensures.length c.failing.ensures.length c.failing.ensures.zero c.failing.ensures.settled
