use Rattle.vt_part.proofs.Tables.{partition_stays}
use Rattle.vt_part.proofs.laws.partitions_stay_on_disks.Goals as goal

pub returns : goal.returns
returns g c t before after changes all image left =
    let was = changes image left in partition_stays t was.0 image was.2 (all was.0 was.1)
