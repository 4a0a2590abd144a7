use Rattle.vt_part.proofs.Tables.{partition_unique, partition_passes, passing_partition, partition_stays}
use Rattle.vt_part.proofs.laws.partitions_are_told_apart.Goals as goal

pub returns-clause-one : goal.returns-clause-one
returns-clause-one c = partition_unique

pub returns-clause-passes : goal.returns-clause-passes
returns-clause-passes c = partition_passes

pub returns-clause-only : goal.returns-clause-only
returns-clause-only c = passing_partition

pub returns-clause-stay : goal.returns-clause-stay
returns-clause-stay c = partition_stays
