use Rattle.vt_disk.specs.Region.{Inside}
use Rattle.vt_disk.proofs.Bytes.{part_same}
use Rattle.vt_arena.proofs.Regions.{blocks_in_region, arena_in_region}
use Rattle.vt_arena.proofs.laws.arenas_are_in_their_regions.Goals as goal

pub returns-clause-region : goal.returns-clause-region
returns-clause-region c = arena_in_region

pub returns-clause-blocks : goal.returns-clause-blocks
returns-clause-blocks c = blocks_in_region

pub returns-clause-elsewhere : goal.returns-clause-elsewhere
returns-clause-elsewhere c region other old new apart same =
    part_same (Inside other) region.start region.len old new same (λ i above below there. apart i there (above, below))
