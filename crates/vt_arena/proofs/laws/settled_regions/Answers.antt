use Rattle.vt_arena.proofs.Fresh.{settled_elsewhere, fresh_sound}
use Rattle.vt_arena.proofs.Regions.{arena_in_region}
use Rattle.vt_arena.proofs.laws.settled_regions.Goals as goal

pub returns-clause-elsewhere : goal.returns-clause-elsewhere
returns-clause-elsewhere g c region other before after apart same changes = settled_elsewhere region other _ _ _ _ apart same changes

pub returns-clause-fresh : goal.returns-clause-fresh
returns-clause-fresh g c score_of region number current old head disk is settled arena current_is head_is stand =
    fresh_sound score_of region _ number current old head _ _ is settled arena current_is head_is stand

pub returns-clause-image : goal.returns-clause-image
returns-clause-image g c score_of region number old disk least settled arena image left =
    arena_in_region score_of region number old _ image least (settled image left) arena
