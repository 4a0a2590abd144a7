use Rattle.vt_arena.proofs.Blocks.{clump_stands}
use Rattle.vt_arena.proofs.laws.blocks_stand_at_their_places.Goals as goal

pub returns : goal.returns
returns c = clump_stands
