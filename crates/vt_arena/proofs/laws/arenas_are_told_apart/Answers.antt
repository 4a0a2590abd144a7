use Rattle.vt_arena.proofs.Unique.{one_content}
use Rattle.vt_arena.proofs.laws.arenas_are_told_apart.Goals as goal

pub returns : goal.returns
returns c = one_content
