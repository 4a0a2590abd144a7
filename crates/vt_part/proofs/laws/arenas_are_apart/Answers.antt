use Rattle.vt_part.proofs.Layouts.{arenas_are_aligned, arenas_follow}
use Rattle.vt_part.proofs.laws.arenas_are_apart.Goals as goal

pub returns-clause-follow : goal.returns-clause-follow
returns-clause-follow c = arenas_follow

pub returns-clause-aligned : goal.returns-clause-aligned
returns-clause-aligned c = arenas_are_aligned
