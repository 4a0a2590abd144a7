use Rattle.std.proofs.Common.{inl, inr, refl}
use Rattle.vac_read.proofs.last_way.OnWayBlocks.put.Goals as goal

pub returns-clause-done : goal.returns-clause-done
returns-clause-done g c = (refl, refl, inr (inl (c.put.ensures.done, inl refl, λ enough. (enough, refl, refl), λ never. absurd never)))
