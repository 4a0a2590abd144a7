use Rattle.std.proofs.Common.{inl, inr, refl}
use Rattle.vac_read.proofs.last_way.OnWayBlocks.sync.Goals as goal

pub returns : goal.returns
returns g c = (refl, refl, inr (inl (c.sync.ensures, inl refl, λ enough. (enough, refl, refl), λ never. absurd never)))
