use Rattle.std.proofs.Common.{sym, subst}
use Rattle.vt_shard.specs.Sound.{IsSoundFrom}
use Rattle.lru.proofs.CallerLemmas.{Contains-take}
use Rattle.vt_shard.proofs.IsSoundFrom.{with_clean}
use Rattle.vt_shard.proofs.IsWell.{well_clean}
use Rattle.vt_shard.proofs.shard.Shard.evict.Goals as goal

pub returns-clause-sound : goal.returns-clause-sound
returns-clause-sound g c = λ score setup h durable from sound.
    let was = subst (λ t. IsSoundFrom score setup g.D.Disk t h durable from) (sym c.self.view_is) sound in
    rw c.evict.ensures.evicted
    (with_clean score setup _ _ h durable from was _ (λ entry it. Contains-take _ _ entry it))

pub invariant_of-self : goal.invariant_of-self
invariant_of-self g c = rw c.evict.ensures.evicted (well_clean _ _ _ c.self.invariant _)
