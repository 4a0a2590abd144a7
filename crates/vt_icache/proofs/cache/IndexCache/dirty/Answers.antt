use Rattle.vt_base.specs.declared.place.Info.{Info}
use Rattle.vt_icache.proofs.Pairs.{apart_front}
use Rattle.vt_icache.proofs.cache.IndexCache.dirty.Goals as goal

pub returns-clause-apart : goal.returns-clause-apart
returns-clause-apart c =
    rw (c.as_slice.ensures, c.values.ensures.rest)
    (apart_front (λ (x : Info). x.key) c.self.inside.infos.entries c.self.inside.dirty c.self.invariant.info_keys c.self.invariant.unique)
