use Rattle.std.proofs.Common.{List, ap}
use Rattle.vt_base.specs.declared.place.Entry.{Entry}
use Rattle.vt_icache.specs.View.{state_of}
use Rattle.vt_icache.proofs.Pairs.{but_last, some_last}
use Rattle.vt_icache.proofs.cache.IndexCache.evict.Goals as goal

pub returns-clause-evicted : goal.returns-clause-evicted
returns-clause-evicted c =
    rw (← c.self.view_is, c.pop_lru.ensures.entries)
    (ap (λ (l : List Entry). record (state_of c.self.inside) { clean = l }) (but_last (λ x. x.key) c.self.inside.clean.entries))

pub returns-clause-some : goal.returns-clause-some
returns-clause-some c =
    let it = some_last (λ (x : Entry). x.key) c.self.inside.clean.entries in
    rw (← c.self.view_is, c.is_some.ensures, c.pop_lru.ensures.value) it
