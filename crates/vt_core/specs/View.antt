-- A store's fields as its calls see them.
use Rattle.vt_core.specs.declared.store.Core.TheInside.{Inside}
use Rattle.vt_core.specs.Core.{CoreState}

-- what contracts see of a store
abbrev pub state_of : {D S : Type 0} → Inside D S → CoreState D
state_of k = record {
  log = k.log;
  shards = k.shards.items;
  bloom = k.bloom;
  bits = k.bits;
  waiting = k.waiting.items;
  synced = k.synced;
}
