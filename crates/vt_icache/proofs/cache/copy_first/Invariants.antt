use Rattle.std.proofs.Common.{◌≡◌, ◌≤◌, ◌+◌, take}
use Rattle.indexmap.specs.IndexMap.{IsUnique, spare}
use Rattle.vt_base.specs.Key.{same_key}
use Rattle.vt_icache.proofs.cache.copy_first.Given as goal

abbrev pub invariant-loop-i : goal.invariant-loop-i
invariant-loop-i l = record {
  done : l.to.entries ≡ take l.i l.from.entries;
  room : spare l.initial.to ≤ l.i + spare l.to;
  unique : IsUnique same_key l.to;
}
