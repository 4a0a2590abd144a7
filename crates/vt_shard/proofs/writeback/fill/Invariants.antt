use Rattle.std.proofs.Common.{◌≡◌, ◌≤◌, length, take}
use Rattle.std.specs.Prelude.{vec_capacity}
use Rattle.vt_icache.specs.Index.{entries_below}
use Rattle.vt_shard.proofs.writeback.fill.Given as goal

abbrev pub invariant-loop-info : goal.invariant-loop-info
invariant-loop-info l = record {
  items : l.list.items ≡ entries_below l.below (take l.info-index l.dirty);
  short : length l.list.items ≤ l.info-index;
  room : vec_capacity l.fn.list ≤ vec_capacity l.list;
}
