use Rattle.std.proofs.Common.{◌≡◌, ◌+◌, ◌*◌, ◌++◌, take, drop}
use Rattle.std.specs.List.{AllByRecursion}
use Rattle.vt_bucket.specs.Frame.{cells, IsIndexEntry}
use Rattle.vt_bucket.specs.Order.{IsAscending}
use Rattle.vt_bucket.proofs.decoding.decode_entries.Given as goal

abbrev pub invariant-loop-i : goal.invariant-loop-i
invariant-loop-i l = record {
  each : AllByRecursion IsIndexEntry (take l.i l.table);
  ascending : IsAscending (take l.i l.table);
  read : drop 10 l.frame ≡ cells (take l.i l.table) ++ drop (10 + 31 * l.i) l.frame;
}
