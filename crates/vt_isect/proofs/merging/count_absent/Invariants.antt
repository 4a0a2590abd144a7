use Rattle.std.proofs.Common.{◌≤◌, take}
use Rattle.std.specs.List.{Contains}
use Rattle.vt_bucket.specs.Buckets.{bucket_entries}
use Rattle.vt_isect.specs.Merging.{HasKeys, IsAbsentEntry}
use Rattle.vt_isect.proofs.merging.count_absent.Given as goal

abbrev pub invariant-loop-i : goal.invariant-loop-i
invariant-loop-i l = record {
  keys : HasKeys (IsAbsentEntry (bucket_entries l.bucket) (Contains (take l.i l.entries))) l.absent;
  most : l.absent ≤ l.i;
}
