use Rattle.std.proofs.Common.{◌≡◌, take}
use Rattle.std.specs.List.{Contains}
use Rattle.vt_bucket.specs.Buckets.{number_of_bucket, bucket_entries}
use Rattle.vt_isect.specs.Merging.{Merges}
use Rattle.vt_isect.proofs.merging.merge.Given as goal

abbrev pub invariant-loop-i : goal.invariant-loop-i
invariant-loop-i l = record {
  merged : Merges (bucket_entries l.initial.bucket) (Contains (take l.i l.group)) (bucket_entries l.bucket);
  number : number_of_bucket l.bucket ≡ number_of_bucket l.initial.bucket;
}
