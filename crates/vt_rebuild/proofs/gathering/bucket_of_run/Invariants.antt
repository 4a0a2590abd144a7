use Rattle.std.proofs.Common.{◌≡◌, [], take}
use Rattle.std.specs.List.{Contains}
use Rattle.vt_bucket.specs.Buckets.{number_of_bucket, bucket_entries}
use Rattle.vt_isect.specs.Merging.{Merges}
use Rattle.vt_rebuild.proofs.gathering.bucket_of_run.Given as goal

-- the first so many entries are in the bucket
abbrev pub invariant-loop-i : goal.invariant-loop-i
invariant-loop-i l = record {
  merged : Merges [] (Contains (take l.i l.run)) (bucket_entries l.bucket);
  number : number_of_bucket l.bucket ≡ l.number;
}
