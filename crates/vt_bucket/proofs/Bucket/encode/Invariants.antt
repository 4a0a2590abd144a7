use Rattle.std.proofs.Common.{◌≡◌, ◌+◌, ◌*◌, ◌++◌, length, take}
use Rattle.std.specs.List.{AllByRecursion}
use Rattle.vt_bucket.specs.Frame.{cells, bucket_header, IsIndexEntry}
use Rattle.vt_bucket.proofs.Bucket.encode.Given as goal

abbrev pub invariant-loop-entry : goal.invariant-loop-entry
invariant-loop-entry l = record {
  place : l.at ≡ 10 + 31 * l.entry-index;
  written : take l.at l.frame ≡ bucket_header l.fn.self.number (length l.entries) ++ cells (take l.entry-index l.entries);
  each : AllByRecursion IsIndexEntry (take l.entry-index l.entries);
}
