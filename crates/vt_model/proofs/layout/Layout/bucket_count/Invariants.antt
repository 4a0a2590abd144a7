use Rattle.std.proofs.Common.{◌≡◌, ◌*◌, ◌^◌, ◌≤◌, take, sum}
use Rattle.vt_model.proofs.layout.Layout.bucket_count.Given as goal

abbrev pub invariant-loop-buckets : goal.invariant-loop-buckets
invariant-loop-buckets l = record {
  so_far : l.total ≡ sum (take l.buckets-index l.buckets-items);
  small : l.total ≤ l.buckets-index * 2 ^ 32;
}
