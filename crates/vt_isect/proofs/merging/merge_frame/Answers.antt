use Rattle.std.proofs.Common.{◌≡◌, ◌∙◌, ℕ, List, inr, refl, ap, subst}
use Rattle.vt_base.specs.declared.place.Entry.{Entry}
use Rattle.vt_bucket.specs.Buckets.{number_of_bucket, bucket_entries}
use Rattle.vt_bucket.specs.Frame.{IsBucketFrame, bucket_frame}
use Rattle.vt_isect.proofs.merging.merge_frame.Goals as goal

pub returns-in-Ok-clause-merged : goal.returns-in-Ok-clause-merged
returns-in-Ok-clause-merged c =
    let new : List Entry = bucket_entries c.merge.new.bucket in
    let same : number_of_bucket c.merge.new.bucket ≡ c.args.number = c.merge.ensures.number ∙ c.in_ok-bucket.ensures.number in
    record {
      old = bucket_entries c.in_ok-bucket.bucket;
      new = new;
      was = c.in_ok-bucket.ensures.found;
      is = subst (λ (k : ℕ). IsBucketFrame k new c.encode.new.frame) same c.encode.ensures.spelled;
      bytes = c.encode.ensures.bytes ∙ ap (λ (k : ℕ). bucket_frame k new) same;
      merges = c.in-Ok.ensures.merged;
    }

pub returns-in-Err-clause-damaged : goal.returns-in-Err-clause-damaged
returns-in-Err-clause-damaged c =
    let full = c.in-Err.ensures.full in
    inr (bucket_entries c.in_ok-bucket.bucket, c.in_ok-bucket.ensures.found, c.in-Err.found, full.1, full.0, refl)
