use Rattle.std.proofs.Common.{◌∙◌}
use Rattle.vt_bucket.specs.Buckets.{number_of_bucket, bucket_entries}
use Rattle.vt_shard.proofs.writeback.forget.Goals as goal

pub returns-then-has_one_of-clause-kept : goal.returns-then-has_one_of-clause-kept
returns-then-has_one_of-clause-kept c none =
    let one = c.has_one_of.ensures.0 c.if-has_one_of.true in
    absurd (none (record { number = number_of_bucket c.in-Some.bucket; entries = bucket_entries c.in-Some.bucket }) one.0 (search) one.1 (one.2 ∙ c.number.ensures))
