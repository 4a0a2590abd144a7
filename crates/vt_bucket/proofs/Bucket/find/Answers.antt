use Rattle.vt_bucket.proofs.Entries.{none_has}
use Rattle.vt_bucket.specs.Buckets.{bucket_entries}
use Rattle.vt_bucket.proofs.Bucket.find.Goals as goal

pub returns-in-Err-clause-none : goal.returns-in-Err-clause-none
returns-in-Err-clause-none c =
    none_has (bucket_entries c.args.self.now) c.entries-entries.result.now c.in-Err.field-0 c.args.key.now c.entries-entries.ensures.entries c.in-Err.ensures.below c.in-Err.ensures.above
