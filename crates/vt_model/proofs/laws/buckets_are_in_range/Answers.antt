use Rattle.vt_model.proofs.Buckets.{bucket_of-lt, section_of_bucket-lt}
use Rattle.vt_model.proofs.laws.buckets_are_in_range.Goals as goal

pub returns : goal.returns
returns c = record { bucket = bucket_of-lt; section = section_of_bucket-lt }
