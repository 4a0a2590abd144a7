use Rattle.std.proofs.Common.{◌≡◌}
use Rattle.vt_model.specs.Places.{first_bucket}
use Rattle.vt_rebuild.specs.Rebuilt.{counts_of}
use Rattle.vt_rebuild.proofs.rebuilding.buckets_in.Given as goal

-- those of the sections so far
abbrev pub invariant-loop-section : goal.invariant-loop-section
invariant-loop-section g l = l.buckets ≡ first_bucket (counts_of l.sections) l.section-index
