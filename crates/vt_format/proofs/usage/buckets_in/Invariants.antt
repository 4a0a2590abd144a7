use Rattle.std.proofs.Common.{◌≡◌}
use Rattle.vt_format.specs.Usage.{buckets_before}
use Rattle.vt_format.proofs.usage.buckets_in.Given as goal

-- those of the sections so far
abbrev pub invariant-loop-section : goal.invariant-loop-section
invariant-loop-section g l = l.buckets ≡ buckets_before l.sections l.section-index
