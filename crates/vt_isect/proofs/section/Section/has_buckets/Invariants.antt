use Rattle.std.proofs.Common.{take}
use Rattle.vt_isect.specs.Section.{AreInRange}
use Rattle.vt_isect.proofs.section.Section.has_buckets.Given as goal

abbrev pub invariant-loop-entry : goal.invariant-loop-entry
invariant-loop-entry g l = AreInRange l.self.head l.self.buckets (take l.entry-index l.entries)
