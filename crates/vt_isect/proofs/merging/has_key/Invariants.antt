use Rattle.std.proofs.Common.{take}
use Rattle.std.specs.List.{Contains}
use Rattle.vt_isect.specs.Merging.{HasKey}
use Rattle.vt_isect.proofs.merging.has_key.Given as goal

abbrev pub invariant-loop-entry : goal.invariant-loop-entry
invariant-loop-entry l = ¬ HasKey (Contains (take l.entry-index l.entries)) l.key
