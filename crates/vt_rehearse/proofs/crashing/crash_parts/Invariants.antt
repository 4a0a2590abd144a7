use Rattle.std.proofs.Common.{◌≡◌, List, ◌++◌, length, reverse}
use Rattle.std.specs.List.{AllZip}
use Rattle.vt_part.specs.declared.part.Part.{Part}
use Rattle.vt_rehearse.specs.Crashed.{IsLeftMounted}
use Rattle.vt_rehearse.proofs.crashing.crash_parts.Given as goal

-- the last ones were crashed, the last of all first
abbrev pub invariant-loop-part : goal.invariant-loop-part
invariant-loop-part g l = (done : List (Part g.row.D.Denot)) × (l.parts.items ++ done ≡ l.initial.parts.items)
    × AllZip (IsLeftMounted g.D.Disk g.D.Crashable.leaves l.mode) done (reverse l.left.items)

abbrev pub decreases-loop-part : goal.decreases-loop-part
decreases-loop-part g l = length l.parts.items
