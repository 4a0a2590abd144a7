use Rattle.vt_check.proofs.Following.{IsCutting}
use Rattle.vt_check.proofs.clumps.cut_all.Given as goal

-- the entries from `left` on have their cuts
abbrev pub invariant-loop-left : goal.invariant-loop-left
invariant-loop-left l = IsCutting l.version l.bytes l.more l.entries l.own l.count l.start l.left l.cuts.items

abbrev pub decreases-loop-left : goal.decreases-loop-left
decreases-loop-left l = l.left
