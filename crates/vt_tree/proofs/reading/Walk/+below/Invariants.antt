use Rattle.std.proofs.Common.{◌+◌, ◌-◌, ◌*◌}
use Rattle.vt_tree.proofs.Passing.{SoFar}
use Rattle.vt_tree.proofs.reading.Walk.+below.Given as goal

abbrev pub decreases-append_below : goal.decreases-append_below
decreases-append_below g l = 3 * l.depth + 2

abbrev pub decreases-append_each : goal.decreases-append_each
decreases-append_each g l = 3 * l.depth + 1

abbrev pub decreases-append_at : goal.decreases-append_at
decreases-append_at g l = 3 * l.depth

-- what was read so far
abbrev pub invariant-append_each-loop-left : goal.invariant-append_each-loop-left
invariant-append_each-loop-left g l =
    SoFar g.B.Blocks.does g.B.Scorer.score_of l.self.entry.now (l.depth - 1) l.pointers l.fn.from
    l.fn.len l.fn.blocks l.blocks l.at l.left l.fn.out.items l.out.items

abbrev pub decreases-append_each-loop-left : goal.decreases-append_each-loop-left
decreases-append_each-loop-left g l = l.left
