use Rattle.std.proofs.Common.{◌≡◌, ◌+◌, ◌-◌, ◌*◌, length}
use Rattle.vt_tree.specs.Content.{scores_in}
use Rattle.vt_tree.proofs.Rows.{Row}
use Rattle.vt_tree.proofs.writing.Cut.+subtree.Given as goal

abbrev pub decreases-subtree : goal.decreases-subtree
decreases-subtree g l = 2 * l.depth + 1

abbrev pub decreases-above : goal.decreases-above
decreases-above g l = 2 * l.depth

-- what was written so far
abbrev pub invariant-above-loop-ahead : goal.invariant-above-loop-ahead
invariant-above-loop-ahead g l = record {
  row : Row g.B.Blocks.does g.B.Scorer.score_of l.self g.R.Source.tells (l.depth - 1) l.fn.blocks
      l.blocks l.fn.ahead l.ahead (g.R.Source.left l.fn.source) (g.R.Source.left l.source) l.first
      l.scores.items (g.R.Source.faults l.fn.source) (g.R.Source.faults l.source);
  kept : g.R.Source.kept l.source ≡ g.R.Source.kept l.fn.source;
}

abbrev pub decreases-above-loop-ahead : goal.decreases-above-loop-ahead
decreases-above-loop-ahead g l = scores_in l.self.psize - length l.scores.items
