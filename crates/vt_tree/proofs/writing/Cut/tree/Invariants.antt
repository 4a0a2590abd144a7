use Rattle.std.proofs.Common.{◌≡◌, ◌-◌}
use Rattle.vt_tree.specs.Growing.{IsReadyToWrite, next_of, shape_of}
use Rattle.vt_tree.proofs.Whole.{Grown}
use Rattle.vt_tree.proofs.writing.Cut.tree.Given as goal

-- what was written so far is one tree
abbrev pub invariant-loop-ahead : goal.invariant-loop-ahead
invariant-loop-ahead g l = record {
  grown : Grown g.B.Blocks.does g.B.Scorer.score_of (shape_of l.self) g.R.Source.tells l.fn.blocks
      (next_of l.fn.ahead) l.blocks (next_of l.ahead) (g.R.Source.left l.fn.source)
      (g.R.Source.left l.source) l.depth l.score;
  ready : IsReadyToWrite g.B.Scorer.score_of l.self l.ahead g.R.Source.tells (g.R.Source.left l.source);
  faults : g.R.Source.faults l.source ≡ g.R.Source.faults l.fn.source;
  kept : g.R.Source.kept l.source ≡ g.R.Source.kept l.fn.source;
}

abbrev pub decreases-loop-ahead : goal.decreases-loop-ahead
decreases-loop-ahead g l = 8 - l.depth
