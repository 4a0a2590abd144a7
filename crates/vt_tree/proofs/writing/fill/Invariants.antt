use Rattle.std.proofs.Common.{◌≡◌, ◌-◌, ◌≤◌, length, take}
use Rattle.vt_tree.specs.Writing.{IsTaken}
use Rattle.vt_tree.proofs.writing.fill.Given as goal

-- the front of the buffer was taken of the source
abbrev pub invariant-loop-n : goal.invariant-loop-n
invariant-loop-n g l = record {
  within : l.n ≤ length l.buf;
  taken : IsTaken g.R.Source.tells (g.R.Source.left l.fn.source) (g.R.Source.left l.source)
      (take l.n l.buf);
  faults : g.R.Source.faults l.source ≡ g.R.Source.faults l.fn.source;
  kept : g.R.Source.kept l.source ≡ g.R.Source.kept l.fn.source;
}

abbrev pub decreases-loop-n : goal.decreases-loop-n
decreases-loop-n g l = length l.buf - l.n
