use Rattle.std.proofs.Common.{◌≡◌, ◌-◌, ◌≤◌, ◌++◌, length, take}
use Rattle.std.specs.Prelude.{IsTrue}
use Rattle.run_sessions.proofs.commands.write.fill.Given as goal

-- the front of the buffer was taken
abbrev pub invariant-loop-len : goal.invariant-loop-len
invariant-loop-len g l = record {
  within : l.len ≤ length l.buf;
  taken : IsTrue g.R.Source.tells
      → g.R.Source.left l.fn.source ≡ take l.len l.buf ++ g.R.Source.left l.source;
  quiet : g.R.Source.faults l.source ≡ g.R.Source.faults l.fn.source;
}

abbrev pub decreases-loop-len : goal.decreases-loop-len
decreases-loop-len g l = length l.buf - l.len
