use Rattle.std.proofs.Common.{◌≡◌, ◌+◌, ◌-◌, ◌≤◌, ◌++◌, length, take}
use Rattle.std.specs.Prelude.{IsTrue}
use Rattle.vt_session.specs.Talk.{spent_len}
use Rattle.nine_view.proofs.serving.fill.Given as goal

-- the front of the buffer was taken
abbrev pub invariant-loop-have : goal.invariant-loop-have
invariant-loop-have g l = record {
  within : l.have ≤ length l.buf;
  given : IsTrue g.L.Link.tells
      → g.L.Link.given l.link ≡ g.L.Link.given l.fn.link ++ take l.have l.buf;
  taken : l.taken ≡ l.fn.taken + l.have;
  most : l.taken ≤ spent_len;
  written : IsTrue g.L.Link.tells → g.L.Link.written l.link ≡ g.L.Link.written l.fn.link;
  reads : g.L.Link.read_faults l.link ≡ g.L.Link.read_faults l.fn.link;
  writes : g.L.Link.write_faults l.link ≡ g.L.Link.write_faults l.fn.link;
}

abbrev pub decreases-loop-have : goal.decreases-loop-have
decreases-loop-have g l = length l.initial.buf - l.have
