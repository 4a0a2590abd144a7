use Rattle.std.proofs.Common.{◌≡◌, ◌-◌, ◌≤◌, [], length, take}
use Rattle.std.specs.Prelude.{IsTrue}
use Rattle.vt_client.specs.Exchanges.{MovesBytes, traffic_of}
use Rattle.vt_client.proofs.exchange.take_all.Given as goal

-- the front of the buffer was taken
abbrev pub invariant-loop-n : goal.invariant-loop-n
invariant-loop-n g l = record {
  within : l.n ≤ length l.buf;
  moves : IsTrue g.L.Link.tells
      → MovesBytes (traffic_of g.L.Link l.fn.link) (traffic_of g.L.Link l.link) [] (take l.n l.buf);
  reads : g.L.Link.read_faults l.link ≡ g.L.Link.read_faults l.fn.link;
  writes : g.L.Link.write_faults l.link ≡ g.L.Link.write_faults l.fn.link;
}

abbrev pub decreases-loop-n : goal.decreases-loop-n
decreases-loop-n g l = length l.buf - l.n
