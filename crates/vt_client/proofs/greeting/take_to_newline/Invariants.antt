use Rattle.std.proofs.Common.{◌≡◌, ◌≢◌, ◌-◌, ◌≤◌, [], length, take}
use Rattle.std.specs.Prelude.{IsTrue}
use Rattle.std.specs.List.{All}
use Rattle.vt_client.specs.Exchanges.{MovesBytes, traffic_of}
use Rattle.vt_client.proofs.greeting.take_to_newline.Given as goal

-- the front of the buffer was taken, and has no newline
abbrev pub invariant-loop-n : goal.invariant-loop-n
invariant-loop-n g l = record {
  within : l.n ≤ 1024;
  plain : All (λ b. b ≢ 10) (take l.n l.buf);
  moves : IsTrue g.L.Link.tells
      → MovesBytes (traffic_of g.L.Link l.fn.link) (traffic_of g.L.Link l.link) [] (take l.n l.buf);
  reads : g.L.Link.read_faults l.link ≡ g.L.Link.read_faults l.fn.link;
  writes : g.L.Link.write_faults l.link ≡ g.L.Link.write_faults l.fn.link;
}

abbrev pub decreases-loop-n : goal.decreases-loop-n
decreases-loop-n g l = 1024 - l.n
