-- the bytes so far, and no fault
use Rattle.std.proofs.Common.{◌≡◌, ◌++◌, map, take, IsTrue}
use Rattle.std.specs.List.{concat}
use Rattle.run_archives.specs.Skipped.{escaped}
use Rattle.run_archives.proofs.skipped.put_escaped.Given as goal

abbrev pub invariant-loop-byte : goal.invariant-loop-byte
invariant-loop-byte g l = record {
  written : IsTrue g.F.Sink.tells → g.F.Sink.written l.sink
      ≡ g.F.Sink.written l.fn.sink ++ concat (map escaped (take l.byte-index l.path));
  no_fault : g.F.Sink.faults l.sink ≡ g.F.Sink.faults l.fn.sink;
}
