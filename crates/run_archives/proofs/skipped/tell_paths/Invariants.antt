-- the lines so far, and no fault
use Rattle.std.proofs.Common.{◌≡◌, ◌++◌, take, IsTrue}
use Rattle.run_archives.specs.Skipped.{path_lines}
use Rattle.run_archives.proofs.skipped.tell_paths.Given as goal

abbrev pub invariant-loop-path : goal.invariant-loop-path
invariant-loop-path g l = record {
  written : IsTrue g.F.Sink.tells → g.F.Sink.written l.sink
      ≡ g.F.Sink.written l.fn.sink ++ path_lines l.words (take l.path-index l.paths);
  no_fault : g.F.Sink.faults l.sink ≡ g.F.Sink.faults l.fn.sink;
}
