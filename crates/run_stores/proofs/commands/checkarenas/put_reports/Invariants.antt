-- the lines so far, and no fault
use Rattle.std.proofs.Common.{◌≡◌, ◌++◌, take, IsTrue}
use Rattle.run_stores.specs.Checkarenas.{arena_lines}
use Rattle.run_stores.proofs.commands.checkarenas.put_reports.Given as goal

abbrev pub invariant-loop-report : goal.invariant-loop-report
invariant-loop-report g l = record {
  written : IsTrue g.K.Sink.tells → g.K.Sink.written l.sink
      ≡ g.K.Sink.written l.fn.sink ++ arena_lines (take l.report-index l.reports);
  no_fault : g.K.Sink.faults l.sink ≡ g.K.Sink.faults l.fn.sink;
}
