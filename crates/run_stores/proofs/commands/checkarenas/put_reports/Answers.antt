-- the lines before one that failed, and a front of that
use Rattle.std.proofs.Common.{◌≡◌, ◌++◌, ◌<◌, ◌+◌, false, None, take, length, List, ℕ, sym, ◌∙◌, ap, subst, append_assoc, get_or}
use Rattle.vt_check.specs.declared.checking.ArenaReport.{ArenaReport}
use Rattle.vt_disk.proofs.Calls.{on_err}
use Rattle.vt_out.specs.Streams.{AppendsPrefix}
use Rattle.run_stores.specs.Checkarenas.{arena_line, arena_lines}
use Rattle.run_base.proofs.Puts.{front_behind, around, one_more}
use Rattle.run_stores.proofs.commands.checkarenas.put_reports.Goals as goal

abbrev blank : ArenaReport
blank = record { number = 0; clumps = 0; used = 0; sealed = false; damage = None }

abbrev report_at : List ArenaReport → ℕ → ArenaReport
report_at reports i = get_or reports i blank

front_at : (reports : List ArenaReport) (i : ℕ) → i < length reports → (old written new : List ℕ)
    → written ≡ old ++ arena_lines (take i reports)
    → AppendsPrefix written new (arena_line (report_at reports i))
    → AppendsPrefix old new (arena_lines reports)
front_at reports i less old written new is failed =
    let line = arena_line (report_at reports i) in
    let parts = around arena_line reports i blank less in
    let front = subst (λ (w : List ℕ). AppendsPrefix w new line) is failed in
    subst (AppendsPrefix old new) (sym parts.1)
    (front_behind old (arena_lines (take i reports)) line parts.0 new front)

line_at : (reports : List ArenaReport) (i : ℕ) → i < length reports → (old written new : List ℕ)
    → written ≡ old ++ arena_lines (take i reports)
    → new ≡ written ++ arena_line (report_at reports i)
    → new ≡ old ++ arena_lines (take (i + 1) reports)
line_at reports i less old written new is appended =
    let line = arena_line (report_at reports i) in
    appended ∙ ap (λ (w : List ℕ). w ++ line) is
    ∙ append_assoc old (arena_lines (take i reports)) line
    ∙ ap (λ (w : List ℕ). old ++ w) (sym (one_more arena_line reports i blank less))

pub returns-in_err-put_report-clause-failed : goal.returns-in_err-put_report-clause-failed
returns-in_err-put_report-clause-failed g c = on_err c.from_residual.result (λ tells.
    front_at c.args.reports.now c.loop-report.report-index c.loop-report-test.true
    (g.K.Sink.written c.args.sink.now) (g.K.Sink.written c.loop-report.sink)
    (g.K.Sink.written c.put_report.new.sink) (c.loop-report.invariant.written tells)
    (c.in_err-put_report.ensures.failed tells))

pub loop-report-preserved : goal.loop-report-preserved
loop-report-preserved g c = record {
  written = λ tells.
      line_at c.args.reports.now c.loop-report.report-index c.loop-report-test.true
      (g.K.Sink.written c.args.sink.now) (g.K.Sink.written c.loop-report.sink)
      (g.K.Sink.written c.put_report.new.sink) (c.loop-report.invariant.written tells)
      (c.in_ok-put_report.ensures.appended tells);
  no_fault = c.in_ok-put_report.ensures.cause ∙ c.loop-report.invariant.no_fault;
}
