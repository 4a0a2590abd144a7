-- the lines before one that failed, and a front of that
use Rattle.std.proofs.Common.{◌++◌, take, List, ℕ, sym, ◌∙◌, ap, subst, append_assoc, get_or}
use Rattle.vt_disk.proofs.Calls.{on_err}
use Rattle.vt_out.specs.Streams.{AppendsPrefix}
use Rattle.run_archives.specs.Skipped.{path_line, path_lines}
use Rattle.run_base.proofs.Puts.{front_behind, around, one_more}
use Rattle.run_archives.proofs.skipped.tell_paths.Goals as goal

pub returns-in_err-tell_path-clause-failed : goal.returns-in_err-tell_path-clause-failed
returns-in_err-tell_path-clause-failed g c = on_err c.from_residual.result (λ tells.
    let paths = c.args.paths.now in
    let words = c.args.words.now in
    let i = c.loop-path.path-index in
    let old = g.F.Sink.written c.args.sink.now in
    let new = g.F.Sink.written c.tell_path.new.sink in
    let before = path_lines words (take i paths) in
    let parts = around (path_line words) paths i c.path-item.result c.loop-path-test.true in
    let p = c.path-item.result in
    let failed = subst (λ (q : List ℕ). AppendsPrefix (g.F.Sink.written c.loop-path.sink) new
    (path_line words q))
    (c.as_slice.ensures ∙ c.path-item.is) (c.in_err-tell_path.ensures.failed tells) in
    let front = subst (λ (w : List ℕ). AppendsPrefix w new (path_line words (get_or paths i p)))
    (c.loop-path.invariant.written tells) failed in
    subst (AppendsPrefix old new) (sym parts.1)
    (front_behind old before (path_line words (get_or paths i p)) parts.0 new front))

pub loop-path-preserved : goal.loop-path-preserved
loop-path-preserved g c =
    let paths = c.args.paths.now in
    let words = c.args.words.now in
    let i = c.loop-path.path-index in
    let old = g.F.Sink.written c.args.sink.now in
    let before = path_lines words (take i paths) in
    let p = c.path-item.result in
    let line = path_line words (get_or paths i p) in
    record {
      written = λ tells.
          c.in_ok-tell_path.ensures.appended tells
          ∙ ap (λ (q : List ℕ). g.F.Sink.written c.loop-path.sink ++ path_line words q)
          (c.as_slice.ensures ∙ c.path-item.is)
          ∙ ap (λ (w : List ℕ). w ++ line) (c.loop-path.invariant.written tells)
          ∙ append_assoc old before line
          ∙ ap (λ (w : List ℕ). old ++ w)
          (sym (one_more (path_line words) paths i p c.loop-path-test.true));
      no_fault = c.in_ok-tell_path.ensures.cause ∙ c.loop-path.invariant.no_fault;
    }
