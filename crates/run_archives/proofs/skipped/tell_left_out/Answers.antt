-- the lines of what was skipped, and then those of what couldn't be read
use Rattle.std.proofs.Common.{◌++◌, [], List, ℕ, codes, sym, ◌∙◌, ap, subst, append_assoc, append-nil}
use Rattle.std.proofs.lemmas.Result.{on_err_weaker, on_ok_weaker}
use Rattle.vt_disk.proofs.Calls.{on_err}
use Rattle.vt_out.specs.Streams.{AppendsPrefix}
use Rattle.run_archives.specs.Skipped.{path_lines}
use Rattle.run_base.proofs.Puts.{front_behind}
use Rattle.run_archives.proofs.skipped.tell_left_out.Goals as goal

pub returns-in_err-tell_paths-clause-failed : goal.returns-in_err-tell_paths-clause-failed
returns-in_err-tell_paths-clause-failed g c = on_err c.from_residual.result (λ tells.
    let old = g.F.Sink.written c.args.sink.now in
    let new = g.F.Sink.written c.tell_paths.new.sink in
    let first = path_lines (codes "skipped ") c.args.archived.now.skipped in
    let rest = path_lines (codes "can't read ") c.args.archived.now.failed in
    front_behind old [] first rest new
    (subst (λ (w : List ℕ). AppendsPrefix w new first) (sym (append-nil old))
    (subst (λ (p : List (List ℕ)). AppendsPrefix old new (path_lines (codes "skipped ") p))
    c.as_slice.ensures (c.in_err-tell_paths.ensures.failed tells))))

pub returns-clause-appended : goal.returns-clause-appended
returns-clause-appended g c = on_ok_weaker c.tell_paths-2.result (λ appended tells.
    let old = g.F.Sink.written c.args.sink.now in
    let mid = g.F.Sink.written c.tell_paths.new.sink in
    let first = path_lines (codes "skipped ") c.args.archived.now.skipped in
    let rest = path_lines (codes "can't read ") c.args.archived.now.failed in
    appended tells
    ∙ ap (λ (p : List (List ℕ)). mid ++ path_lines (codes "can't read ") p) c.as_slice-2.ensures
    ∙ ap (λ (w : List ℕ). w ++ rest) (c.in_ok-tell_paths.ensures.appended tells
    ∙ ap (λ (p : List (List ℕ)). old ++ path_lines (codes "skipped ") p) c.as_slice.ensures)
    ∙ append_assoc old first rest) c.tell_paths-2.ensures.appended

pub returns-clause-failed : goal.returns-clause-failed
returns-clause-failed g c = on_err_weaker c.tell_paths-2.result (λ failed tells.
    let old = g.F.Sink.written c.args.sink.now in
    let mid = g.F.Sink.written c.tell_paths.new.sink in
    let new = g.F.Sink.written c.tell_paths-2.new.sink in
    let first = path_lines (codes "skipped ") c.args.archived.now.skipped in
    let rest = path_lines (codes "can't read ") c.args.archived.now.failed in
    let part = subst (λ (p : List (List ℕ)). AppendsPrefix mid new (path_lines (codes "can't read ") p))
    c.as_slice-2.ensures (failed tells) in
    let front = front_behind old first rest [] new (subst (λ (w : List ℕ). AppendsPrefix w new rest)
    (c.in_ok-tell_paths.ensures.appended tells
    ∙ ap (λ (p : List (List ℕ)). old ++ path_lines (codes "skipped ") p) c.as_slice.ensures) part) in
    subst (λ (l : List ℕ). AppendsPrefix old new (first ++ l)) (append-nil rest) front)
    c.tell_paths-2.ensures.failed
