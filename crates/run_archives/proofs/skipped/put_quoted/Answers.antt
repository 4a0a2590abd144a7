-- the bytes between two quotes
use Rattle.std.proofs.Common.{◌++◌, [], ◌∷◌, List, ℕ, map}
use Rattle.std.specs.List.{concat}
use Rattle.std.proofs.lemmas.Result.{on_err_weaker, on_ok_weaker}
use Rattle.vt_disk.proofs.Calls.{on_err}
use Rattle.run_archives.specs.Skipped.{escaped}
use Rattle.run_archives.proofs.PutBehind.{front_first, front_then, whole_then}
use Rattle.run_archives.proofs.skipped.put_quoted.Goals as goal

pub returns-in_err-put-clause-failed : goal.returns-in_err-put-clause-failed
returns-in_err-put-clause-failed g c = on_err c.from_residual.result (λ tells.
    front_first (g.F.Sink.written c.args.sink.now) (g.F.Sink.written c.put.new.self) (34 ∷ [])
    (concat (map escaped c.args.path.now) ++ 34 ∷ []) (c.in_err-put.ensures.failed tells))

pub returns-in_err-put_escaped-clause-failed : goal.returns-in_err-put_escaped-clause-failed
returns-in_err-put_escaped-clause-failed g c = on_err c.from_residual-in_err-put_escaped.result (λ tells.
    let written = g.F.Sink.written in
    let old = written c.args.sink.now in
    let one = written c.put.new.self in
    let new = written c.put_escaped.new.sink in
    let inside = concat (map escaped c.args.path.now) in
    front_then old one new (34 ∷ []) (inside ++ 34 ∷ []) (c.in_ok-put.ensures.appended tells)
    (front_first one new inside (34 ∷ []) (c.in_err-put_escaped.ensures.failed tells)))

pub returns-clause-appended : goal.returns-clause-appended
returns-clause-appended g c = on_ok_weaker c.put-2.result (λ appended tells.
    let written = g.F.Sink.written in
    let old = written c.args.sink.now in
    let one = written c.put.new.self in
    let two = written c.put_escaped.new.sink in
    let new = written c.put-2.new.self in
    let inside = concat (map escaped c.args.path.now) in
    whole_then old one new (34 ∷ []) (inside ++ 34 ∷ []) (c.in_ok-put.ensures.appended tells)
    (whole_then one two new inside (34 ∷ []) (c.in_ok-put_escaped.ensures.appended tells)
    (appended tells))) c.put-2.ensures.appended

pub returns-clause-failed : goal.returns-clause-failed
returns-clause-failed g c = on_err_weaker c.put-2.result (λ failed tells.
    let written = g.F.Sink.written in
    let old = written c.args.sink.now in
    let one = written c.put.new.self in
    let two = written c.put_escaped.new.sink in
    let new = written c.put-2.new.self in
    let inside = concat (map escaped c.args.path.now) in
    front_then old one new (34 ∷ []) (inside ++ 34 ∷ []) (c.in_ok-put.ensures.appended tells)
    (front_then one two new inside (34 ∷ []) (c.in_ok-put_escaped.ensures.appended tells)
    (failed tells))) c.put-2.ensures.failed
