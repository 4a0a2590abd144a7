-- the pieces of a line, one behind another
use Rattle.std.proofs.Common.{◌++◌, [], ◌∷◌, List, ℕ, codes}
use Rattle.std.proofs.lemmas.Result.{on_err_weaker, on_ok_weaker}
use Rattle.vt_disk.proofs.Calls.{on_err}
use Rattle.run_archives.specs.Skipped.{quoted}
use Rattle.run_archives.proofs.PutBehind.{front_first, front_then, whole_then}
use Rattle.run_archives.proofs.skipped.tell_path.Goals as goal

pub returns-in_err-put-clause-failed : goal.returns-in_err-put-clause-failed
returns-in_err-put-clause-failed g c = on_err c.from_residual.result (λ tells.
    front_first (g.F.Sink.written c.args.sink.now) (g.F.Sink.written c.put.new.self) (codes "venti: ")
    (c.args.words.now ++ (quoted c.args.path.now ++ 10 ∷ [])) (c.in_err-put.ensures.failed tells))

pub returns-in_err-put-2-clause-failed : goal.returns-in_err-put-2-clause-failed
returns-in_err-put-2-clause-failed g c = on_err c.from_residual-in_err-put-2.result (λ tells.
    let written = g.F.Sink.written in
    let old = written c.args.sink.now in
    let one = written c.put.new.self in
    let new = written c.put-2.new.self in
    let rest : List ℕ = quoted c.args.path.now ++ 10 ∷ [] in
    front_then old one new (codes "venti: ") (c.args.words.now ++ rest)
    (c.in_ok-put.ensures.appended tells)
    (front_first one new c.args.words.now rest (c.in_err-put-2.ensures.failed tells)))

pub returns-in_err-put_path-clause-failed : goal.returns-in_err-put_path-clause-failed
returns-in_err-put_path-clause-failed g c = on_err c.from_residual-in_err-put_path.result (λ tells.
    let written = g.F.Sink.written in
    let old = written c.args.sink.now in
    let one = written c.put.new.self in
    let two = written c.put-2.new.self in
    let new = written c.put_path.new.sink in
    let path = quoted c.args.path.now in
    front_then old one new (codes "venti: ") (c.args.words.now ++ (path ++ 10 ∷ []))
    (c.in_ok-put.ensures.appended tells)
    (front_then one two new c.args.words.now (path ++ 10 ∷ []) (c.in_ok-put-2.ensures.appended tells)
    (front_first two new path (10 ∷ []) (c.in_err-put_path.ensures.failed tells))))

pub returns-clause-appended : goal.returns-clause-appended
returns-clause-appended g c = on_ok_weaker c.put-3.result (λ appended tells.
    let written = g.F.Sink.written in
    let old = written c.args.sink.now in
    let one = written c.put.new.self in
    let two = written c.put-2.new.self in
    let three = written c.put_path.new.sink in
    let new = written c.put-3.new.self in
    let path = quoted c.args.path.now in
    whole_then old one new (codes "venti: ") (c.args.words.now ++ (path ++ 10 ∷ []))
    (c.in_ok-put.ensures.appended tells)
    (whole_then one two new c.args.words.now (path ++ 10 ∷ []) (c.in_ok-put-2.ensures.appended tells)
    (whole_then two three new path (10 ∷ []) (c.in_ok-put_path.ensures.appended tells)
    (appended tells)))) c.put-3.ensures.appended

pub returns-clause-failed : goal.returns-clause-failed
returns-clause-failed g c = on_err_weaker c.put-3.result (λ failed tells.
    let written = g.F.Sink.written in
    let old = written c.args.sink.now in
    let one = written c.put.new.self in
    let two = written c.put-2.new.self in
    let three = written c.put_path.new.sink in
    let new = written c.put-3.new.self in
    let path = quoted c.args.path.now in
    front_then old one new (codes "venti: ") (c.args.words.now ++ (path ++ 10 ∷ []))
    (c.in_ok-put.ensures.appended tells)
    (front_then one two new c.args.words.now (path ++ 10 ∷ []) (c.in_ok-put-2.ensures.appended tells)
    (front_then two three new path (10 ∷ []) (c.in_ok-put_path.ensures.appended tells)
    (failed tells)))) c.put-3.ensures.failed
