-- what was put before, and a front of what failed
use Rattle.std.proofs.Common.{◌++◌, [], ◌∷◌, codes, map, List, ℕ, Bor, Result, Ok, Err, sym, ◌∙◌, ap, subst, append_assoc, append-nil}
use Rattle.std.specs.Prelude.{OnErr}
use Rattle.std.specs.List.{concat}
use Rattle.vt_disk.proofs.Calls.{on_err}
use Rattle.vt_out.specs.Streams.{AppendsPrefix}
use Rattle.run_base.proofs.Puts.{front_behind}
use Rattle.run_base.proofs.complaint.put_line.Goals as goal

abbrev text_of : List (Bor (List ℕ)) → List ℕ
text_of pieces = concat (map (λ (piece : Bor (List ℕ)). piece.now) pieces)

err_map : {T E X Y : Type 0} (r : Result T E) → (X → Y) → OnErr r X → OnErr r Y
err_map (Ok made) f x = tt
err_map (Err bad) f x = f x

pub returns-in_err-put-clause-failed : goal.returns-in_err-put-clause-failed
returns-in_err-put-clause-failed g c = on_err c.from_residual.result (λ tells.
    let old = g.F.Sink.written c.args.sink.now in
    let new = g.F.Sink.written c.put.new.self in
    front_behind old [] (codes "venti: ") (text_of c.args.pieces.now ++ 10 ∷ []) new
    (subst (λ (w : List ℕ). AppendsPrefix w new (codes "venti: ")) (sym (append-nil old)) (c.in_err-put.ensures.failed tells)))

pub returns-in_err-put_pieces-clause-failed : goal.returns-in_err-put_pieces-clause-failed
returns-in_err-put_pieces-clause-failed g c = on_err c.from_residual-in_err-put_pieces.result (λ tells.
    let old = g.F.Sink.written c.args.sink.now in
    let new = g.F.Sink.written c.put_pieces.new.sink in
    let text = text_of c.args.pieces.now in
    front_behind old (codes "venti: ") text (10 ∷ []) new
    (subst (λ (w : List ℕ). AppendsPrefix w new text) (c.in_ok-put.ensures.appended tells) (c.in_err-put_pieces.ensures.failed tells)))

pub returns-clause-failed : goal.returns-clause-failed
returns-clause-failed g c =
    let old = g.F.Sink.written c.args.sink.now in
    let new = g.F.Sink.written c.put-2.new.self in
    let text = text_of c.args.pieces.now in
    err_map c.put-2.result (λ fails tells.
    let before = c.in_ok-put_pieces.ensures.appended tells ∙ ap (λ (w : List ℕ). w ++ text) (c.in_ok-put.ensures.appended tells)
    ∙ append_assoc old (codes "venti: ") text in
    front_behind old (codes "venti: " ++ text) (10 ∷ []) [] new
    (subst (λ (w : List ℕ). AppendsPrefix w new (10 ∷ [])) before (fails tells)))
    c.put-2.ensures.failed
