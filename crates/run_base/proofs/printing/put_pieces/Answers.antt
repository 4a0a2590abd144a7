-- the pieces before one that failed, and a front of that
use Rattle.std.proofs.Common.{◌++◌, map, take, List, [], ℕ, Bor, sym, ◌∙◌, ap, subst, append_assoc, get_or}
use Rattle.std.specs.List.{concat}
use Rattle.vt_out.specs.Streams.{AppendsPrefix}
use Rattle.vt_disk.proofs.Calls.{on_err}
use Rattle.run_base.proofs.Puts.{front_behind, around, one_more}
use Rattle.run_base.proofs.printing.put_pieces.Goals as goal

abbrev text_of : Bor (List ℕ) → List ℕ
text_of piece = piece.now

abbrev nothing : Bor (List ℕ)
nothing = record { ref_ptr = (0, 0); now = [] }

pub returns-in_err-put-clause-failed : goal.returns-in_err-put-clause-failed
returns-in_err-put-clause-failed g c = on_err c.from_residual.result (λ tells.
    let pieces = c.args.pieces.now in
    let i = c.loop-piece.piece-index in
    let old = g.K.Sink.written c.args.sink.now in
    let new = g.K.Sink.written c.put.new.self in
    let before = concat (map text_of (take i pieces)) in
    let parts = around text_of pieces i nothing c.loop-piece-test.true in
    let front = subst (λ (w : List ℕ). AppendsPrefix w new (text_of (get_or pieces i nothing))) (c.loop-piece.invariant.written tells)
    (c.in_err-put.ensures.failed tells) in
    subst (AppendsPrefix old new) (sym parts.1)
    (front_behind old before (text_of (get_or pieces i nothing)) parts.0 new front))

pub loop-piece-preserved : goal.loop-piece-preserved
loop-piece-preserved g c =
    let pieces = c.args.pieces.now in
    let i = c.loop-piece.piece-index in
    let old = g.K.Sink.written c.args.sink.now in
    let before = concat (map text_of (take i pieces)) in
    let piece = text_of (get_or pieces i nothing) in
    record {
      written = λ tells.
          c.in_ok-put.ensures.appended tells
          ∙ ap (λ (w : List ℕ). w ++ piece) (c.loop-piece.invariant.written tells)
          ∙ append_assoc old before piece
          ∙ ap (λ (w : List ℕ). old ++ w) (sym (one_more text_of pieces i nothing c.loop-piece-test.true));
      no_fault = c.in_ok-put.ensures.cause ∙ c.loop-piece.invariant.no_fault;
    }
