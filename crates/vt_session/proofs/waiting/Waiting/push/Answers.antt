use Rattle.std.proofs.Common.{◌≡◌, ◌+◌, ◌-◌, ◌≤◌, ℕ, List, ◌++◌, length, take, drop, sym, ◌∙◌, ap, arith, length-take, length-drop}
use Rattle.std.specs.List.{copy_within}
use Rattle.std.specs.Vec.{with_items}
use Rattle.std.proofs.lemmas.List.{drop-append-le, drop-take, with_items_is}
use Rattle.std.proofs.lemmas.List.Edits.{take-paste}
use Rattle.vt_session.proofs.waiting.Waiting.push.Goals as goal
use Rattle.vt_session.proofs.waiting.Waiting.push.Goals.{then-self-piece, else-self-piece}

-- moved to the front
moved : (items : List ℕ) (s e : ℕ) → s ≤ e → e ≤ length items
    → take (e - s) (copy_within items s e 0) ≡ drop s (take e items)
moved items s e ordered fits =
    let n : e - s ≡ 0 + (e - s) = omega arith in
    ap (λ k. take k (copy_within items s e 0)) n
    ∙ take-paste items 0 (drop s items) (e - s) (omega arith) (omega (arith, length-drop s items))
    ∙ sym (drop-take s (e - s) items) ∙ ap (λ k. drop s (take k items)) (omega arith)

-- behind what stands up to a place
behind : (start end : ℕ) (buffer new piece : List ℕ) → start ≤ end → end ≤ length buffer
    → take (end + length piece) new ≡ take end buffer ++ piece
    → drop start (take (end + length piece) new) ≡ drop start (take end buffer) ++ piece
behind start end buffer new piece ordered fits written =
    ap (drop start) written
    ∙ drop-append-le start (take end buffer) piece (omega (arith, length-take end buffer))

pub returns : goal.returns
returns c =
    let s = c.self.inside in
    let i = c.if-self-piece.self-inside in
    let kept : (i.start ≤ i.end) × (i.end ≤ length i.buffer.items)
    × (drop i.start (take i.end i.buffer.items) ≡ c.args.self.now) =
    elim c.if-self-piece.branch [
      | then-self-piece w ↦ rw w.self-inside-is (
        omega arith,
        omega (arith, w.copy_within.ensures.len, c.self.invariant.0, c.self.invariant.2),
        ap (λ l. drop 0 (take (s.end - s.start) l)) w.copy_within.ensures.items
            ∙ moved s.buffer.items s.start s.end c.self.invariant.1
            (omega (arith, c.self.invariant.0, c.self.invariant.2)) ∙ c.self.view_is,
      )
      | else-self-piece w ↦ rw w.self-inside-is (
        c.self.invariant.1,
        omega (arith, c.self.invariant.0, c.self.invariant.2),
        c.self.view_is,
      )
    ] in
    let whole : (with_items i.buffer c.put-self-inside.new.buf).items ≡ c.put-self-inside.new.buf =
    with_items_is i.buffer c.put-self-inside.new.buf
    (c.put-self-inside.auto.buf ∙ c.deref_mut.ensures.len) in
    ap (λ l. drop i.start (take c.put-self-inside.result l)) whole
    ∙ ap (λ k. drop i.start (take k c.put-self-inside.new.buf)) c.put-self-inside.ensures.end
    ∙ behind i.start i.end i.buffer.items c.put-self-inside.new.buf c.args.piece.now kept.0 kept.1
    (c.put-self-inside.ensures.written
    ∙ ap (λ b. take i.end b ++ c.args.piece.now) c.deref_mut.ensures.value)
    ∙ ap (λ l. l ++ c.args.piece.now) kept.2
