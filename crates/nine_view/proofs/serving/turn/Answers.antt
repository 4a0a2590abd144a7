use Rattle.std.proofs.Common.{◌≡◌, ◌≤◌, ◌++◌, ℕ, Ok, Err, List, length, take, drop, sym, ◌∙◌, ap, subst, arith}
use Rattle.std.specs.Prelude.{IsTrue}
use Rattle.std.proofs.lemmas.List.{take-append-le, take_all}
use Rattle.std.proofs.lemmas.Result.{err_from_is_err_and}
use Rattle.nine_view.specs.Hearing.{HearsMessage}
use Rattle.nine_view.specs.Known.{limit}
use Rattle.nine_view.specs.Replies.{IsMessage, AnswersMessage}
use Rattle.nine_view.proofs.Turning.{not_written, replied_in_part, replied_to, unheard}
use Rattle.nine_view.proofs.serving.turn.Goals as goal

pub returns-in_err-len-clause-turns : goal.returns-in_err-len-clause-turns
returns-in_err-len-clause-turns g c =
    let p = err_from_is_err_and c.from_residual.result c.from_residual.ensures.1 in
    let so : HearsMessage (IsTrue g.L.Link.tells) (g.L.Link.given c.args.link.now) (g.L.Link.given c.hear.new.link)
    (g.L.Link.left c.hear.new.link) (limit c.args.view.now) c.args.served.now.taken c.hear.new.taken
    c.hear.new.message (Err c.in_err-len.field-0.0) =
    subst (λ (n : ℕ). HearsMessage (IsTrue g.L.Link.tells) (g.L.Link.given c.args.link.now)
    (g.L.Link.given c.hear.new.link) (g.L.Link.left c.hear.new.link) n c.args.served.now.taken c.hear.new.taken
    c.hear.new.message (Err c.in_err-len.field-0.0)) c.limit.ensures.is c.in_err-len.ensures.hears in
    rw (p.1, p.2) (unheard g.B.Blocks.does g.B.Blocks.holds g.B.Scorer.score_of
    c.args.blocks.now c.args.view.now (IsTrue g.L.Link.tells) (g.L.Link.given c.args.link.now)
    (g.L.Link.given c.hear.new.link) (g.L.Link.written c.args.link.now) (g.L.Link.written c.hear.new.link)
    (g.L.Link.left c.hear.new.link) c.args.served.now.taken c.hear.new.taken c.args.served.now.failure
    c.hear.new.message c.in_err-len.field-0.0 so c.in_err-len.ensures.written)

pub returns-in_err-len-clause-writes : goal.returns-in_err-len-clause-writes
returns-in_err-len-clause-writes g c =
    let p = err_from_is_err_and c.from_residual.result c.from_residual.ensures.1 in
    let so : HearsMessage (IsTrue g.L.Link.tells) (g.L.Link.given c.args.link.now) (g.L.Link.given c.hear.new.link)
    (g.L.Link.left c.hear.new.link) (limit c.args.view.now) c.args.served.now.taken c.hear.new.taken
    c.hear.new.message (Err c.in_err-len.field-0.0) =
    subst (λ (n : ℕ). HearsMessage (IsTrue g.L.Link.tells) (g.L.Link.given c.args.link.now)
    (g.L.Link.given c.hear.new.link) (g.L.Link.left c.hear.new.link) n c.args.served.now.taken c.hear.new.taken
    c.hear.new.message (Err c.in_err-len.field-0.0)) c.limit.ensures.is c.in_err-len.ensures.hears in
    rw (p.1, p.2) (not_written c.in_err-len.field-0.0 (g.L.Link.write_faults c.args.link.now)
    (g.L.Link.write_faults c.hear.new.link) so.hears.1 c.in_err-len.ensures.writes)

pub returns-in_err-len-clause-memory : goal.returns-in_err-len-clause-memory
returns-in_err-len-clause-memory g c =
    let p = err_from_is_err_and c.from_residual.result c.from_residual.ensures.1 in
    let so : HearsMessage (IsTrue g.L.Link.tells) (g.L.Link.given c.args.link.now) (g.L.Link.given c.hear.new.link)
    (g.L.Link.left c.hear.new.link) (limit c.args.view.now) c.args.served.now.taken c.hear.new.taken
    c.hear.new.message (Err c.in_err-len.field-0.0) =
    subst (λ (n : ℕ). HearsMessage (IsTrue g.L.Link.tells) (g.L.Link.given c.args.link.now)
    (g.L.Link.given c.hear.new.link) (g.L.Link.left c.hear.new.link) n c.args.served.now.taken c.hear.new.taken
    c.hear.new.message (Err c.in_err-len.field-0.0)) c.limit.ensures.is c.in_err-len.ensures.hears in
    rw (p.1, p.2) so.hears.2

pub answer-answered-requires-clause-whole : goal.answer-answered-requires-clause-whole
answer-answered-requires-clause-whole g c =
    let so : HearsMessage (IsTrue g.L.Link.tells) (g.L.Link.given c.args.link.now) (g.L.Link.given c.hear.new.link)
    (g.L.Link.left c.hear.new.link) (limit c.args.view.now) c.args.served.now.taken c.hear.new.taken
    c.hear.new.message (Ok c.in_ok-len.len) =
    subst (λ (n : ℕ). HearsMessage (IsTrue g.L.Link.tells) (g.L.Link.given c.args.link.now)
    (g.L.Link.given c.hear.new.link) (g.L.Link.left c.hear.new.link) n c.args.served.now.taken c.hear.new.taken
    c.hear.new.message (Ok c.in_ok-len.len)) c.limit.ensures.is c.in_ok-len.ensures.hears in
    let new : List ℕ = c.hear.new.message in
    let old = c.args.buffers.now.message in
    let counted : length new ≡ old.len = c.hear.auto.message ∙ c.deref_mut.ensures.len in
    let whole : take old.len (new ++ drop (length new) old.items) ≡ new =
    take-append-le old.len new (drop (length new) old.items) (omega (arith, counted))
    ∙ take_all old.len new (omega (arith, counted)) in
    let message_is : take c.in_ok-len.len c.deref.result.now ≡ so.came =
    ap (λ (l : List ℕ). take c.in_ok-len.len l) (c.deref.ensures.value ∙ whole) ∙ so.hears.0 in
    subst IsMessage (sym message_is) so.hears.3

pub returns-in-Ok-clause-turns : goal.returns-in-Ok-clause-turns
returns-in-Ok-clause-turns g c =
    let so : HearsMessage (IsTrue g.L.Link.tells) (g.L.Link.given c.args.link.now) (g.L.Link.given c.hear.new.link)
    (g.L.Link.left c.hear.new.link) (limit c.args.view.now) c.args.served.now.taken c.hear.new.taken
    c.hear.new.message (Ok c.in_ok-len.len) =
    subst (λ (n : ℕ). HearsMessage (IsTrue g.L.Link.tells) (g.L.Link.given c.args.link.now)
    (g.L.Link.given c.hear.new.link) (g.L.Link.left c.hear.new.link) n c.args.served.now.taken c.hear.new.taken
    c.hear.new.message (Ok c.in_ok-len.len)) c.limit.ensures.is c.in_ok-len.ensures.hears in
    let new : List ℕ = c.hear.new.message in
    let old = c.args.buffers.now.message in
    let counted : length new ≡ old.len = c.hear.auto.message ∙ c.deref_mut.ensures.len in
    let whole : take old.len (new ++ drop (length new) old.items) ≡ new =
    take-append-le old.len new (drop (length new) old.items) (omega (arith, counted))
    ∙ take_all old.len new (omega (arith, counted)) in
    let message_is : take c.in_ok-len.len c.deref.result.now ≡ so.came =
    ap (λ (l : List ℕ). take c.in_ok-len.len l) (c.deref.ensures.value ∙ whole) ∙ so.hears.0 in
    let said : List ℕ = take c.answer-answered.result.len c.answer-answered.new.out in
    let out = c.args.buffers.now.reply in
    let filled : length c.answer-answered.new.out ≡ out.len =
    c.answer-answered.auto.out ∙ c.deref_mut-2.ensures.len in
    let all : take out.len
    (c.answer-answered.new.out ++ drop (length c.answer-answered.new.out) out.items)
    ≡ c.answer-answered.new.out =
    take-append-le out.len c.answer-answered.new.out
    (drop (length c.answer-answered.new.out) out.items) (omega (arith, filled))
    ∙ take_all out.len c.answer-answered.new.out (omega (arith, filled)) in
    let piece : List ℕ = take c.answer-answered.result.len c.deref-2.result.now in
    let piece_is : piece ≡ said =
    ap (λ (l : List ℕ). take c.answer-answered.result.len l) (c.deref-2.ensures.value ∙ all) in
    let short : length so.came ≤ limit c.args.view.now =
    subst (λ (n : ℕ). n ≤ limit c.args.view.now) so.hears.1 so.hears.2 in
    let replies = subst (λ (m : List ℕ). AnswersMessage g.B.Blocks.does g.B.Blocks.holds g.B.Scorer.score_of
    c.args.blocks.now c.answer-answered.new.blocks c.args.view.now c.answer-answered.new.self m said
    c.answer-answered.result.failure) message_is c.answer-answered.ensures.replies in
    let written : List ℕ = g.L.Link.written c.args.link.now in
    replied_to g.B.Blocks.does g.B.Blocks.holds g.B.Scorer.score_of c.args.blocks.now
    c.args.view.now c.answer-answered.new.blocks c.answer-answered.new.self so.came said
    c.answer-answered.result.failure short replies c.args.served.now.taken c.hear.new.taken
    c.args.served.now.failure c.keep_first.new.first so.taken_is c.keep_first.ensures (IsTrue g.L.Link.tells)
    (g.L.Link.given c.args.link.now) (g.L.Link.given c.put.new.self) written (g.L.Link.written c.put.new.self)
    (g.L.Link.left c.put.new.self) (λ told. c.in-Ok.ensures.given told ∙ so.given_is told)
    (λ told. c.in-Ok.ensures.appended told
    ∙ ap (λ (l : List ℕ). l ++ piece) (c.in_ok-len.ensures.written told)
    ∙ ap (λ (l : List ℕ). written ++ l) piece_is)

pub returns-in-Err-clause-turns : goal.returns-in-Err-clause-turns
returns-in-Err-clause-turns g c =
    let so : HearsMessage (IsTrue g.L.Link.tells) (g.L.Link.given c.args.link.now) (g.L.Link.given c.hear.new.link)
    (g.L.Link.left c.hear.new.link) (limit c.args.view.now) c.args.served.now.taken c.hear.new.taken
    c.hear.new.message (Ok c.in_ok-len.len) =
    subst (λ (n : ℕ). HearsMessage (IsTrue g.L.Link.tells) (g.L.Link.given c.args.link.now)
    (g.L.Link.given c.hear.new.link) (g.L.Link.left c.hear.new.link) n c.args.served.now.taken c.hear.new.taken
    c.hear.new.message (Ok c.in_ok-len.len)) c.limit.ensures.is c.in_ok-len.ensures.hears in
    let new : List ℕ = c.hear.new.message in
    let old = c.args.buffers.now.message in
    let counted : length new ≡ old.len = c.hear.auto.message ∙ c.deref_mut.ensures.len in
    let whole : take old.len (new ++ drop (length new) old.items) ≡ new =
    take-append-le old.len new (drop (length new) old.items) (omega (arith, counted))
    ∙ take_all old.len new (omega (arith, counted)) in
    let message_is : take c.in_ok-len.len c.deref.result.now ≡ so.came =
    ap (λ (l : List ℕ). take c.in_ok-len.len l) (c.deref.ensures.value ∙ whole) ∙ so.hears.0 in
    let said : List ℕ = take c.answer-answered.result.len c.answer-answered.new.out in
    let out = c.args.buffers.now.reply in
    let filled : length c.answer-answered.new.out ≡ out.len =
    c.answer-answered.auto.out ∙ c.deref_mut-2.ensures.len in
    let all : take out.len
    (c.answer-answered.new.out ++ drop (length c.answer-answered.new.out) out.items)
    ≡ c.answer-answered.new.out =
    take-append-le out.len c.answer-answered.new.out
    (drop (length c.answer-answered.new.out) out.items) (omega (arith, filled))
    ∙ take_all out.len c.answer-answered.new.out (omega (arith, filled)) in
    let piece : List ℕ = take c.answer-answered.result.len c.deref-2.result.now in
    let piece_is : piece ≡ said =
    ap (λ (l : List ℕ). take c.answer-answered.result.len l) (c.deref-2.ensures.value ∙ all) in
    let short : length so.came ≤ limit c.args.view.now =
    subst (λ (n : ℕ). n ≤ limit c.args.view.now) so.hears.1 so.hears.2 in
    let replies = subst (λ (m : List ℕ). AnswersMessage g.B.Blocks.does g.B.Blocks.holds g.B.Scorer.score_of
    c.args.blocks.now c.answer-answered.new.blocks c.args.view.now c.answer-answered.new.self m said
    c.answer-answered.result.failure) message_is c.answer-answered.ensures.replies in
    let written : List ℕ = g.L.Link.written c.args.link.now in
    replied_in_part g.B.Blocks.does g.B.Blocks.holds g.B.Scorer.score_of c.args.blocks.now
    c.args.view.now c.answer-answered.new.blocks c.answer-answered.new.self so.came said
    c.answer-answered.result.failure short replies c.args.served.now.taken c.hear.new.taken
    c.args.served.now.failure c.keep_first.new.first so.taken_is c.keep_first.ensures g.L.Link.tells
    (g.L.Link.given c.args.link.now) (g.L.Link.given c.put.new.self) written (g.L.Link.written c.put.new.self)
    (g.L.Link.left c.put.new.self) (λ told. c.in-Err.ensures.given told ∙ so.given_is told)
    (λ told.
    let part = c.in-Err.ensures.failed told in (
      part.0,
      part.1
          ∙ ap (λ (l : List ℕ). l ++ take part.0 piece) (c.in_ok-len.ensures.written told)
          ∙ ap (λ (l : List ℕ). written ++ take part.0 l) piece_is,
    ))
