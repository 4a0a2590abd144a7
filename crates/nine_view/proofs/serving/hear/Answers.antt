use Rattle.std.proofs.Common.{◌≡◌, ◌-◌, ◌≤◌, ◌++◌, ℕ, List, length, drop, ◌∙◌, arith, length-append, length-drop, length-take}
use Rattle.std.specs.Prelude.{IsTrue}
use Rattle.std.proofs.lemmas.Result.{err_from_is_err_and}
use borrow.Rule.Slice.PartMut.{mid_len, post_of, put_mid}
use Rattle.nine_view.proofs.Hearing.{ended_inside, heard_behind}
use Rattle.nine_view.proofs.serving.hear.Goals as goal

pub returns-in_err-fill-2-clause-hears : goal.returns-in_err-fill-2-clause-hears
returns-in_err-fill-2-clause-hears g c =
    let p = err_from_is_err_and c.from_residual-in_err-fill-2.result
    c.from_residual-in_err-fill-2.ensures.1 in
    let message : List ℕ = c.args.message.now in
    let front : List ℕ = c.fill.new.buf in
    let rest : List ℕ = drop 4 message in
    let part : List ℕ = c.fill-2.new.buf in
    let size : ℕ = c.read_u32-size.result in
    let four : length front ≡ 4 =
    omega (arith, c.fill.auto.buf, length-take 4 message, c.requires.room) in
    let all : length (front ++ rest) ≡ 65536 =
    omega (arith, four, length-append front rest, length-drop 4 message, c.requires.room) in
    let most : size ≤ 65536 = omega (arith, c.if-size-limit.false, c.requires.most) in
    let len : length part ≡ size - 4 =
    c.fill-2.auto.buf ∙ mid_len 4 size (front ++ rest) (omega (arith, all, most)) in
    rw (p.1, p.2) (ended_inside (IsTrue g.L.Link.tells) (g.L.Link.given c.args.link.now) (g.L.Link.given c.fill.new.link)
    (g.L.Link.given c.fill-2.new.link) (g.L.Link.left c.fill.new.link)
    (g.L.Link.left c.fill-2.new.link) c.args.limit c.args.taken.now c.fill.new.taken
    c.fill-2.new.taken front rest four c.in_ok-fill.ensures.fills size c.read_u32-size.ensures
    c.if-size-lt7.false c.if-size-limit.false c.in_err-fill-2.field-0.0 part
    (put_mid 4 (size - 4) (front ++ rest) part) len c.in_err-fill-2.ensures.fills)

pub returns-clause-hears : goal.returns-clause-hears
returns-clause-hears g c =
    let message : List ℕ = c.args.message.now in
    let front : List ℕ = c.fill.new.buf in
    let rest : List ℕ = drop 4 message in
    let part : List ℕ = c.fill-2.new.buf in
    let size : ℕ = c.read_u32-size.result in
    let four : length front ≡ 4 =
    omega (arith, c.fill.auto.buf, length-take 4 message, c.requires.room) in
    let all : length (front ++ rest) ≡ 65536 =
    omega (arith, four, length-append front rest, length-drop 4 message, c.requires.room) in
    let most : size ≤ 65536 = omega (arith, c.if-size-limit.false, c.requires.most) in
    let len : length part ≡ size - 4 =
    c.fill-2.auto.buf ∙ mid_len 4 size (front ++ rest) (omega (arith, all, most)) in
    heard_behind (IsTrue g.L.Link.tells) (g.L.Link.given c.args.link.now) (g.L.Link.given c.fill.new.link)
    (g.L.Link.given c.fill-2.new.link) (g.L.Link.left c.fill.new.link)
    (g.L.Link.left c.fill-2.new.link) c.args.limit c.args.taken.now c.fill.new.taken
    c.fill-2.new.taken front rest four c.in_ok-fill.ensures.fills size c.read_u32-size.ensures
    c.if-size-lt7.false c.if-size-limit.false part
    (post_of 4 (size - 4) (front ++ rest)) len (omega (arith, most))
    (λ i. omega (arith, c.type_inv.message i)) c.in_ok-fill-2.ensures.fills
