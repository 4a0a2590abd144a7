-- what was taken is what came, and it was fed
use Rattle.std.proofs.Common.{◌≡◌, ◌<◌, ◌≤◌, [], ◌++◌, length, take, drop, refl, inl, inr, sym, ◌∙◌, ap, subst, arith, append-nil, length-take}
use Rattle.std.proofs.lemmas.List.{take-append-le}
use Rattle.vt_base.specs.Bytes.{AreBytes, AreBytes-none}
use Rattle.vt_session.specs.Talking.{room, fed}
use Rattle.vt_handler.proofs.Links.{came_less}
use Rattle.vt_handler.proofs.serving.hear_more.Goals as goal

pub returns-in-Err-clause-comes : goal.returns-in-Err-clause-comes
returns-in-Err-clause-comes g c = record {
  came = [];
  bytes = AreBytes-none;
  sent_is = λ p. (c.in-Err.ensures.kept p).0 ∙ sym (append-nil _);
  left_is = λ p. sym (c.in-Err.ensures.kept p).1;
  new_is = inl (refl, refl);
}

pub returns-in-Ok-clause-comes : goal.returns-in-Ok-clause-comes
returns-in-Ok-clause-comes g c =
    let n = c.in-Ok.n in
    let buf = c.take.new.buf in
    let rest = drop c.min-most.result c.args.piece.now in
    let within : n ≤ length buf = omega (arith, c.in-Ok.ensures.fits, c.take.auto.buf) in
    let same : take n (buf ++ rest) ≡ take n buf = take-append-le n buf rest within in
    record {
      came = take n buf;
      bytes = subst AreBytes same c.feed_all.ensures.bytes;
      sent_is = c.in-Ok.ensures.sent;
      left_is = c.in-Ok.ensures.moved;
      new_is = inr (c.feed_all.ensures.fed ∙ ap (fed c.args.talker.now) same);
    }

pub returns-in-Ok-clause-less : goal.returns-in-Ok-clause-less
returns-in-Ok-clause-less g c =
    let n = c.in-Ok.n in
    let buf = c.take.new.buf in
    let rest = drop c.min-most.result c.args.piece.now in
    let front = length-take c.min-most.result c.args.piece.now in
    let within : n ≤ length buf = omega (arith, c.in-Ok.ensures.fits, c.take.auto.buf) in
    let same : take n (buf ++ rest) ≡ take n buf = take-append-le n buf rest within in
    let came : length (take n buf) ≡ n = omega (arith, length-take n buf, within) in
    let some : 0 < length (take n buf) = omega (arith, came, c.in-Ok.n-test.1) in
    let fits : length (take n buf) ≤ room c.args.talker.now =
    omega (arith, came, c.in-Ok.ensures.fits, front, c.min-most.ensures, c.room.ensures.is) in
    came_less c.args.talker.now c.feed_all.new.talker (take n buf)
    (c.feed_all.ensures.fed ∙ ap (fed c.args.talker.now) same) some fits
