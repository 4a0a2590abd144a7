use Rattle.std.proofs.Common.{◌≤◌, [], ◌∷◌, ℕ, length, refl, ap, arith}
use Rattle.nine_wire.specs.Views.{reply_of}
use Rattle.nine_wire.proofs.Framed.{reply_is_short, whole_reply}
use Rattle.nine_wire.proofs.Writes.{one_field, so_spelled}
use Rattle.nine_wire.proofs.encoder.encode.Goals as goal

pub overflow_cast-end : goal.overflow_cast-end
overflow_cast-end c =
    omega (
      arith,
      reply_is_short (reply_of c.args.reply.now) c.requires.fits,
      c.put_u8-at.ensures.end,
      c.put_u16-at.ensures.ends,
      c.put_parameters-end.ensures.ends,
    )

pub returns-clause-written : goal.returns-clause-written
returns-clause-written c =
    let room : 4 ≤ length c.args.buf.now = omega (arith, c.requires.room) in
    let whole = whole_reply c.args.tag (reply_of c.args.reply.now) room
    (so_spelled (one_field 4 c.put_u8-at.result 1 c.args.buf.now c.put_u8-at.new.buf
    (c.type_of.result ∷ []) c.put_u8-at.ensures.end refl c.put_u8-at.ensures.written
    c.put_u8-at.ensures.behind) (ap (λ (t : ℕ). t ∷ []) c.type_of.ensures))
    c.put_u16-at.ensures c.put_parameters-end.ensures c.put_u32.ensures in
    whole.written

pub returns-clause-behind : goal.returns-clause-behind
returns-clause-behind c =
    let room : 4 ≤ length c.args.buf.now = omega (arith, c.requires.room) in
    let whole = whole_reply c.args.tag (reply_of c.args.reply.now) room
    (so_spelled (one_field 4 c.put_u8-at.result 1 c.args.buf.now c.put_u8-at.new.buf
    (c.type_of.result ∷ []) c.put_u8-at.ensures.end refl c.put_u8-at.ensures.written
    c.put_u8-at.ensures.behind) (ap (λ (t : ℕ). t ∷ []) c.type_of.ensures))
    c.put_u16-at.ensures c.put_parameters-end.ensures c.put_u32.ensures in
    whole.behind
