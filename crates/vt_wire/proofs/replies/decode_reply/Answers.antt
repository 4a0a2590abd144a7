use Rattle.std.proofs.Common.{◌≡◌, ◌-◌, refl, length, take, drop, get_or, Err, Ok, arith}
use Rattle.std.proofs.lemmas.Result.{err_from_is_err_and}
use Rattle.vt_wire.specs.Views.{reply_of}
use Rattle.vt_wire.specs.declared.message.WireBad.TheVariants as bad
use Rattle.vt_wire.proofs.Messages.{reply_frame_one}
use Rattle.vt_wire.specs.Messages.{is_reply_type}
use Rattle.vt_wire.specs.Refusals.{reply_forms_of}
use Rattle.vt_wire.proofs.Refusals.{whole_frame_parts, refused_of, refused_not_read, told_refused, told_read}
use Rattle.vt_wire.proofs.ReplyForms.{spelled_of, reply_read}
use Rattle.vt_wire.proofs.replies.decode_reply.Goals as goal

pub returns-in_err-reply_from-clause-only : goal.returns-in_err-reply_from-clause-only
returns-in_err-reply_from-clause-only c =
    let f = c.args.frame.now in
    let e = c.in_err-reply_from.field-0.0 in
    let frame = whole_frame_parts f c.frame_len.result c.ne.result c.ne.ensures c.if-ne.false
    c.frame_len.ensures.frame (omega arith) in
    let why = refused_of is_reply_type reply_forms_of f (get_or f 2 0) (get_or f 3 0)
    (take (length f - 4) (drop 4 f)) e frame c.in_err-reply_from.ensures.known
    c.in_err-reply_from.ensures.unknown in
    λ tag m x. absurd (refused_not_read is_reply_type reply_forms_of f e why (reply_read f tag m x))

pub returns-in_err-reply_from-clause-bad : goal.returns-in_err-reply_from-clause-bad
returns-in_err-reply_from-clause-bad c =
    let f = c.args.frame.now in
    let e = c.in_err-reply_from.field-0.0 in
    let frame = whole_frame_parts f c.frame_len.result c.ne.result c.ne.ensures c.if-ne.false
    c.frame_len.ensures.frame (omega arith) in
    let why = refused_of is_reply_type reply_forms_of f (get_or f 2 0) (get_or f 3 0)
    (take (length f - 4) (drop 4 f)) e frame c.in_err-reply_from.ensures.known
    c.in_err-reply_from.ensures.unknown in
    let p = err_from_is_err_and c.from_residual.result c.from_residual.ensures.1 in
    let told : c.from_residual.result ≡ Err e = rw (p.1, p.2) refl in
    λ n. told_refused is_reply_type reply_forms_of f e (bad.Bad n) c.from_residual.result told why

pub returns-clause-only : goal.returns-clause-only
returns-clause-only c =
    let f = c.args.frame.now in
    let reply = c.in_ok-reply_from.field-0 in
    let frame = whole_frame_parts f c.frame_len.result c.ne.result c.ne.ensures c.if-ne.false
    c.frame_len.ensures.frame (omega arith) in
    let spelled = spelled_of f (get_or f 2 0) (get_or f 3 0) (take (length f - 4) (drop 4 f)) reply
    frame c.in_ok-reply_from.ensures.known c.in_ok-reply_from.ensures.unknown in
    λ tag m x. reply_frame_one (get_or f 3 0) tag (reply_of reply) m f spelled x

pub returns-clause-bad : goal.returns-clause-bad
returns-clause-bad c =
    let f = c.args.frame.now in
    let reply = c.in_ok-reply_from.field-0 in
    let frame = whole_frame_parts f c.frame_len.result c.ne.result c.ne.ensures c.if-ne.false
    c.frame_len.ensures.frame (omega arith) in
    let spelled = spelled_of f (get_or f 2 0) (get_or f 3 0) (take (length f - 4) (drop 4 f)) reply
    frame c.in_ok-reply_from.ensures.known c.in_ok-reply_from.ensures.unknown in
    λ n. told_read is_reply_type reply_forms_of f (bad.Bad n) (get_or f 3 0, reply)
    (Ok (get_or f 3 0, reply)) refl (reply_read f (get_or f 3 0) (reply_of reply) spelled)
