use Rattle.std.proofs.Common.{◌≡◌, ◌-◌, refl, length, take, drop, get_or, Err, Ok, arith}
use Rattle.std.proofs.lemmas.Result.{err_from_is_err_and}
use Rattle.vt_wire.specs.Views.{message_of}
use Rattle.vt_wire.specs.declared.message.WireBad.TheVariants as bad
use Rattle.vt_wire.proofs.Messages.{frame_one}
use Rattle.vt_wire.specs.Messages.{is_request_type}
use Rattle.vt_wire.specs.Refusals.{forms_of}
use Rattle.vt_wire.proofs.Refusals.{whole_frame_parts, refused_of, refused_not_read, told_refused, told_read}
use Rattle.vt_wire.proofs.RequestForms.{spelled_of, request_read}
use Rattle.vt_wire.proofs.decoder.decode.Goals as goal

pub returns-in_err-request_of-clause-only : goal.returns-in_err-request_of-clause-only
returns-in_err-request_of-clause-only c =
    let f = c.args.frame.now in
    let e = c.in_err-request_of.field-0.0 in
    let frame = whole_frame_parts f c.frame_len.result c.ne.result c.ne.ensures c.if-ne.false c.frame_len.ensures.frame (omega arith) in
    let why = refused_of is_request_type forms_of f (get_or f 2 0) (get_or f 3 0) (take (length f - 4) (drop 4 f)) e frame c.in_err-request_of.ensures.known c.in_err-request_of.ensures.unknown in
    λ tag m x. absurd (refused_not_read is_request_type forms_of f e why (request_read f tag m x))

pub returns-in_err-request_of-clause-bad : goal.returns-in_err-request_of-clause-bad
returns-in_err-request_of-clause-bad c =
    let f = c.args.frame.now in
    let e = c.in_err-request_of.field-0.0 in
    let frame = whole_frame_parts f c.frame_len.result c.ne.result c.ne.ensures c.if-ne.false c.frame_len.ensures.frame (omega arith) in
    let why = refused_of is_request_type forms_of f (get_or f 2 0) (get_or f 3 0) (take (length f - 4) (drop 4 f)) e frame c.in_err-request_of.ensures.known c.in_err-request_of.ensures.unknown in
    let p = err_from_is_err_and c.from_residual.result c.from_residual.ensures.1 in
    let told : c.from_residual.result ≡ Err e = rw (p.1, p.2) refl in
    λ n. told_refused is_request_type forms_of f e (bad.Bad n) c.from_residual.result told why

pub returns-clause-only : goal.returns-clause-only
returns-clause-only c =
    let f = c.args.frame.now in
    let request = c.in_ok-request_of.field-0 in
    let frame = whole_frame_parts f c.frame_len.result c.ne.result c.ne.ensures c.if-ne.false c.frame_len.ensures.frame (omega arith) in
    let spelled = spelled_of f (get_or f 2 0) (get_or f 3 0) (take (length f - 4) (drop 4 f)) request frame c.in_ok-request_of.ensures.known c.in_ok-request_of.ensures.unknown in
    λ tag m x. frame_one (get_or f 3 0) tag (message_of request) m f spelled x

pub returns-clause-bad : goal.returns-clause-bad
returns-clause-bad c =
    let f = c.args.frame.now in
    let request = c.in_ok-request_of.field-0 in
    let frame = whole_frame_parts f c.frame_len.result c.ne.result c.ne.ensures c.if-ne.false c.frame_len.ensures.frame (omega arith) in
    let spelled = spelled_of f (get_or f 2 0) (get_or f 3 0) (take (length f - 4) (drop 4 f)) request frame c.in_ok-request_of.ensures.known c.in_ok-request_of.ensures.unknown in
    λ n. told_read is_request_type forms_of f (bad.Bad n) (get_or f 3 0, request) (Ok (get_or f 3 0, request)) refl (request_read f (get_or f 3 0) (message_of request) spelled)
