use Rattle.std.proofs.Common.{◌≡◌, ℕ, Result, Err, sym, subst, arith}
use Rattle.nine_wire.specs.Messages.{RMessage, r_error}
use Rattle.nine_view.specs.declared.error.AnswerError.{AnswerError}
use Rattle.nine_view.specs.Failures.{failure_words}
use Rattle.nine_view.specs.Handling.{Says, SaysSo}
use Rattle.nine_view.specs.Refusals.{refusal_words}
use Rattle.nine_view.proofs.Words.{error_fits, error_room, error_said, failure_room, says_less}
use Rattle.nine_view.proofs.answering.said.Goals as goal

pub returns-in-Err-Refused-clause-said : goal.returns-in-Err-Refused-clause-said
returns-in-Err-Refused-clause-said c = λ reply is.
    let same : reply ≡ r_error (refusal_words c.in-Err-Refused.why) =
    subst (λ (d : AnswerError). SaysSo c.args.tag c.args.limit c.args.out.now (Err d) reply)
    c.in-Err-Refused.field-0-is
    (subst (λ (a : Result ℕ AnswerError). SaysSo c.args.tag c.args.limit c.args.out.now a reply)
    c.in-Err-Refused.is is) in
    subst (λ (r : RMessage). Says c.args.tag c.args.limit c.refuse.new.out c.refuse.result.len r)
    (sym same)
    (says_less c.args.tag c.args.limit c.refuse.new.out c.refuse.result.len
    (r_error (refusal_words c.in-Err-Refused.why)) c.requires.least c.refuse.ensures.says)

pub encode-len-requires-clause-fits : goal.encode-len-requires-clause-fits
encode-len-requires-clause-fits c =
    error_fits c.args.tag c.args.limit c.failure_words.result.now
    (failure_words c.args.limit c.in-Err-Failed.bad) c.failure_words.ensures
    (failure_room c.args.limit c.in-Err-Failed.bad c.requires.least) c.requires.most

pub encode-len-requires-clause-room : goal.encode-len-requires-clause-room
encode-len-requires-clause-room c =
    let room = error_room c.args.tag c.args.limit c.failure_words.result.now
    (failure_words c.args.limit c.in-Err-Failed.bad) c.failure_words.ensures
    (failure_room c.args.limit c.in-Err-Failed.bad c.requires.least) c.requires.most in
    omega (arith, c.requires, room)

pub returns-in-Err-Failed-clause-said : goal.returns-in-Err-Failed-clause-said
returns-in-Err-Failed-clause-said c = λ reply is.
    let same : reply ≡ r_error (failure_words c.args.limit c.in-Err-Failed.bad) =
    subst (λ (d : AnswerError). SaysSo c.args.tag c.args.limit c.args.out.now (Err d) reply)
    c.in-Err-Failed.field-0-is
    (subst (λ (a : Result ℕ AnswerError). SaysSo c.args.tag c.args.limit c.args.out.now a reply)
    c.in-Err-Failed.is is) in
    subst (λ (r : RMessage). Says c.args.tag c.args.limit c.encode-len.new.buf c.encode-len.result r)
    (sym same)
    (error_said c.args.tag c.args.limit c.failure_words.result.now
    (failure_words c.args.limit c.in-Err-Failed.bad) c.failure_words.ensures
    (failure_room c.args.limit c.in-Err-Failed.bad c.requires.least) c.requires.most
    c.encode-len.result c.encode-len.new.buf c.encode-len.ensures.written c.encode-len.ensures.len)
