use Rattle.std.proofs.Common.{arith}
use Rattle.nine_view.specs.Refusals.{refusal_words}
use Rattle.nine_view.proofs.Words.{error_fits, error_room, error_said, refusal_room}
use Rattle.nine_view.proofs.answering.refuse.Goals as goal

pub encode-len-requires-clause-fits : goal.encode-len-requires-clause-fits
encode-len-requires-clause-fits c =
    error_fits c.args.tag 256 c.words.result.now (refusal_words c.args.why) c.words.ensures
    (refusal_room c.args.why) (omega arith)

pub encode-len-requires-clause-room : goal.encode-len-requires-clause-room
encode-len-requires-clause-room c =
    let room = error_room c.args.tag 256 c.words.result.now (refusal_words c.args.why) c.words.ensures
    (refusal_room c.args.why) (omega arith) in
    omega (arith, c.requires, room)

pub returns-clause-says : goal.returns-clause-says
returns-clause-says c =
    error_said c.args.tag 256 c.words.result.now (refusal_words c.args.why) c.words.ensures
    (refusal_room c.args.why) (omega arith) c.encode-len.result c.encode-len.new.buf
    c.encode-len.ensures.written c.encode-len.ensures.len
