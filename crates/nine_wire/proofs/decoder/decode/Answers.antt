use Rattle.nine_wire.specs.Frames.{Spells}
use Rattle.nine_wire.specs.Views.{message_of}
use Rattle.nine_wire.proofs.Framed.{one_message}
use Rattle.nine_wire.proofs.decoder.decode.Goals as goal

pub returns-in-Some-request_of-clause-only : goal.returns-in-Some-request_of-clause-only
returns-in-Some-request_of-clause-only c =
    λ tag m spells.
    let found : Spells c.in-Some.tag (message_of c.in-Some-request_of.request)
    c.args.message.now = record {
      type = c.in-Some.kind;
      parameters = c.in-Some.parameters.now;
      body = c.in-Some-request_of.ensures.found;
      frame = c.in-Some.ensures.found;
    } in
    one_message c.in-Some.tag tag (message_of c.in-Some-request_of.request) m c.args.message.now
    found spells
