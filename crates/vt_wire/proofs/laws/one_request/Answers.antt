use Rattle.vt_wire.proofs.Messages.{body_one, frame_one}
use Rattle.vt_wire.proofs.laws.one_request.Goals as goal

pub returns-clause-body : goal.returns-clause-body
returns-clause-body c = body_one

pub returns-clause-frame : goal.returns-clause-frame
returns-clause-frame c = frame_one
