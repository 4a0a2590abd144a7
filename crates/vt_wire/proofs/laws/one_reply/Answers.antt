use Rattle.vt_wire.proofs.Messages.{reply_frame_one, spelled_one}
use Rattle.vt_wire.proofs.laws.one_reply.Goals as goal

pub returns-clause-frame : goal.returns-clause-frame
returns-clause-frame c = reply_frame_one

pub returns-clause-sent : goal.returns-clause-sent
returns-clause-sent c = spelled_one
