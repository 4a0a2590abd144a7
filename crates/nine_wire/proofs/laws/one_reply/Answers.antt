use Rattle.nine_wire.proofs.Framed.{apart}
use Rattle.nine_wire.proofs.laws.one_reply.Goals as goal

pub returns : goal.returns
returns c = apart
