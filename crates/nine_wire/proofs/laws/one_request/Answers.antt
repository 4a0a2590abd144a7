use Rattle.nine_wire.proofs.Framed.{one_message}
use Rattle.nine_wire.proofs.laws.one_request.Goals as goal

pub returns : goal.returns
returns c = one_message
