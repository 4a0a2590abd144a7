use Rattle.vt_wire.proofs.Messages.{request_spelled}
use Rattle.vt_wire.proofs.laws.request_is_spelled.Goals as goal

pub returns : goal.returns
returns c = request_spelled
