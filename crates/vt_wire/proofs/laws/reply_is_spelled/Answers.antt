use Rattle.vt_wire.proofs.Messages.{reply_spelled}
use Rattle.vt_wire.proofs.laws.reply_is_spelled.Goals as goal

pub returns : goal.returns
returns c = reply_spelled
