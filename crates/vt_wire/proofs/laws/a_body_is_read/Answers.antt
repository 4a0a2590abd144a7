use Rattle.vt_wire.proofs.RequestForms.{body_read}
use Rattle.vt_wire.proofs.laws.a_body_is_read.Goals as goal

pub returns : goal.returns
returns c = body_read
