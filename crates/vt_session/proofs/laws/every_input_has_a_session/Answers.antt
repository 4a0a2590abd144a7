use Rattle.vt_session.proofs.Talks.{alone_some}
use Rattle.vt_session.proofs.laws.every_input_has_a_session.Goals as goal

pub returns : goal.returns
returns c = alone_some
