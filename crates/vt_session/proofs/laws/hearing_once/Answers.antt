use Rattle.vt_session.proofs.Hearings.{hearing_one}
use Rattle.vt_session.proofs.laws.hearing_once.Goals as goal

pub returns : goal.returns
returns c = hearing_one
