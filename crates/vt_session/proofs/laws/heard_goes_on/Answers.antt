use Rattle.vt_session.proofs.Hearings.{heard_front, heard_last}
use Rattle.vt_session.proofs.laws.heard_goes_on.Goals as goal

pub returns-clause-front : goal.returns-clause-front
returns-clause-front c = heard_front

pub returns-clause-ended : goal.returns-clause-ended
returns-clause-ended c = heard_last
