use Rattle.vt_session.proofs.Talks.{talk_longer}
use Rattle.vt_session.proofs.laws.talk_of_longer.Goals as goal

pub returns : goal.returns
returns c = talk_longer
