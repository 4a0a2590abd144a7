use Rattle.vt_session.proofs.Talks.{alone_talk}
use Rattle.vt_session.proofs.laws.alone_is_talk.Goals as goal

pub returns : goal.returns
returns c = alone_talk
