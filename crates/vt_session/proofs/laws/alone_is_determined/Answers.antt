use Rattle.vt_session.proofs.Talks.{alone_one, end_one}
use Rattle.vt_session.proofs.laws.alone_is_determined.Goals as goal

pub returns-clause-outcome : goal.returns-clause-outcome
returns-clause-outcome c = alone_one

pub returns-clause-ending : goal.returns-clause-ending
returns-clause-ending c = end_one
