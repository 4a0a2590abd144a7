use Rattle.vt_session.proofs.Talking.{fed_heard, none_more}
use Rattle.vt_session.proofs.laws.feeding_goes_on.Goals as goal

pub returns-clause-fed : goal.returns-clause-fed
returns-clause-fed c = fed_heard

pub returns-clause-none : goal.returns-clause-none
returns-clause-none c = none_more
