use Rattle.vt_session.proofs.Causes.{counts_join, told_front}
use Rattle.vt_session.proofs.laws.causes_join.Goals as goal

pub returns-clause-counts : goal.returns-clause-counts
returns-clause-counts c = counts_join

pub returns-clause-front : goal.returns-clause-front
returns-clause-front c = told_front
