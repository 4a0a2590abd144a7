use Rattle.vt_conf.proofs.Meanings.{same_conf, no_cause_of_conf}
use Rattle.vt_conf.proofs.laws.configurations_have_one_meaning.Goals as goal

pub returns-clause-one : goal.returns-clause-one
returns-clause-one c = same_conf

pub returns-clause-accepted : goal.returns-clause-accepted
returns-clause-accepted c = no_cause_of_conf
