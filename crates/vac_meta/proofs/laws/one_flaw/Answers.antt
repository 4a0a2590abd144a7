use Rattle.vac_meta.proofs.Refused.{not_refused, one_reason}
use Rattle.vac_meta.proofs.laws.one_flaw.Goals as goal

pub returns-clause-none : goal.returns-clause-none
returns-clause-none c = not_refused

pub returns-clause-one : goal.returns-clause-one
returns-clause-one c = one_reason
