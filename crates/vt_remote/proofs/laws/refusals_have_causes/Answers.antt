-- the first call that is refused, and those behind it
use Rattle.vt_remote.proofs.Refusing.{first_refused, met_in_vain}
use Rattle.vt_remote.proofs.laws.refusals_have_causes.Goals as goal

pub returns-clause-met : goal.returns-clause-met
returns-clause-met g c score_of why back x = met_in_vain g.L.Link score_of why back x

pub returns-clause-first : goal.returns-clause-first
returns-clause-first g c score_of calls met last back x =
    first_refused g.L.Link score_of calls met last back x
