use Rattle.vt_session.proofs.Hearings.{heard_one, heard_some}
use Rattle.vt_session.proofs.laws.heard_once.Goals as goal

pub returns-clause-some : goal.returns-clause-some
returns-clause-some c = λ input are. let r = heard_some input are in (r.0, r.1, r.2)

pub returns-clause-one : goal.returns-clause-one
returns-clause-one c = heard_one
