use Rattle.vt_wire.proofs.Forms.{first_bad_one}
use Rattle.vt_wire.proofs.RequestForms.{body_or, body_not_both}
use Rattle.vt_wire.proofs.laws.one_parameter_is_the_first_bad.Goals as goal

pub returns-clause-some : goal.returns-clause-some
returns-clause-some c = body_or

pub returns-clause-none : goal.returns-clause-none
returns-clause-none c = body_not_both

pub returns-clause-one : goal.returns-clause-one
returns-clause-one c = first_bad_one
