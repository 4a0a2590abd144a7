use Rattle.vt_core.proofs.NamesTwo.{refused_two}
use Rattle.vt_core.proofs.laws.refusals_name_two.Goals as goal

pub returns : goal.returns
returns g c = λ score tables devices setup bad it.
    refused_two g.D.Disk c.refusals_name_two.ensures.log c.refusals_name_two.ensures.section c.refusals_name_two.ensures.filter score tables devices setup bad it
