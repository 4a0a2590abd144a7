use Rattle.vt_maintain.proofs.NamesTwo.{opening_two, use_two}
use Rattle.vt_maintain.proofs.laws.refusals_name_two.Goals as goal

pub returns-clause-opening : goal.returns-clause-opening
returns-clause-opening g c = λ devices bad it.
    opening_two g.D.Disk c.refusals_name_two.ensures devices bad it

pub returns-clause-in_use : goal.returns-clause-in_use
returns-clause-in_use g c = λ score devices bad it.
    use_two g.D.Disk c.refusals_name_two.ensures devices score bad it
