-- the digits of the two values
use Rattle.run_base.proofs.complaint.complain_of_damage.Goals as goal

pub returns : goal.returns
returns g c tells = rw (c.of.ensures, c.of-2.ensures) at (c.complain.ensures tells)
