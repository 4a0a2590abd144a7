-- the digits of the two scores
use Rattle.run_base.proofs.complaint.complain_of_scores.Goals as goal

pub returns : goal.returns
returns g c tells =
    rw (c.hexadecimal.ensures, c.hexadecimal-2.ensures) at (c.complain.ensures tells)
