use Rattle.vt_session.proofs.Pieces.{last_cut}
use Rattle.vt_session.proofs.laws.write_fault_in_a_reply.Goals as goal

pub returns : goal.returns
returns c = last_cut
