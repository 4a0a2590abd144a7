use Rattle.vt_session.proofs.Pieces.{turns_cut}
use Rattle.vt_session.proofs.Turns.{turns_part}
use Rattle.vt_session.proofs.laws.cut_output.Goals as goal

pub returns-clause-piece : goal.returns-clause-piece
returns-clause-piece c = turns_cut

pub returns-clause-session : goal.returns-clause-session
returns-clause-session c = turns_part
