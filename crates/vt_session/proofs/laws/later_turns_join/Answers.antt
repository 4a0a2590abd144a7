use Rattle.vt_session.proofs.Turns.{turns_join_later}
use Rattle.vt_session.proofs.laws.later_turns_join.Goals as goal

pub returns : goal.returns
returns c = turns_join_later
