use Rattle.vt_session.proofs.Turns.{turns_join}
use Rattle.vt_session.proofs.laws.more_turns_join.Goals as goal

pub returns : goal.returns
returns c = turns_join
