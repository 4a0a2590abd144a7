use Rattle.vt_cli.proofs.Asking.{session_taken, session_spoken}
use Rattle.vt_cli.proofs.laws.session_is_asked.Goals as goal

pub returns : goal.returns
returns c = (session_taken, session_spoken)
