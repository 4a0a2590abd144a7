use Rattle.vt_log.proofs.IsLog.{one_log}
use Rattle.vt_log.proofs.laws.logs_are_told_apart.Goals as goal

pub returns : goal.returns
returns c = one_log
