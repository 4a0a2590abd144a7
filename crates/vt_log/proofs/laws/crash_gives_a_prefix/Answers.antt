use Rattle.vt_log.proofs.StandForPrefix.{moment_stands}
use Rattle.vt_log.proofs.laws.crash_gives_a_prefix.Goals as goal

pub returns : goal.returns
returns g c score_of l h files sound left = moment_stands score_of _ l h files sound left
