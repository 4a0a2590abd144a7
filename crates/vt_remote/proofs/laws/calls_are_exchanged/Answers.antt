-- the calls of the client, one behind another
use Rattle.vt_remote.proofs.Calling.{all_exchanged, all_sent}
use Rattle.vt_remote.proofs.laws.calls_are_exchanged.Goals as goal

pub returns-clause-all : goal.returns-clause-all
returns-clause-all g c score_of calls met last back told x accepted =
    all_exchanged g.L.Link score_of told calls met last back x accepted

pub returns-clause-sent : goal.returns-clause-sent
returns-clause-sent g c score_of calls met last back x =
    all_sent g.L.Link score_of calls met last back x
