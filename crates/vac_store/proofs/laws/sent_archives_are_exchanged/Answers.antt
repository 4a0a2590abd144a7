-- the calls of the client, one behind another
use Rattle.vac_store.proofs.Sending.{is_sent}
use Rattle.vac_store.proofs.laws.sent_archives_are_exchanged.Goals as goal

pub returns : goal.returns
returns g c score_of bsize folder archived calls met last back told talks it =
    is_sent g.L.Link score_of bsize folder archived met last back it.archives.0 calls
    it.archives.1
    (λ accepted. c.calls_are_exchanged.ensures.all score_of calls met last back told talks accepted)
    (c.calls_are_exchanged.ensures.sent score_of calls met last back talks)
