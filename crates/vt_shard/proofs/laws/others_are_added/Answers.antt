use Rattle.vt_shard.proofs.LeavesLive.{other_added}
use Rattle.vt_shard.proofs.laws.others_are_added.Goals as goal

pub returns : goal.returns
returns g c = λ score setup t h durable from block sound keys other. other_added score setup _ t h durable from sound block keys other
