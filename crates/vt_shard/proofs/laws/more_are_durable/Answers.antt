use Rattle.vt_shard.proofs.LeavesLive.{more_durable}
use Rattle.vt_shard.proofs.laws.more_are_durable.Goals as goal

pub returns : goal.returns
returns g c = λ score setup t h durable more from sound le fits. more_durable score setup _ t h durable from sound more le fits
