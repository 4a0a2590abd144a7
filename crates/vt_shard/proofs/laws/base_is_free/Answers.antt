use Rattle.vt_shard.proofs.LeavesLive.{base_free}
use Rattle.vt_shard.proofs.laws.base_is_free.Goals as goal

pub returns : goal.returns
returns g c = λ score setup base t h durable from sound. base_free score setup base _ t h durable from sound
