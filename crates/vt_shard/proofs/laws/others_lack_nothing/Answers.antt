use Rattle.std.proofs.Common.{refl}
use Rattle.vt_shard.proofs.LeavesLive.{other_lacks_nothing}
use Rattle.vt_shard.proofs.laws.others_lack_nothing.Goals as goal

pub returns : goal.returns
returns g c = λ score setup t h durable i s sound has other. other_lacks_nothing score setup _ t h durable _ sound i s refl has other
