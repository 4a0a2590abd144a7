use Rattle.vt_shard.proofs.LeavesLive.{file_agrees}
use Rattle.vt_shard.proofs.laws.files_agree.Goals as goal

pub returns : goal.returns
returns g c = λ score setup t h durable from n sound le fits file left. file_agrees score setup _ t h durable from sound n le file left
