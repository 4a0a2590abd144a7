use Rattle.vt_shard.proofs.LeavesLive.{none_lacks, none_lacks_more}
use Rattle.vt_shard.proofs.laws.no_block_lacks.Goals as goal

pub returns-clause-none : goal.returns-clause-none
returns-clause-none g c = λ score setup t h durable from sound le. none_lacks score setup _ t h durable from sound le

pub returns-clause-more : goal.returns-clause-more
returns-clause-more g c = λ score setup t h durable from more sound le. none_lacks_more score setup _ t h durable from sound more le
