use Rattle.vac_meta.proofs.Refused.{one_list}
use Rattle.vac_meta.proofs.laws.one_metadata.Goals as goal

pub returns : goal.returns
returns c = one_list
