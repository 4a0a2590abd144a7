use Rattle.vt_isect.proofs.Crowd.{one_entry}
use Rattle.vt_isect.proofs.laws.one_key_has_one_entry.Goals as goal

pub returns : goal.returns
returns c = one_entry
