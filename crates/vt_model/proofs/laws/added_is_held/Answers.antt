use Rattle.vt_model.proofs.Added.{added_held}
use Rattle.vt_model.proofs.laws.added_is_held.Goals as goal

pub returns : goal.returns
returns c = added_held
