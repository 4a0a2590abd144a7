use Rattle.vt_model.proofs.Numbers.{held-longer, held-first}
use Rattle.vt_model.proofs.laws.held_stays.Goals as goal

pub returns : goal.returns
returns c = record { longer = held-longer; first = held-first }
