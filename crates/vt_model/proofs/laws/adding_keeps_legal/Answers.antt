use Rattle.vt_model.proofs.Adding.{IsLegal-with_added}
use Rattle.vt_model.proofs.laws.adding_keeps_legal.Goals as goal

pub returns : goal.returns
returns c = IsLegal-with_added
