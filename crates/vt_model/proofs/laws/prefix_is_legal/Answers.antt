use Rattle.vt_model.proofs.Prefixes.{IsLegal-front}
use Rattle.vt_model.proofs.laws.prefix_is_legal.Goals as goal

pub returns : goal.returns
returns c = IsLegal-front
