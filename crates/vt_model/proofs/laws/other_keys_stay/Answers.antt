use Rattle.vt_model.proofs.Held.{held-other_score, held-other_kind}
use Rattle.vt_model.proofs.laws.other_keys_stay.Goals as goal

pub returns : goal.returns
returns c = record { scores = held-other_score; kinds = held-other_kind }
