use Rattle.vt_rehearse.proofs.Scores.{words_apart}
use Rattle.vt_rehearse.proofs.rehearsal.words_are_apart.Goals as goal

pub returns : goal.returns
returns g = words_apart
