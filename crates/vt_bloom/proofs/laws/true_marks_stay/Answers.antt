use Rattle.vt_bloom.proofs.Frames.{covers_more, covers_fewer}
use Rattle.vt_bloom.proofs.laws.true_marks_stay.Goals as goal

pub returns-clause-more : goal.returns-clause-more
returns-clause-more c = covers_more

pub returns-clause-fewer : goal.returns-clause-fewer
returns-clause-fewer c = covers_fewer
