use Rattle.vt_wire.proofs.Frames.{split_one}
use Rattle.vt_wire.proofs.laws.one_cutting.Goals as goal

pub returns : goal.returns
returns c = split_one
