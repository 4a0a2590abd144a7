use Rattle.vt_wire.proofs.Frames.{splits}
use Rattle.vt_wire.proofs.laws.any_bytes_are_cut.Goals as goal

pub returns : goal.returns
returns c = splits
