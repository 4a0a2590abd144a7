use Rattle.vt_wire.proofs.Frames.{goes_on}
use Rattle.vt_wire.proofs.laws.cutting_goes_on.Goals as goal

pub returns : goal.returns
returns c = goes_on
