use Rattle.vt_wire.proofs.WholeLines.{wrong_is}
use Rattle.vt_wire.proofs.laws.wrong_lines.Goals as goal

pub returns : goal.returns
returns c = wrong_is
