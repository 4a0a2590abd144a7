use Rattle.vt_wire.proofs.WholeLines.{line_stays}
use Rattle.vt_wire.proofs.laws.whole_lines_stay.Goals as goal

pub returns : goal.returns
returns c = line_stays
