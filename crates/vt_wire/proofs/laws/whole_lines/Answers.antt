use Rattle.vt_wire.proofs.WholeLines.{line_read, whole_is}
use Rattle.vt_wire.proofs.laws.whole_lines.Goals as goal

pub returns-clause-read : goal.returns-clause-read
returns-clause-read c = line_read

pub returns-clause-spelled : goal.returns-clause-spelled
returns-clause-spelled c = whole_is
