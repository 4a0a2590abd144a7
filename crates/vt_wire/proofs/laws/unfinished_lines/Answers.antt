use Rattle.vt_wire.proofs.WholeLines.{line_over, line_under, more_is}
use Rattle.vt_wire.proofs.laws.unfinished_lines.Goals as goal

pub returns-clause-more : goal.returns-clause-more
returns-clause-more c = λ input. (more_is input, λ h. line_under input h.0 h.1)

pub returns-clause-over : goal.returns-clause-over
returns-clause-over c = line_over
