use Rattle.std.proofs.Common.{◌+◌, ◌-◌, length}
use Rattle.vt_conf.proofs.TextLines.{HasPassed}
use Rattle.vt_conf.proofs.parsing.test_lines.Given as goal

abbrev pub invariant-loop-start : goal.invariant-loop-start
invariant-loop-start l = HasPassed l.text l.start l.number

abbrev pub decreases-loop-start : goal.decreases-loop-start
decreases-loop-start l = length l.text + 1 - l.start
