use Rattle.std.proofs.Common.{◌+◌, ◌-◌, length}
use Rattle.vt_conf.proofs.LineSettings.{HasRead}
use Rattle.vt_conf.proofs.parsing.read_settings.Given as goal

abbrev pub invariant-loop-start : goal.invariant-loop-start
invariant-loop-start l = HasRead l.text l.start l.number l.settings.items

abbrev pub decreases-loop-start : goal.decreases-loop-start
decreases-loop-start l = length l.text + 1 - l.start
