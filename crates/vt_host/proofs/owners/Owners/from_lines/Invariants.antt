-- the owners so far, with those of what is left of the lines behind them, are those of all lines
use Rattle.std.proofs.Common.{List, ◌++◌, length}
use Rattle.vt_host.specs.Cutting.{is_byte, pieces}
use Rattle.vt_host.specs.Owning.{AreOwners}
use Rattle.vt_host.specs.declared.owners.Owner.{Owner}
use Rattle.vt_host.proofs.owners.Owners.from_lines.Given as goal

abbrev pub invariant-loop-rest : goal.invariant-loop-rest
invariant-loop-rest l = (others : List Owner) → AreOwners (pieces (is_byte 10) l.rest) others
    → AreOwners (pieces (is_byte 10) l.lines) (l.owners.items ++ others)

abbrev pub decreases-loop-rest : goal.decreases-loop-rest
decreases-loop-rest l = length l.rest
