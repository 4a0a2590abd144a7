use Rattle.std.proofs.Common.{length}
use Rattle.vt_out.proofs.finding_items.+inside_of.Given as goal

abbrev pub decreases-inside_of : goal.decreases-inside_of
decreases-inside_of l = length l.items.now
