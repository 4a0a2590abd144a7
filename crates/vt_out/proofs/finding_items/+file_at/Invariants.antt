use Rattle.std.proofs.Common.{length}
use Rattle.vt_out.proofs.finding_items.+file_at.Given as goal

abbrev pub decreases-file_at : goal.decreases-file_at
decreases-file_at l = length l.path.now
