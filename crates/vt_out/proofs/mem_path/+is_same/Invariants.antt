use Rattle.std.proofs.Common.{length}
use Rattle.vt_out.proofs.mem_path.+is_same.Given as goal

abbrev pub decreases-is_same : goal.decreases-is_same
decreases-is_same l = length l.path.now
