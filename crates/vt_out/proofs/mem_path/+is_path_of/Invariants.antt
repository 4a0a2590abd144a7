use Rattle.std.proofs.Common.{length}
use Rattle.vt_out.proofs.mem_path.+is_path_of.Given as goal

abbrev pub decreases-is_path_of : goal.decreases-is_path_of
decreases-is_path_of l = length l.paths.now
