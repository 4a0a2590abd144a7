use Rattle.std.proofs.Common.{length}
use Rattle.vt_format.proofs.index.+index_arenas.Given as goal

abbrev pub decreases-index_arenas : goal.decreases-index_arenas
decreases-index_arenas g l = length l.files.now
