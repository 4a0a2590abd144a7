use Rattle.std.proofs.Common.{length}
use Rattle.vt_format.proofs.index.+index_sections.Given as goal

abbrev pub decreases-index_sections : goal.decreases-index_sections
decreases-index_sections g l = length l.files.now
