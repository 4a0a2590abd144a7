use Rattle.vt_tree.proofs.ReadBack.{stream_reads_back}
use Rattle.vt_tree.proofs.laws.streams_read_back.Goals as goal

pub returns : goal.returns
returns c = stream_reads_back
