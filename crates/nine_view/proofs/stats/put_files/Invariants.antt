use Rattle.nine_view.proofs.Fitting.{PutsSoFar}
use Rattle.nine_view.proofs.stats.put_files.Given as goal

-- the files so far had room
abbrev pub invariant-loop-node : goal.invariant-loop-node
invariant-loop-node l = PutsSoFar l.room l.files l.node-index l.count l.end l.buf
