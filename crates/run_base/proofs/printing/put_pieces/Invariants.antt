-- the pieces so far, and no fault
use Rattle.std.proofs.Common.{◌≡◌, ◌++◌, map, take, IsTrue}
use Rattle.std.specs.List.{concat}
use Rattle.run_base.proofs.printing.put_pieces.Given as goal

abbrev pub invariant-loop-piece : goal.invariant-loop-piece
invariant-loop-piece g l = record {
  written : IsTrue g.K.Sink.tells → g.K.Sink.written l.sink
      ≡ g.K.Sink.written l.fn.sink ++ concat (map (λ piece. piece.now) (take l.piece-index l.pieces));
  no_fault : g.K.Sink.faults l.sink ≡ g.K.Sink.faults l.fn.sink;
}
