use Rattle.std.specs.Prelude.{IsTrue}
use Rattle.vt_host.proofs.Moving.{appended, cut_off}
use Rattle.vt_host.proofs.sink.StdSinkSink.TheImpl.Goals as goal

-- what the writer tells of a call the sink tells
pub put-tells : goal.put-tells
put-tells g c =
    let writes = g.W.WriteCalls in
    let told = IsTrue writes.tells in
    let old = writes.went c.args.self.now.output in
    let new = writes.went c.new.self.now.output in
    record {
      appended = appended told c.args.piece.now old new c.result c.ensures.puts;
      failed = cut_off told c.args.piece.now old new c.result c.ensures.puts;
      cause = c.ensures.cause;
    }
