use Rattle.vt_host.proofs.Moving.{through}
use Rattle.vt_host.proofs.sink.write_through.Goals as goal

pub returns-clause-puts : goal.returns-clause-puts
returns-clause-puts g c tells =
    let writes = g.W.WriteCalls in
    through c.flush_all.result c.args.piece.now (writes.went c.args.output.now)
    (writes.went c.put_all.new.self) (writes.went c.flush_all.new.self)
    (c.in_ok-put_all.ensures.puts tells) (c.flush_all.ensures.stays tells)
