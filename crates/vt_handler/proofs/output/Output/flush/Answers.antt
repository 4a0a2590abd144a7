-- all that waits is put at once
use Rattle.vt_handler.proofs.Written.{put_writes}
use Rattle.vt_handler.proofs.output.Output.flush.Goals as goal

pub returns-clause-written : goal.returns-clause-written
returns-clause-written g c =
    rw (← c.self.view_is, ← c.deref.ensures.value) (put_writes c.put.result
    (g.C.Client.written c.args.client.now) _ (g.C.Client.written c.put.new.self)
    c.put.ensures.appended c.put.ensures.failed)
