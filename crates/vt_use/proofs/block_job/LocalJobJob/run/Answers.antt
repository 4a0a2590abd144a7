-- each call of the store of blocks asks the store for one operation
use Rattle.vt_use.proofs.Calls.{on_store}
use Rattle.vt_use.proofs.block_job.LocalJobJob.run.Goals as goal

pub returns : goal.returns
returns g c =
    let ran = rw c.new-blocks.ensures at c.run-output.ensures in
    let it = on_store g.T.Store _ c.refused-first_refusal.result c.args.store c.into_parts-store.result.0
    ran.0 c.run-output.new.blocks ran.1 ran.3 c.refused-first_refusal.ensures c.into_parts-store.ensures in
    (it.0, it.1, λ reads. it.2 (ran.2 reads), it.3)
