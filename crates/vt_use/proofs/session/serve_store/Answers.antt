-- one use of the store, by a session
use Rattle.std.proofs.Common.{refl}
use Rattle.vt_use.proofs.Over.{serves_store}
use Rattle.vt_use.proofs.session.serve_store.Goals as goal

pub returns-clause-serves : goal.returns-clause-serves
returns-clause-serves g c =
    let used = c.use_core-core in
    let uses = used.ensures.uses in
    let output = used.result.0.output in
    serves_store g.S.Scorer.score_of g.D.Disk g.met.D.Disk.faults_fit g.C.Client c.args.now
    c.args.client.now used.new.beside c.args.core uses.kept used.result.1 uses.exchanges _ output.0
    output.1 uses.asks.asked uses.does uses.asks.ends refl refl

pub returns-clause-memory : goal.returns-clause-memory
returns-clause-memory g c none = (c.use_core-core.ensures.uses.does.memory none).1
