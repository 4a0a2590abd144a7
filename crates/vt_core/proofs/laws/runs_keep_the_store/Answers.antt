use Rattle.vt_core.proofs.Runs.{runs_keep}
use Rattle.vt_core.proofs.laws.runs_keep_the_store.Goals as goal

pub returns : goal.returns
returns g c = λ score events outs old new run. runs_keep score g.D.Disk events outs old new run
