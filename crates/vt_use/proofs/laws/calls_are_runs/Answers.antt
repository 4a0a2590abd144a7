-- what is asked is a run of events, and so is the end
use Rattle.vt_use.proofs.Tells.{run_tells}
use Rattle.vt_use.proofs.Uses.{use_keeps, use_runs}
use Rattle.vt_use.proofs.laws.calls_are_runs.Goals as goal

pub returns-clause-run : goal.returns-clause-run
returns-clause-run g c score now writes exchanges closed old kept new it =
    use_runs score g.D.Disk now writes exchanges closed old kept new it

pub returns-clause-keeps : goal.returns-clause-keeps
returns-clause-keeps g c score now writes exchanges closed old kept new it =
    use_keeps score g.D.Disk now writes exchanges closed old kept new it

pub returns-clause-stops : goal.returns-clause-stops
returns-clause-stops g c score old new run =
    run_tells g.D.Disk g.met.D.Disk.faults_fit score old new run
