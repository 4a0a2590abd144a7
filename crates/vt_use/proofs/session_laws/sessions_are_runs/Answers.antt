-- requests and the end are runs of events
use Rattle.vt_use.proofs.Tells.{run_tells}
use Rattle.vt_use.proofs.SessionLeaves.{store_keeps, store_runs}
use Rattle.vt_use.proofs.session_laws.sessions_are_runs.Goals as goal

pub returns-clause-run : goal.returns-clause-run
returns-clause-run g c score end now old new tells input output serves =
    store_runs score g.D.Disk end now old new tells input output serves

pub returns-clause-keeps : goal.returns-clause-keeps
returns-clause-keeps g c score end now old new tells input output serves =
    store_keeps score g.D.Disk end now old new tells input output serves

pub returns-clause-stops : goal.returns-clause-stops
returns-clause-stops g c score old new run =
    run_tells g.D.Disk g.met.D.Disk.faults_fit score old new run
