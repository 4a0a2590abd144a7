-- each failure is that of a request or of the end
use Rattle.vt_use.proofs.SessionLeaves.{tells_causes}
use Rattle.vt_use.proofs.session_laws.sessions_tell_causes.Goals as goal

pub returns : goal.returns
returns g c score end now old new tells input output serves none =
    tells_causes score g.D.Disk end now old new tells input output serves
    g.met.D.Disk.faults_fit none
