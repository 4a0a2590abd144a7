-- each failure is that of an operation or of the end
use Rattle.vt_use.proofs.Refusals.{closed_fails, each_fails, first_said, said_fails}
use Rattle.vt_use.proofs.place_laws.local_refusals_have_causes.Goals as goal

pub returns-clause-said : goal.returns-clause-said
returns-clause-said g c score now writes calls said closed old new it none =
    said_fails score g.D.Disk now writes calls said closed old new it g.met.D.Disk.faults_fit none

pub returns-clause-first : goal.returns-clause-first
returns-clause-first g c score now writes calls said closed old new it =
    first_said score g.D.Disk now writes calls said closed old new it

pub returns-clause-each : goal.returns-clause-each
returns-clause-each g c score now writes calls said closed old new it none =
    each_fails score g.D.Disk now writes calls said closed old new it g.met.D.Disk.faults_fit none

pub returns-clause-closed : goal.returns-clause-closed
returns-clause-closed g c score now writes calls said closed old new it none =
    closed_fails score g.D.Disk now writes calls said closed old new it g.met.D.Disk.faults_fit none
