-- each failure is that of an operation or of the end
use Rattle.vt_use.proofs.Uses.{each_cause, end_cause, first_cause}
use Rattle.vt_use.proofs.laws.uses_have_causes.Goals as goal

pub returns-clause-each : goal.returns-clause-each
returns-clause-each g c score now writes exchanges closed old kept new it none =
    each_cause score g.D.Disk now writes exchanges closed old kept new it g.met.D.Disk.faults_fit none

pub returns-clause-first : goal.returns-clause-first
returns-clause-first g c score now writes exchanges closed old kept new it none =
    first_cause score g.D.Disk now writes exchanges closed old kept new it g.met.D.Disk.faults_fit none

pub returns-clause-closed : goal.returns-clause-closed
returns-clause-closed g c score now writes exchanges closed old kept new it none =
    end_cause score g.D.Disk now writes exchanges closed old kept new it g.met.D.Disk.faults_fit none
