-- a failure is that of a request or of the end
use Rattle.vt_use.proofs.BlockCauses.{read_cause, write_cause}
use Rattle.vt_use.proofs.block_laws.blocks_have_causes.Goals as goal

pub returns-clause-read : goal.returns-clause-read
returns-clause-read g c score kind s result old new it none =
    read_cause score g.D.Disk g.met.D.Disk.faults_fit old none kind s result new it

pub returns-clause-written : goal.returns-clause-written
returns-clause-written g c score now kind bytes result old new it none =
    write_cause score g.D.Disk g.met.D.Disk.faults_fit old none now kind bytes result new it
