use Rattle.vt_core.proofs.Read.{log_is_read}
use Rattle.vt_core.proofs.laws.devices_have_a_log.Goals as goal

pub returns : goal.returns
returns g c = λ score setup tables devices h tells legal is each.
    log_is_read g.D.Disk (λ d. g.met.D.Disk.read_is_image d tells) score setup tables devices h legal is each
