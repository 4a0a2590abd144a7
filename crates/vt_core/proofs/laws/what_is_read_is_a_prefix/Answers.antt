use Rattle.vt_core.proofs.Read.{read_prefix}
use Rattle.vt_core.proofs.laws.what_is_read_is_a_prefix.Goals as goal

pub returns : goal.returns
returns g c = λ score setup tables devices h more base tells short log.
    read_prefix g.D.Disk c.logs_are_told_apart.ensures (λ d. g.met.D.Disk.read_is_image d tells) score setup tables devices h more base short log
