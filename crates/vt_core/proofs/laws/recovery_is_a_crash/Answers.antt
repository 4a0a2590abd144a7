use Rattle.vt_core.proofs.Recovered.{recovered}
use Rattle.vt_core.proofs.laws.recovery_is_a_crash.Goals as goal

pub returns : goal.returns
returns g c = λ score old during again h tells sound may r.
    recovered g.D.Disk c.crash_gives_a_prefix.ensures.prefix c.partitions_are_told_apart.ensures.one (λ d. g.met.D.Disk.read_is_image d tells) score old during again h tells sound r may
