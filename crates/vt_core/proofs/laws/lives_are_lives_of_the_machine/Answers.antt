use Rattle.vt_core.proofs.Runs.{lives_machine}
use Rattle.vt_core.proofs.laws.lives_are_lives_of_the_machine.Goals as goal

pub returns : goal.returns
returns g c = λ score acts old new h tells sound life.
    lives_machine g.D.Disk c.recovery_is_a_crash.ensures score acts old new h tells sound life
