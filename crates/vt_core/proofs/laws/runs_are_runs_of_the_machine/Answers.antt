use Rattle.vt_core.proofs.Runs.{runs_machine}
use Rattle.vt_core.proofs.laws.runs_are_runs_of_the_machine.Goals as goal

pub returns : goal.returns
returns g c = λ score events outs old new h tells sound run.
    runs_machine score g.D.Disk events outs old new h tells sound run
