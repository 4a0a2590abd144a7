use Rattle.vt_open.proofs.Shapes.{kept_shape, run_shape}
use Rattle.vt_open.proofs.laws.shapes_are_kept.Goals as goal

pub returns-clause-run : goal.returns-clause-run
returns-clause-run g c = λ score events outs old new runs. run_shape score g.D.Disk events outs old new runs

pub returns-clause-closed : goal.returns-clause-closed
returns-clause-closed g c = λ score tells conf sessions before during after opened k told opens shape given.
    record { shape = shape; under = given.stand told (opens.taken.out told) (opens.taken.apart told) }

pub returns-clause-kept : goal.returns-clause-kept
returns-clause-kept g c = λ old new sizes shards bloom. kept_shape g.D.Disk old new sizes shards bloom
