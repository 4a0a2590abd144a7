-- the first failure is that of the first call that was refused
use Rattle.vac_view.specs.Viewing.{first_bad}
use Rattle.vac_view.proofs.Failing.{view_fails_over}
use Rattle.vac_view.proofs.laws.remote_failures_have_causes.Goals as goal

pub returns : goal.returns
returns g c score_of score p result calls met last back talks it =
    view_fails_over g.C.Link back (first_bad result) last.refused calls it.first
    (c.refusals_have_causes.ensures.first score_of calls met last back talks)
