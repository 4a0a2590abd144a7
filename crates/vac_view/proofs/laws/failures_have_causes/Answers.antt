-- the first failure is that of the first call that was refused
use Rattle.vt_use.proofs.Refusals.{calls_store}
use Rattle.vac_view.specs.Viewing.{first_bad}
use Rattle.vac_view.proofs.Failing.{view_fails}
use Rattle.vac_view.proofs.laws.failures_have_causes.Goals as goal

pub returns : goal.returns
returns g c score_of score p result said added closed old new it none =
    view_fails g.D.Disk old new it.does.calls
    (c.local_refusals_have_causes.ensures.each score_of 0 _ it.does.calls said closed old new
    (calls_store score_of g.D.Disk 0 _ _ said added closed old new it) none) (first_bad result)
    it.does.does.first
