-- each block that is asked for is that of the history, which stays
use Rattle.std.proofs.Common.{subst}
use Rattle.vt_core.specs.Core.{CoreState}
use Rattle.vt_core.specs.Sound.{IsSound}
use Rattle.vac_view.proofs.Reading.{shown}
use Rattle.vac_view.proofs.laws.views_are_right.Goals as goal

pub returns : goal.returns
returns g c score_of score p result said added closed h old new tells sound it =
    let disk = g.D.Disk in
    let only = c.readers_leave_all.ensures score_of 0 it.exchanges closed h old it.kept new it.asks tells
    sound in
    let leaves = c.uses_leave.ensures score_of 0 _ it.exchanges closed h old it.kept new it.asks tells
    (subst (λ (k : CoreState g.row.D.Denot). IsSound score_of disk k h) it.asks.ends.1 only.0) in (
      shown score_of disk tells h score p result said added closed old new sound it,
      record {
        sound = only.0;
        same = only.1.same;
        keeps = leaves.keeps;
        stands = leaves.stands;
      },
    )
