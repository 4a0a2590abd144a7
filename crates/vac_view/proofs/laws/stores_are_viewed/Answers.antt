-- the store that was opened has the log of its partitions
use Rattle.std.proofs.Common.{Result, false, subst}
use Rattle.vt_base.specs.declared.why.Why.{Why}
use Rattle.vt_core.specs.Core.{CoreState}
use Rattle.vt_core.specs.Sound.{IsSound}
use Rattle.vt_use.specs.Uses.{LeftInStore}
use Rattle.vac_view.proofs.laws.stores_are_viewed.Goals as goal

pub returns : goal.returns
returns g c score_of tells conf score p result said added closed old new tables devices setup h log
    base told disk_tells x under is_log =
    let disk = g.D.Disk in
    let it = x.does in
    let recalls = c.opened_stores_recall.ensures.recalls score_of tells conf 1 old x.during x.opened
    tables devices setup h log base told disk_tells x.opens under is_log in
    let right = c.views_are_right.ensures score_of score p result said added closed log x.opened x.left
    disk_tells recalls.sound it in
    let kept = subst (λ (k : CoreState g.row.D.Denot). IsSound score_of disk k log) it.asks.ends.1
    right.1.sound in (
      right.0,
      record {
        kept = it.kept;
        left = subst (λ (r : Result (Unit {0}) Why). LeftInStore score_of disk conf false r log it.kept
            new tables (record setup { base = base }) log) it.asks.ends.0
            (c.uses_leave_the_store.ensures score_of tells conf 0 false it.exchanges closed log old
            x.during new x.opened it.kept x.left tables devices setup h log base told disk_tells
            x.opens it.asks x.shape x.given under is_log kept);
      },
    )
