-- what is archived stands in the store
use Rattle.std.proofs.Common.{true}
use Rattle.vt_use.specs.Places.{as_ended, as_refused}
use Rattle.vac_store.specs.Storing.{came_to}
use Rattle.vac_store.proofs.Into.{into}
use Rattle.vac_store.proofs.Kept.{keeps_folder}
use Rattle.vac_store.proofs.laws.archives_are_kept.Goals as goal

pub returns : goal.returns
returns g c score now bsize folder answer said added closed h old new disk_tells sound x =
    let disk = g.D.Disk in
    let it = into score disk now bsize folder old new answer said added closed x in
    keeps_folder score disk now bsize folder h old new disk_tells sound
    (came_to answer (as_refused said) added (as_ended closed)) it
    (λ last kept. c.uses_leave.ensures score now true it.exchanges it.closed last old
    it.kept.store.core new it.asks disk_tells kept)
