-- the store that was opened holds what its partitions read as
use Rattle.vt_use.specs.Stores.{at_time}
use Rattle.vt_use.proofs.Answered.{calls_answered}
use Rattle.vt_use.proofs.laws.stores_are_used.Goals as goal

pub returns : goal.returns
returns g c score told conf now writes exchanges closed old during new opened kept left tables devices
    setup h log base is_told tells opens it shape given under is_log =
    let recalls = c.opened_stores_recall.ensures.recalls score told conf 1 old during opened
    tables devices setup h log base is_told tells opens under is_log in
    let went = calls_answered score g.D.Disk tells exchanges (record setup { base = base })
    (at_time now opened) (at_time now kept) log recalls.setup recalls.sound it.asked in (
      went.0,
      went.1,
      went.2,
      c.uses_leave_the_store.ensures score told conf now writes exchanges closed went.0 old during
          new opened kept left tables devices setup h log base is_told tells opens it shape given
          under is_log went.1,
    )
