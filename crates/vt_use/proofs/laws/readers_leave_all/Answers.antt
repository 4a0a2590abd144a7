-- each operation only reads, and nothing is ended
use Rattle.std.proofs.Common.{refl}
use Rattle.vt_use.specs.Stores.{at_time}
use Rattle.vt_use.proofs.Answered.{calls_only}
use Rattle.vt_use.proofs.laws.readers_leave_all.Goals as goal

pub returns : goal.returns
returns g c score now exchanges closed h old kept new it tells sound =
    let only = calls_only score g.D.Disk tells exchanges (at_time now old) (at_time now kept) h sound
    (it.reads refl) it.asked in
    rw it.ends.1 (only.sound, only.reads)
