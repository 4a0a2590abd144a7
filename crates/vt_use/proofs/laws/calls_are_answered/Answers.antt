-- each operation is answered behind those before it
use Rattle.std.proofs.Common.{refl}
use Rattle.vt_core.specs.Core.{setup_of}
use Rattle.vt_use.specs.Stores.{at_time}
use Rattle.vt_use.proofs.Answered.{calls_answered}
use Rattle.vt_use.proofs.laws.calls_are_answered.Goals as goal

pub returns : goal.returns
returns g c score now writes exchanges closed h old kept new it tells sound =
    calls_answered score g.D.Disk tells exchanges (setup_of old) (at_time now old) (at_time now kept) h
    refl sound it.asked
