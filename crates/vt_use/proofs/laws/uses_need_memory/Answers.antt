-- no operation tells of damage, and nothing else fails, nor at the end
use Rattle.std.proofs.Common.{refl}
use Rattle.vt_core.specs.Core.{setup_of}
use Rattle.vt_use.specs.Stores.{at_time}
use Rattle.vt_use.proofs.Answered.{calls_answered}
use Rattle.vt_use.proofs.Memory.{calls_need, end_needs}
use Rattle.vt_use.proofs.laws.uses_need_memory.Goals as goal

pub returns : goal.returns
returns g c score now writes exchanges closed h old kept new it tells sound quiet =
    let disk = g.D.Disk in
    let fits = g.met.D.Disk.faults_fit in
    let left = calls_answered score disk tells exchanges (setup_of old) (at_time now old)
    (at_time now kept) h refl sound it.asked in (
      calls_need score disk now writes exchanges closed old kept new it fits quiet tells h sound,
      end_needs score disk now writes exchanges closed old kept new it fits quiet tells left.0 left.1
          writes it.ends,
    )
