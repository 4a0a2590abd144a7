-- no request tells of damage, and nothing else fails
use Rattle.std.proofs.Common.{refl}
use Rattle.vt_core.specs.Core.{setup_of}
use Rattle.vt_use.specs.Stores.{at_time}
use Rattle.vt_use.proofs.Answered.{calls_answered}
use Rattle.vt_use.proofs.SessionLeaves.{needs_memory}
use Rattle.vt_use.proofs.session_laws.sound_stores_need_memory.Goals as goal

pub returns : goal.returns
returns g c score end now old new tells input output h serves disk_tells sound quiet =
    let disk = g.D.Disk in
    let left = calls_answered score disk disk_tells serves.asked.calls (setup_of old)
    (at_time now old) (at_time now serves.served) h refl sound serves.asked.does in
    needs_memory score disk end now old new tells input output serves g.met.D.Disk.faults_fit quiet
    disk_tells h left.0 sound left.1
