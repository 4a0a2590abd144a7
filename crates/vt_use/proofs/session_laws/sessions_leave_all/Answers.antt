-- what a use leaves
use Rattle.std.proofs.Common.{true, ◌++◌}
use Rattle.vt_session.specs.Turns.{synced_numbers}
use Rattle.vt_use.proofs.SessionLeaves.{all_most, asks}
use Rattle.vt_use.proofs.session_laws.sessions_leave_all.Goals as goal

pub returns : goal.returns
returns g c score end now old new tells input output h serves disk_tells sound told =
    let session = serves.session h disk_tells sound told in
    let leaves = c.uses_leave.ensures score now true serves.asked.calls end.closed
    session.last old serves.served new
    (asks score g.D.Disk end now old new tells input output serves) disk_tells session.sound in
    record {
      keeps = leaves.keeps;
      sound = leaves.sound;
      synced = all_most (synced_numbers (session.turns ++ session.unsaid)) serves.served.log.durable
          new.log.durable leaves.durable session.synced;
      stands = leaves.stands;
    }
