-- nothing fails in the session, nor at the end
use Rattle.std.proofs.Common.{refl, true}
use Rattle.vt_use.proofs.SessionLeaves.{asks, closes_well, session_quiet}
use Rattle.vt_use.proofs.session_laws.sessions_end_well.Goals as goal

pub returns : goal.returns
returns g c score end now old new tells input output h serves disk_tells sound told quiet =
    let disk = g.D.Disk in
    let fits = g.met.D.Disk.faults_fit in
    let session = serves.session h disk_tells sound told in
    let closed = closes_well score disk end now old new tells input output serves fits quiet
    disk_tells session.last session.sound in
    let leaves = c.uses_leave.ensures score now true serves.asked.calls end.closed
    session.last old serves.served new (asks score disk end now old new tells input output serves)
    disk_tells session.sound in
    let whole = leaves.done refl closed in
    record {
      failures = session.quiet (session_quiet score disk end now old new tells input output serves
          fits quiet disk_tells);
      closed = closed;
      marked = serves.ends.whole session.last disk_tells session.sound closed;
      read = whole.0;
      stands = whole.1;
    }
