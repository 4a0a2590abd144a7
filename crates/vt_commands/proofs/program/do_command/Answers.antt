-- what was done with what was lent, and what an archive leaves out is said
use Rattle.std.proofs.Common.{refl, []}
use Rattle.run_base.proofs.SaidBefore.{unsaid}
use Rattle.vt_commands.proofs.program.do_command.Goals as goal

pub returns-in-Session : goal.returns-in-Session
returns-in-Session g c =
    let x = c.session_at.ensures in
    rw c.in-Session.is ((x.does, record { undialled = refl; folders = (refl, refl); cause = x.cause }), unsaid g.F.Sink _ _ [] refl)

pub returns-in-FormatArenas : goal.returns-in-FormatArenas
returns-in-FormatArenas g c =
    let x = c.fmtarenas.ensures in
    rw c.in-FormatArenas.is (
      (
        x.does,
        record {
          unread = refl;
          unopened = refl;
          undialled = refl;
          folders = (refl, refl);
          cause = x.cause;
        },
      ),
      unsaid g.F.Sink _ _ [] refl,
    )

pub returns-in-FormatSection : goal.returns-in-FormatSection
returns-in-FormatSection g c =
    let x = c.fmtisect.ensures in
    rw c.in-FormatSection.is (
      (
        x.does,
        record {
          unread = refl;
          unopened = refl;
          undialled = refl;
          folders = (refl, refl);
          cause = x.cause;
        },
      ),
      unsaid g.F.Sink _ _ [] refl,
    )

pub returns-in-FormatFilter : goal.returns-in-FormatFilter
returns-in-FormatFilter g c =
    let x = c.fmtbloom.ensures in
    rw c.in-FormatFilter.is (
      (
        x.does,
        record {
          unread = refl;
          unopened = refl;
          undialled = refl;
          folders = (refl, refl);
          cause = x.cause;
        },
      ),
      unsaid g.F.Sink _ _ [] refl,
    )

pub returns-in-FormatIndex : goal.returns-in-FormatIndex
returns-in-FormatIndex g c =
    let x = c.fmtindex.ensures in
    rw c.in-FormatIndex.is ((x.does, record { unread = refl; undialled = refl; folders = (refl, refl); cause = x.cause }), unsaid g.F.Sink _ _ [] refl)

pub returns-in-RebuildIndex : goal.returns-in-RebuildIndex
returns-in-RebuildIndex g c =
    let x = c.buildindex.ensures in
    rw c.in-RebuildIndex.is ((x.does, record { unread = refl; undialled = refl; folders = (refl, refl); cause = x.cause }), unsaid g.F.Sink _ _ [] refl)

pub returns-in-CheckArenas : goal.returns-in-CheckArenas
returns-in-CheckArenas g c =
    let x = c.checkarenas.ensures in
    rw c.in-CheckArenas.is ((x.does, record { unread = refl; undialled = refl; folders = (refl, refl); cause = x.cause }), unsaid g.F.Sink _ _ [] refl)

pub returns-in-Read : goal.returns-in-Read
returns-in-Read g c =
    let x = c.read.ensures in
    rw c.in-Read.is ((x.does, record { unread = refl; folders = (refl, refl); cause = x.cause }), unsaid g.F.Sink _ _ [] refl)

pub returns-in-Write : goal.returns-in-Write
returns-in-Write g c =
    let x = c.write.ensures in
    rw c.in-Write.is ((x.does, record { folders = (refl, refl); cause = x.cause }), unsaid g.F.Sink _ _ [] refl)

pub returns-in-Rehearse : goal.returns-in-Rehearse
returns-in-Rehearse g c =
    let x = c.rehearse.ensures in
    rw c.in-Rehearse.is (
      (
        x.does,
        record {
          unread = refl;
          unopened = refl;
          unused = refl;
          undialled = refl;
          folders = (refl, refl);
          cause = x.cause;
        },
      ),
      unsaid g.F.Sink _ _ [] refl,
    )

pub returns-in-View : goal.returns-in-View
returns-in-View g c =
    let x = c.vacfs.ensures in
    rw c.in-View.is ((x.does, record { folders = (refl, refl); cause = x.cause }), unsaid g.F.Sink _ _ [] refl)

pub returns-in-Vac : goal.returns-in-Vac
returns-in-Vac g c =
    let x = c.vac.ensures in
    rw c.in-Vac.is (
      (x.does.0, (c.now-now-in-Vac.result, x.does.1), record { unread = refl; cause = x.cause }),
      x.does.2,
    )
