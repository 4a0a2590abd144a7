-- the folder that was handed out, what was archived of it, and that it is back
use Rattle.std.proofs.Common.{◌≡◌, inl, inr, refl, subst, Ok, Err}
use Rattle.std.specs.Prelude.{MatchBool}
use Rattle.vt_base.specs.Faults.{HasRisen}
use Rattle.vt_out.specs.Files.{is_fault}
use Rattle.run_base.specs.Change.{dialer_change, parts_change}
use Rattle.run_archives.proofs.ArchiveDone.{stores_folder}
use Rattle.run_archives.proofs.FoldersBack.{same_everywhere}
use Rattle.run_archives.proofs.commands.vac.archive_at.Goals as goal

pub returns-in-Err-Failed-clause-none : goal.returns-in-Err-Failed-clause-none
returns-in-Err-Failed-clause-none g c =
    let folders = g.G.Folders in
    let x = c.in-Err-Failed.ensures in
    let old = c.args.folders.now in
    let new = c.folder.new.self in
    inl (record {
      none = subst (λ e. MatchBool (is_fault e) (HasRisen (folders.faults old) (folders.faults new))
          (folders.faults new ≡ folders.faults old)) c.in-Err-Failed.field-0-is x.cause;
      same = λ t. same_everywhere (folders.standing old) (folders.standing new) c.args.name.now
          (x.stays t) (x.others t);
      unused = refl;
      undialled = refl;
    })

pub returns-in-Err-NoMemory-clause-none : goal.returns-in-Err-NoMemory-clause-none
returns-in-Err-NoMemory-clause-none g c =
    let folders = g.G.Folders in
    let x = c.in-Err-NoMemory.ensures in
    let old = c.args.folders.now in
    let new = c.folder.new.self in
    inl (record {
      none = subst (λ e. MatchBool (is_fault e) (HasRisen (folders.faults old) (folders.faults new))
          (folders.faults new ≡ folders.faults old)) c.in-Err-NoMemory.field-0-is x.cause;
      same = λ t. same_everywhere (folders.standing old) (folders.standing new) c.args.name.now
          (x.stays t) (x.others t);
      unused = refl;
      undialled = refl;
    })

pub returns-in-Ok-stored-clause-stored : goal.returns-in-Ok-stored-clause-stored
returns-in-Ok-stored-clause-stored g c =
    let folders = g.G.Folders in
    let folder = g.G.Folder.Folder in
    let old = c.args.folders.now in
    let away = c.in-Ok.ensures in
    let x = c.archive_watched-stored.ensures in
    let done = c.done.ensures in
    stores_folder g.S.Scorer.score_of g.P.Disk.Disk g.N.Link.Link c.args.name.now c.args.at.now
    c.args.bsize c.args.now (parts_change g.P.Parts c.args.parts.now c.archive_watched-stored.new.parts)
    (dialer_change g.N.Dialer g.N.Link.Link c.args.dialer.now c.archive_watched-stored.new.dialer)
    folder.tells folders.tells (folder.holds c.in-Ok.folder)
    (folder.holds c.archive_watched-stored.result.1) (folder.may_fail c.in-Ok.folder)
    (folder.may_fail c.archive_watched-stored.result.1) (folders.standing old)
    (folders.standing c.folder.new.self) (folders.standing c.done.new.self)
    c.archive_watched-stored.result.0 (Ok c.in-Ok-stored.stored) c.in-Ok-stored.is
    (folders.faults old) (folders.faults c.folder.new.self) (folders.faults c.done.new.self)
    (folder.faults c.in-Ok.folder) (folder.faults c.archive_watched-stored.result.1) away.found
    away.lent away.others done.back done.others x.stays x.paths x.archives away.fresh x.cause away.cause
    done.faults (g.met.G.Folders.faults_fit c.folder.new.self)

pub returns-in-Err-clause-none : goal.returns-in-Err-clause-none
returns-in-Err-clause-none g c =
    let folders = g.G.Folders in
    let folder = g.G.Folder.Folder in
    let old = c.args.folders.now in
    let away = c.in-Ok.ensures in
    let x = c.archive_watched-stored.ensures in
    let done = c.done.ensures in
    inr (
      c.in-Err.bad,
      stores_folder g.S.Scorer.score_of g.P.Disk.Disk g.N.Link.Link c.args.name.now c.args.at.now
          c.args.bsize c.args.now
          (parts_change g.P.Parts c.args.parts.now c.archive_watched-stored.new.parts)
          (dialer_change g.N.Dialer g.N.Link.Link c.args.dialer.now
          c.archive_watched-stored.new.dialer)
          folder.tells folders.tells (folder.holds c.in-Ok.folder)
          (folder.holds c.archive_watched-stored.result.1) (folder.may_fail c.in-Ok.folder)
          (folder.may_fail c.archive_watched-stored.result.1) (folders.standing old)
          (folders.standing c.folder.new.self) (folders.standing c.done.new.self)
          c.archive_watched-stored.result.0 (Err c.in-Err.bad) c.in-Err.is
          (folders.faults old) (folders.faults c.folder.new.self)
          (folders.faults c.done.new.self) (folder.faults c.in-Ok.folder)
          (folder.faults c.archive_watched-stored.result.1) away.found away.lent away.others
          done.back done.others x.stays x.paths x.archives away.fresh x.cause away.cause done.faults
          (g.met.G.Folders.faults_fit c.folder.new.self),
      c.told.ensures,
    )
