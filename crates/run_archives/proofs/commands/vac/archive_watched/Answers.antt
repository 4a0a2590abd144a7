-- what the use of the store tells of the folder within
use Rattle.std.proofs.Common.{◌≡◌, ◌∙◌, true, ap}
use Rattle.vt_use.specs.Change.{dialer_change, parts_change}
use Rattle.vt_use.specs.Places.{UsesAt}
use Rattle.vac_store.specs.Storing.{ArchivesOrGivesUp, CountsFailuresAt, archived_at}
use Rattle.vac_write.specs.Archiving.{folder_read}
use Rattle.run_archives.specs.Watched.{watched_folder}
use Rattle.run_archives.proofs.ArchiveUsed.{archives_so, counts_so, stays_so}
use Rattle.run_archives.proofs.commands.vac.archive_watched.Goals as goal

pub returns-clause-archives : goal.returns-clause-archives
returns-clause-archives g c =
    let score = g.S.Scorer.score_of in
    let disk = g.P.Disk.Disk in
    let link = g.N.Link.Link in
    let folder = g.F.Folder in
    let parts = parts_change g.P.Parts c.args.parts.now c.use_at-used.new.parts in
    let dialer = dialer_change g.N.Dialer g.N.Link.Link c.args.dialer.now c.use_at-used.new.dialer in
    let before = watched_folder c.new-watched.result in
    let after = watched_folder c.use_at-used.new.beside in
    let uses : UsesAt score disk link c.args.at.now c.args.now true
    (λ answer S act holds calls from to. ArchivesOrGivesUp act holds score c.args.bsize
    (folder_read folder before after) answer calls from to) c.use_at-used.result parts dialer =
    archives_so score disk link c.args.at.now c.args.now c.args.bsize parts dialer
    c.new-watched.result c.use_at-used.new.beside folder.tells
    (λ w. folder.holds (watched_folder w)) (λ w. folder.may_fail (watched_folder w))
    (λ w. folder.faults (watched_folder w))
    c.use_at-used.result c.use_at-used.ensures.uses in
    record {
      used = c.use_at-used.result;
      uses = rw (c.into_parts-folder.ensures, c.show_end.ensures) (rw c.new-watched.ensures at uses);
      result_is = c.archived_at-stored.ensures;
    }

pub returns-clause-cause : goal.returns-clause-cause
returns-clause-cause g c =
    let folder = g.F.Folder in
    let parts = parts_change g.P.Parts c.args.parts.now c.use_at-used.new.parts in
    let dialer = dialer_change g.N.Dialer g.N.Link.Link c.args.dialer.now c.use_at-used.new.dialer in
    let counts : CountsFailuresAt (archived_at c.use_at-used.result)
    (folder.faults (watched_folder c.new-watched.result))
    (folder.faults (watched_folder c.use_at-used.new.beside)) =
    counts_so g.S.Scorer.score_of g.P.Disk.Disk g.N.Link.Link c.args.at.now c.args.now c.args.bsize parts
    dialer c.new-watched.result c.use_at-used.new.beside folder.tells
    (λ w. folder.holds (watched_folder w)) (λ w. folder.may_fail (watched_folder w))
    (λ w. folder.faults (watched_folder w))
    c.use_at-used.result c.use_at-used.ensures.uses c.use_at-used.ensures.untouched
    (g.met.F.Folder.faults_fit (watched_folder c.new-watched.result)) in
    rw (c.archived_at-stored.ensures, c.into_parts-folder.ensures, c.show_end.ensures)
    (rw c.new-watched.ensures at counts)

pub returns-clause-stays : goal.returns-clause-stays
returns-clause-stays g c told =
    let folder = g.F.Folder in
    let parts = parts_change g.P.Parts c.args.parts.now c.use_at-used.new.parts in
    let dialer = dialer_change g.N.Dialer g.N.Link.Link c.args.dialer.now c.use_at-used.new.dialer in
    let same : (folder.holds (watched_folder c.use_at-used.new.beside)
    ≡ folder.holds (watched_folder c.new-watched.result))
    × (folder.may_fail (watched_folder c.use_at-used.new.beside)
    ≡ folder.may_fail (watched_folder c.new-watched.result)) =
    stays_so g.S.Scorer.score_of g.P.Disk.Disk g.N.Link.Link c.args.at.now c.args.now c.args.bsize parts
    dialer c.new-watched.result c.use_at-used.new.beside folder.tells
    (λ w. folder.holds (watched_folder w)) (λ w. folder.may_fail (watched_folder w))
    (λ w. folder.faults (watched_folder w))
    c.use_at-used.result c.use_at-used.ensures.uses c.use_at-used.ensures.untouched told in
    ap folder.holds (c.into_parts-folder.ensures ∙ c.show_end.ensures) ∙ same.0
    ∙ ap folder.holds c.new-watched.ensures

pub returns-clause-paths : goal.returns-clause-paths
returns-clause-paths g c told =
    let folder = g.F.Folder in
    let parts = parts_change g.P.Parts c.args.parts.now c.use_at-used.new.parts in
    let dialer = dialer_change g.N.Dialer g.N.Link.Link c.args.dialer.now c.use_at-used.new.dialer in
    let same : (folder.holds (watched_folder c.use_at-used.new.beside)
    ≡ folder.holds (watched_folder c.new-watched.result))
    × (folder.may_fail (watched_folder c.use_at-used.new.beside)
    ≡ folder.may_fail (watched_folder c.new-watched.result)) =
    stays_so g.S.Scorer.score_of g.P.Disk.Disk g.N.Link.Link c.args.at.now c.args.now c.args.bsize parts
    dialer c.new-watched.result c.use_at-used.new.beside folder.tells
    (λ w. folder.holds (watched_folder w)) (λ w. folder.may_fail (watched_folder w))
    (λ w. folder.faults (watched_folder w))
    c.use_at-used.result c.use_at-used.ensures.uses c.use_at-used.ensures.untouched told in
    ap folder.may_fail (c.into_parts-folder.ensures ∙ c.show_end.ensures) ∙ same.1
    ∙ ap folder.may_fail c.new-watched.ensures
