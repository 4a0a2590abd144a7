-- what was opened keeps the archive; what isn't opened stands
use Rattle.std.proofs.Common.{◌≡◌, Result, ℕ, List, sym, subst}
use Rattle.vt_core.specs.Files.{PerDevice}
use Rattle.vt_core.specs.Mounting.{LeavesStanding}
use Rattle.vt_open.specs.Names.{AreUnder}
use Rattle.vt_tree.specs.Calls.{Call}
use Rattle.vt_tree.specs.Maps.{Maps}
use Rattle.vac_store.specs.Stored.{KeepsStored}
use Rattle.vac_store.specs.Storing.{ArchivesOrGivesUp}
use Rattle.vac_store.specs.declared.outcome.ArchivedAt.{ArchivedAt}
use Rattle.vac_store.specs.declared.outcome.ArchiveError.{ArchiveError}
use Rattle.vt_commands.specs.Answers.{WhereStored}
use Rattle.vt_commands.proofs.Stored.{where_stored}
use Rattle.vt_commands.proofs.laws.archives_keep_the_store.Goals as goal

pub returns : goal.returns
returns g c score now name conf bsize result folders parts dialer tables devices setup h history base x tells
    disk_tells under log =
    let disk = g.P.Disk.Disk in
    subst (λ (r : Result ArchivedAt ArchiveError). WhereStored
    (KeepsStored score disk conf bsize x.folder r parts.new tables (record setup { base = base }) history)
    ((back : PerDevice _) → AreUnder parts.new conf back
    → LeavesStanding score disk tables devices back) r) (sym x.archives.result_is)
    (where_stored score disk g.N.Link.Link conf now parts dialer
    (λ answer S act holds calls from to. ArchivesOrGivesUp act holds score bsize x.folder answer calls
    from to)
    (λ (r : Result ArchivedAt ArchiveError). KeepsStored score disk conf bsize x.folder r
    parts.new tables (record setup { base = base }) history)
    ((back : PerDevice _) → AreUnder parts.new conf back → LeavesStanding score disk tables devices back)
    (λ answer said added closed uses. c.stores_keep_archives.ensures score parts.tells conf now bsize
    x.folder answer said added closed parts.old parts.new tables devices setup h history base tells
    disk_tells uses under log)
    (λ bad refuses back under'. c.refused_stores_stand.ensures.standing score parts.tells conf parts.old
    parts.new parts.faults parts.faults' bad tables devices back tells disk_tells refuses under under')
    x.archives.used x.archives.uses)
