-- the calls of an archiving
use Rattle.std.proofs.Common.{◌≡◌, true, false}
use Rattle.vac_write.specs.Archiving.{folder_read}
use Rattle.vac_store.proofs.Into.{archived_by}
use Rattle.vac_store.proofs.storing.ArchiveFolderBlockJob.run.Goals as goal

pub returns : goal.returns
returns g c =
    let by = archived_by g.B.Blocks.does g.B.Blocks.holds g.B.Scorer.score_of c.args.self.now.bsize
    (folder_read g.F.Folder c.args.folder.now c.archive.new.folder) c.args.blocks.now
    c.archive.new.blocks c.archive.result c.archive.ensures.archived c.archive.ensures.refused in (
      by.0,
      by.1,
      λ no. absurd (let never : true ≡ false = no in cc),
      (
        by.2,
        c.archive.ensures.cause,
        λ told. (c.archive.ensures.stays told, c.archive.ensures.paths told),
      ),
    )
