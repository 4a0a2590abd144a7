use Rattle.std.proofs.Common.{◌+◌, refl}
use Rattle.vt_host.proofs.ToldFiles.{content_read}
use Rattle.vt_host.proofs.files.StdFilesFiles.TheImpl.Goals as goal

-- what the opener tells of names these files tell, where that stays as it is
pub read-tells : goal.read-tells
read-tells g c =
    let opener = g.O.Opener in
    record {
      bound = c.ensures.bound;
      content = content_read g.O.File.FileCalls.tells opener.still c.result
          (opener.holds c.args.name.now) (c.args.limit + 1) c.ensures.content;
      files = λ name. refl;
      cause = c.ensures.cause;
    }
