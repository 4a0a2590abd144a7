use Rattle.std.proofs.Common.{refl}
use Rattle.std.proofs.lemmas.Result.{err_from_is_err_and}
use Rattle.nine_view.proofs.FolderHandled.{folder_handled, not_listed}
use Rattle.nine_view.proofs.view.View.read_folder.Goals as goal

pub returns-in_err-list_files : goal.returns-in_err-list_files
returns-in_err-list_files g c = λ f r at now.
    let p = err_from_is_err_and c.from_residual.result c.from_residual.ensures.1 in
    rw (p.1, p.2) (not_listed g.B.Blocks.does g.B.Blocks.holds g.B.Scorer.score_of
    c.args.blocks.now c.list_files.new.blocks c.args.tag c.args.self.now c.args.out.now c.args.fid
    f r c.args.offset c.args.count c.list_files.new.self c.in_err-list_files.field-0.0 f.files
    (c.in_err-list_files.ensures.keeps f at))

pub returns : goal.returns
returns g c = λ f r at now.
    folder_handled g.B.Blocks.does g.B.Blocks.holds g.B.Scorer.score_of
    c.args.blocks.now c.list_files.new.blocks c.args.tag c.args.self.now c.tell_files.new.out
    c.args.fid f r c.args.offset c.args.count c.list_files.new.self c.tell_files.new.self
    c.tell_files.result f.files at now refl (c.in_ok-list_files.ensures.keeps f at)
    c.tell_files.ensures
