use Rattle.std.proofs.Common.{◌<◌, ◌^◌, ap, arith}
use Rattle.nine_wire.specs.Messages.{Qid}
use Rattle.nine_view.proofs.Fitting.{fits_stat}
use Rattle.nine_view.proofs.stats.stat_of.Goals as goal

pub returns-clause-fits : goal.returns-clause-fits
returns-clause-fits c =
    let path : c.args.node.now.qid < 2 ^ 64 =
    let e = ap (λ (q : Qid). q.path) c.qid_of.ensures in omega arith in
    let mtime = c.mtime_of.ensures in
    let size = c.size_of.ensures in
    fits_stat c.args.node.now c.requires path (omega arith) (omega arith)
