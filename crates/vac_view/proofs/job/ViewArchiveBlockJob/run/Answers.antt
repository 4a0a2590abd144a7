-- it is asked for blocks alone
use Rattle.std.proofs.Common.{refl}
use Rattle.vac_view.specs.Viewing.{calls_of_view, passed}
use Rattle.vac_view.proofs.Calls.{view_first, view_gets}
use Rattle.vac_view.proofs.job.ViewArchiveBlockJob.run.Goals as goal

pub returns : goal.returns
returns g c =
    let does = g.B.Blocks.does in
    let holds = g.B.Blocks.holds in
    let score_of = g.B.Scorer.score_of in
    let score = c.args.self.now.score.0 in
    let over = passed g.L.Link c.args.link.now c.view_archive.new.link in
    let result = c.view_archive.result in
    let old = c.args.blocks.now in
    let new = c.view_archive.new.blocks in
    let it = c.view_archive.ensures in
    let gets = view_gets does holds score_of score over result old new it.views in (
      calls_of_view does holds score_of score over result old new it.views,
      gets.made,
      λ no. gets.gets,
      (
        record {
          views = it.views;
          by = refl;
          first = λ err is. view_first does holds score_of err score over result old new it.views is;
        },
        it.untouched,
      ),
    )
