use Rattle.std.proofs.Common.{◌<◌, sym, ◌∙◌, arith}
use Rattle.std.proofs.lemmas.Result.{err_from_is_err_and}
use Rattle.vt_tree.specs.Growing.{next_of, shape_of}
use Rattle.vt_tree.proofs.Rows.{leaf_len, scores_some, size_some}
use Rattle.vt_tree.proofs.Whole.{goes_deeper, grown_by, nothing_written, stopped_by, stopped_first_leaf, tree_written}
use Rattle.vt_tree.proofs.writing.Cut.tree.Goals as goal

pub returns-then-ahead-eq0-clause-grown : goal.returns-then-ahead-eq0-clause-grown
returns-then-ahead-eq0-clause-grown g c =
    let cut = c.args.self.now in
    let ahead = c.args.ahead.now in
    let ready = c.requires.ready in
    let left = g.R.Source.left c.args.source.now in
    nothing_written g.B.Blocks.does g.B.Scorer.score_of (shape_of cut) g.R.Source.tells
    (size_some cut ready.fits) c.args.blocks.now (next_of ahead) left cut.zero
    (leaf_len g.B.Scorer.score_of cut ahead g.R.Source.tells left ready ∙ c.if-ahead-eq0.true)
    ready.next.size ready.zero

pub returns-in_err-score-clause-stopped : goal.returns-in_err-score-clause-stopped
returns-in_err-score-clause-stopped g c =
    let cut = c.args.self.now in
    let ahead = c.args.ahead.now in
    let ready = c.requires.ready in
    let left = g.R.Source.left c.args.source.now in
    let len = leaf_len g.B.Scorer.score_of cut ahead g.R.Source.tells left ready in
    let p = err_from_is_err_and c.from_residual.result c.from_residual.ensures.1 in
    rw (p.1, p.2) (stopped_first_leaf g.B.Blocks.does g.B.Scorer.score_of (shape_of cut)
    g.R.Source.tells (size_some cut ready.fits) (scores_some cut ready.fits) c.args.blocks.now
    (next_of ahead) (omega (arith, len, c.if-ahead-eq0.false)) (c.requires.size ∙ sym len)
    c.leaf.new.blocks left c.in_err-score.field-0.0
    c.in_err-score.ensures.stopped)

pub above-requires-clause-depth : goal.above-requires-clause-depth
above-requires-clause-depth g c =
    let cut = c.args.self.now in
    let ahead = c.args.ahead.now in
    let ready = c.requires.ready in
    let left = g.R.Source.left c.args.source.now in
    let len = leaf_len g.B.Scorer.score_of cut ahead g.R.Source.tells left ready in
    let so = c.loop-ahead.invariant in
    let more = leaf_len g.B.Scorer.score_of cut c.loop-ahead.ahead g.R.Source.tells
    (g.R.Source.left c.loop-ahead.source) so.ready in
    let low : c.loop-ahead.depth < 7 =
    goes_deeper g.B.Blocks.does g.B.Scorer.score_of (shape_of cut) g.R.Source.tells
    (size_some cut ready.fits) (scores_some cut ready.fits) c.args.blocks.now (next_of ahead)
    (omega (arith, len, c.if-ahead-eq0.false)) (c.requires.size ∙ sym len) ready.fits
    c.loop-ahead.blocks (next_of c.loop-ahead.ahead) left (g.R.Source.left c.loop-ahead.source)
    c.loop-ahead.depth c.loop-ahead.score (omega (arith, more, c.loop-ahead-test.true)) so.grown in
    (omega arith, omega (arith, low))

pub returns-in_err-score-2-clause-stopped : goal.returns-in_err-score-2-clause-stopped
returns-in_err-score-2-clause-stopped g c =
    let cut = c.args.self.now in
    let ahead = c.args.ahead.now in
    let ready = c.requires.ready in
    let left = g.R.Source.left c.args.source.now in
    let len = leaf_len g.B.Scorer.score_of cut ahead g.R.Source.tells left ready in
    let so = c.loop-ahead.invariant in
    let more = leaf_len g.B.Scorer.score_of cut c.loop-ahead.ahead g.R.Source.tells
    (g.R.Source.left c.loop-ahead.source) so.ready in
    let p = err_from_is_err_and c.from_residual-in_err-score-2.result
    c.from_residual-in_err-score-2.ensures.1 in
    rw (p.1, p.2) (stopped_by g.B.Blocks.does g.B.Scorer.score_of (shape_of cut)
    g.R.Source.tells (size_some cut ready.fits) (scores_some cut ready.fits) c.args.blocks.now
    (next_of ahead) (omega (arith, len, c.if-ahead-eq0.false)) (c.requires.size ∙ sym len)
    ready.fits c.loop-ahead.blocks c.above.new.blocks (next_of c.loop-ahead.ahead) left
    (g.R.Source.left c.loop-ahead.source) c.loop-ahead.depth
    c.loop-ahead.score (omega (arith, more, c.loop-ahead-test.true)) so.grown
    c.in_err-score-2.field-0.0 c.in_err-score-2.ensures.stopped)

pub loop-ahead-preserved : goal.loop-ahead-preserved
loop-ahead-preserved g c =
    let cut = c.args.self.now in
    let ahead = c.args.ahead.now in
    let ready = c.requires.ready in
    let left = g.R.Source.left c.args.source.now in
    let len = leaf_len g.B.Scorer.score_of cut ahead g.R.Source.tells left ready in
    let so = c.loop-ahead.invariant in
    let more = leaf_len g.B.Scorer.score_of cut c.loop-ahead.ahead g.R.Source.tells
    (g.R.Source.left c.loop-ahead.source) so.ready in
    record {
      grown = grown_by g.B.Blocks.does g.B.Scorer.score_of (shape_of cut) g.R.Source.tells
          (size_some cut ready.fits) (scores_some cut ready.fits) c.args.blocks.now
          (next_of ahead) (omega (arith, len, c.if-ahead-eq0.false)) (c.requires.size ∙ sym len)
          ready.fits c.loop-ahead.blocks c.above.new.blocks (next_of c.loop-ahead.ahead)
          (next_of c.above.new.ahead) left (g.R.Source.left c.loop-ahead.source)
          (g.R.Source.left c.above.new.source) c.loop-ahead.depth c.loop-ahead.score
          c.in_ok-score-2.score (omega (arith, more, c.loop-ahead-test.true)) so.grown
          c.in_ok-score-2.ensures.grown;
      ready = c.in_ok-score-2.ensures.ready;
      faults = c.in_ok-score-2.ensures.cause ∙ so.faults;
      kept = c.in_ok-score-2.ensures.keeps ∙ so.kept;
    }

pub returns-clause-grown : goal.returns-clause-grown
returns-clause-grown g c =
    let cut = c.args.self.now in
    let ahead = c.args.ahead.now in
    let ready = c.requires.ready in
    let left = g.R.Source.left c.args.source.now in
    let len = leaf_len g.B.Scorer.score_of cut ahead g.R.Source.tells left ready in
    let so = c.loop-ahead.invariant in
    let none = leaf_len g.B.Scorer.score_of cut c.loop-ahead.ahead g.R.Source.tells
    (g.R.Source.left c.loop-ahead.source) so.ready in
    tree_written g.B.Blocks.does g.B.Scorer.score_of (shape_of cut) g.R.Source.tells
    (size_some cut ready.fits) (scores_some cut ready.fits) c.args.blocks.now (next_of ahead)
    (omega (arith, len, c.if-ahead-eq0.false)) (c.requires.size ∙ sym len) c.loop-ahead.blocks
    (next_of c.loop-ahead.ahead) left (g.R.Source.left c.loop-ahead.source) c.loop-ahead.depth
    c.loop-ahead.score (omega (arith, none, c.loop-ahead-test.false)) so.grown
