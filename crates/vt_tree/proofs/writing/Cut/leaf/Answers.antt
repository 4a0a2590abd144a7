use Rattle.std.proofs.Common.{ℕ, ◌<◌, List, length, take, Ok, Err, subst, arith}
use Rattle.std.proofs.lemmas.Result.{err_from_is_err_and}
use Rattle.vt_tree.specs.Growing.{TakesNextLeaf, PutsBlock, next_of, shape_of}
use Rattle.vt_tree.specs.Streams.{leaf_block}
use Rattle.vt_tree.specs.Writing.{IsTaken}
use Rattle.vt_tree.proofs.Growth.{what_comes}
use Rattle.vt_tree.proofs.Leaves.{leaf_written, leaf_not_put, leaf_not_followed}
use Rattle.vt_tree.proofs.Rows.{leaf_len, size_some}
use Rattle.vt_tree.proofs.writing.Cut.leaf.Goals as goal

pub returns-in_err-score-clause-stopped : goal.returns-in_err-score-clause-stopped
returns-in_err-score-clause-stopped g c =
    let cut = c.args.self.now in
    let old = c.args.ahead.now in
    let ready = c.requires.ready in
    let left = g.R.Source.left c.args.source.now in
    let came : 0 < length (next_of old).leaf =
    omega (
      arith,
      leaf_len g.B.Scorer.score_of cut old g.R.Source.tells left ready,
      c.requires.some,
    ) in
    let p = err_from_is_err_and c.from_residual.result c.from_residual.ensures.1 in
    rw (p.1, p.2) (leaf_not_put g.B.Blocks.does g.B.Scorer.score_of (shape_of cut)
    g.R.Source.tells (size_some cut ready.fits) c.args.blocks.now c.put_leaf.new.blocks
    (next_of old) came ready.next left c.in_err-score.field-0.0
    (what_comes g.R.Source.tells old.ended left (g.met.R.Source.left_bytes c.args.source.now)
    ready.end)
    (subst (λ (l : List ℕ). PutsBlock g.B.Blocks.does g.B.Scorer.score_of c.args.blocks.now
    c.put_leaf.new.blocks (leaf_block (shape_of cut) (take old.filled l))
    (Err c.in_err-score.field-0.0)) c.deref.ensures.value c.in_err-score.ensures))

pub returns-in_err-advance-clause-stopped : goal.returns-in_err-advance-clause-stopped
returns-in_err-advance-clause-stopped g c =
    let cut = c.args.self.now in
    let old = c.args.ahead.now in
    let ready = c.requires.ready in
    let left = g.R.Source.left c.args.source.now in
    let came : 0 < length (next_of old).leaf =
    omega (
      arith,
      leaf_len g.B.Scorer.score_of cut old g.R.Source.tells left ready,
      c.requires.some,
    ) in
    let p = err_from_is_err_and c.from_residual-in_err-advance.result
    c.from_residual-in_err-advance.ensures.1 in
    rw (p.1, p.2) (leaf_not_followed g.B.Blocks.does g.B.Scorer.score_of (shape_of cut)
    g.R.Source.tells (size_some cut ready.fits) c.args.blocks.now c.put_leaf.new.blocks
    (next_of old) came ready.next left c.in_ok-score.score c.in_err-advance.field-0.0
    (subst (λ (l : List ℕ). PutsBlock g.B.Blocks.does g.B.Scorer.score_of c.args.blocks.now
    c.put_leaf.new.blocks (leaf_block (shape_of cut) (take old.filled l))
    (Ok c.in_ok-score.score)) c.deref.ensures.value c.in_ok-score.ensures)
    c.in_err-advance.ensures.err)

pub returns-clause-grown : goal.returns-clause-grown
returns-clause-grown g c =
    let cut = c.args.self.now in
    let old = c.args.ahead.now in
    let ready = c.requires.ready in
    let left = g.R.Source.left c.args.source.now in
    let came : 0 < length (next_of old).leaf =
    omega (
      arith,
      leaf_len g.B.Scorer.score_of cut old g.R.Source.tells left ready,
      c.requires.some,
    ) in
    leaf_written g.B.Blocks.does g.B.Scorer.score_of (shape_of cut) g.R.Source.tells
    (size_some cut ready.fits) c.args.blocks.now c.put_leaf.new.blocks (next_of old) came
    ready.next (next_of c.advance.new.self) left (g.R.Source.left c.advance.new.source)
    c.in_ok-score.score
    (subst (λ (l : List ℕ). PutsBlock g.B.Blocks.does g.B.Scorer.score_of c.args.blocks.now
    c.put_leaf.new.blocks (leaf_block (shape_of cut) (take old.filled l))
    (Ok c.in_ok-score.score)) c.deref.ensures.value c.in_ok-score.ensures)
    (subst (λ (n : ℕ). TakesNextLeaf n (next_of old) (next_of c.advance.new.self)
    (IsTaken g.R.Source.tells left (g.R.Source.left c.advance.new.source))) ready.room
    c.in_ok-advance.ensures.ok)
