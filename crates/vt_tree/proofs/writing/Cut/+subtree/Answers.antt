use Rattle.std.proofs.Common.{◌≡◌, ◌⊎◌, ℕ, suc, ◌-◌, ◌<◌, inl, inr, List, [], ◌∷◌, ◌++◌, length, map, refl, sym, ◌∙◌, ap, subst, arith}
use Rattle.std.proofs.lemmas.Result.{err_from_is_err_and}
use Rattle.vt_base.specs.declared.score.Score.{Score}
use Rattle.vt_tree.specs.Content.{scores_in}
use Rattle.vt_tree.specs.Growing.{PutsBlock, StopsTree, next_of, shape_of}
use Rattle.vt_tree.specs.Streams.{pointer_block}
use Rattle.vt_tree.specs.Writing.{IsTaken, IsAll}
use Rattle.vt_tree.proofs.Deeper.{grown_by, is_first, stopped_by, stopped_first}
use Rattle.vt_tree.proofs.Rows.{Row, leaf_len, row_begun, row_more, row_no_memory, row_not_put, row_put, row_stopped, scores_some, size_some}
use Rattle.vt_tree.proofs.writing.Cut.+subtree.Goals as goal
use Rattle.vt_tree.proofs.writing.Cut.+subtree.Goals.{above-then-loop-ahead-test+else-len-most, above-else-loop-ahead-test}

one_more : (depth : ℕ) → 0 < depth → suc (depth - 1) ≡ depth
one_more depth some = omega arith

-- ---- the trees below one pointer block

pub above-returns-in_err-scores-clause-stopped : goal.above-returns-in_err-scores-clause-stopped
above-returns-in_err-scores-clause-stopped g t c leaves has =
    let cut = c.args.self.now in
    let ahead = c.args.ahead.now in
    let left = g.R.Source.left c.args.source.now in
    let faults = g.R.Source.faults c.args.source.now in
    let p = err_from_is_err_and c.from_residual.result c.from_residual.ensures.1 in
    rw (p.1, p.2) (row_no_memory g.B.Blocks.does g.B.Scorer.score_of cut g.R.Source.tells
    (c.args.depth - 1) c.args.blocks.now c.args.blocks.now ahead ahead left left c.args.first.now
    (c.args.first.now ∷ []) faults faults
    (row_begun g.B.Blocks.does g.B.Scorer.score_of cut g.R.Source.tells (c.args.depth - 1)
    c.args.blocks.now ahead left c.args.first.now faults c.requires.ready)
    (g.met.R.Source.left_bytes c.args.source.now) c.args.depth
    (one_more c.args.depth c.requires.depth.0) leaves has)

pub above-loop-ahead-init : goal.above-loop-ahead-init
above-loop-ahead-init g t c =
    let cut = c.args.self.now in
    let ahead = c.args.ahead.now in
    let left = g.R.Source.left c.args.source.now in
    let faults = g.R.Source.faults c.args.source.now in
    let one : c.push.new.self.items ≡ c.args.first.now ∷ [] =
    c.in_ok-push.ensures.items
    ∙ ap (λ (l : List Score). l ++ c.args.first.now ∷ []) c.in_ok-scores.ensures.items in
    record {
      row = subst (λ (l : List Score). Row g.B.Blocks.does g.B.Scorer.score_of cut g.R.Source.tells
          (c.args.depth - 1) c.args.blocks.now c.args.blocks.now ahead ahead left left c.args.first.now l
          faults faults) (sym one)
          (row_begun g.B.Blocks.does g.B.Scorer.score_of cut g.R.Source.tells (c.args.depth - 1)
          c.args.blocks.now ahead left c.args.first.now faults c.requires.ready);
      kept = refl;
    }

pub above-returns-in_err-subtree-clause-stopped : goal.above-returns-in_err-subtree-clause-stopped
above-returns-in_err-subtree-clause-stopped g t c leaves has =
    let p = err_from_is_err_and c.from_residual-in_err-subtree.result
    c.from_residual-in_err-subtree.ensures.1 in
    rw (p.1, p.2) (row_stopped g.B.Blocks.does g.B.Scorer.score_of c.args.self.now g.R.Source.tells
    (c.args.depth - 1) c.args.blocks.now c.loop-ahead.blocks c.subtree.new.blocks c.args.ahead.now
    c.loop-ahead.ahead c.subtree.new.ahead (g.R.Source.left c.args.source.now)
    (g.R.Source.left c.loop-ahead.source) (g.R.Source.left c.subtree.new.source) c.args.first.now
    c.loop-ahead.scores.items (g.R.Source.faults c.args.source.now)
    (g.R.Source.faults c.loop-ahead.source) (g.R.Source.faults c.subtree.new.source)
    c.loop-ahead-test.true (omega (arith, c.len.ensures, c.if-len-most.true))
    c.loop-ahead.invariant.row c.args.depth c.in_err-subtree.field-0.0
    (one_more c.args.depth c.requires.depth.0) c.in_err-subtree.ensures.stopped leaves has)

pub above-loop-ahead-preserved : goal.above-loop-ahead-preserved
above-loop-ahead-preserved g t c =
    let cut = c.args.self.now in
    let scores = c.loop-ahead.scores.items in
    let score = c.in_ok-subtree.field-0 in
    let longer : c.push-in-loop-ahead.new.self.items ≡ scores ++ score ∷ [] =
    c.in_ok-push-2.ensures.items in
    record {
      row = subst (λ (l : List Score). Row g.B.Blocks.does g.B.Scorer.score_of cut g.R.Source.tells
          (c.args.depth - 1) c.args.blocks.now c.subtree.new.blocks c.args.ahead.now c.subtree.new.ahead
          (g.R.Source.left c.args.source.now) (g.R.Source.left c.subtree.new.source) c.args.first.now l
          (g.R.Source.faults c.args.source.now) (g.R.Source.faults c.subtree.new.source)) (sym longer)
          (row_more g.B.Blocks.does g.B.Scorer.score_of cut g.R.Source.tells (c.args.depth - 1)
          c.args.blocks.now c.loop-ahead.blocks c.subtree.new.blocks c.args.ahead.now c.loop-ahead.ahead
          c.subtree.new.ahead (g.R.Source.left c.args.source.now) (g.R.Source.left c.loop-ahead.source)
          (g.R.Source.left c.subtree.new.source) c.args.first.now scores
          (g.R.Source.faults c.args.source.now) (g.R.Source.faults c.loop-ahead.source)
          (g.R.Source.faults c.subtree.new.source) c.loop-ahead-test.true
          (omega (arith, c.len.ensures, c.if-len-most.true)) c.loop-ahead.invariant.row score
          c.in_ok-subtree.ensures.grown c.in_ok-subtree.ensures.ready c.in_ok-subtree.ensures.cause);
      kept = c.in_ok-subtree.ensures.keeps ∙ c.loop-ahead.invariant.kept;
    }

pub above-returns-in_err-push-2-clause-stopped : goal.above-returns-in_err-push-2-clause-stopped
above-returns-in_err-push-2-clause-stopped g t c leaves has =
    let cut = c.args.self.now in
    let scores = c.loop-ahead.scores.items in
    let score = c.in_ok-subtree.field-0 in
    let p = err_from_is_err_and c.from_residual-in_err-push-2.result
    c.from_residual-in_err-push-2.ensures.1 in
    rw (p.1, p.2) (row_no_memory g.B.Blocks.does g.B.Scorer.score_of cut g.R.Source.tells
    (c.args.depth - 1) c.args.blocks.now c.subtree.new.blocks c.args.ahead.now c.subtree.new.ahead
    (g.R.Source.left c.args.source.now) (g.R.Source.left c.subtree.new.source) c.args.first.now
    (scores ++ score ∷ []) (g.R.Source.faults c.args.source.now)
    (g.R.Source.faults c.subtree.new.source)
    (row_more g.B.Blocks.does g.B.Scorer.score_of cut g.R.Source.tells (c.args.depth - 1)
    c.args.blocks.now c.loop-ahead.blocks c.subtree.new.blocks c.args.ahead.now c.loop-ahead.ahead
    c.subtree.new.ahead (g.R.Source.left c.args.source.now) (g.R.Source.left c.loop-ahead.source)
    (g.R.Source.left c.subtree.new.source) c.args.first.now scores
    (g.R.Source.faults c.args.source.now) (g.R.Source.faults c.loop-ahead.source)
    (g.R.Source.faults c.subtree.new.source) c.loop-ahead-test.true
    (omega (arith, c.len.ensures, c.if-len-most.true)) c.loop-ahead.invariant.row score
    c.in_ok-subtree.ensures.grown c.in_ok-subtree.ensures.ready c.in_ok-subtree.ensures.cause)
    (g.met.R.Source.left_bytes c.subtree.new.source) c.args.depth (one_more c.args.depth c.requires.depth.0) leaves has)

pub above-returns-clause-grown : goal.above-returns-clause-grown
above-returns-clause-grown g t c leaves has =
    let row = c.loop-ahead.invariant.row in
    let few = row.few in
    let over : (c.loop-ahead.ahead.filled ≡ 0)
    ⊎ (length c.loop-ahead.scores.items ≡ scores_in c.args.self.now.psize) =
    elim c.loop-ahead-test.branch [
      | above-then-loop-ahead-test+else-len-most w ↦
          inr (omega (arith, w.len.ensures, w.if-len-most.false, few))
      | above-else-loop-ahead-test w ↦ inl (omega (arith, w.loop-ahead-test.false))
    ] in
    row_put g.B.Blocks.does g.B.Scorer.score_of c.args.self.now g.R.Source.tells
    (c.args.depth - 1) c.args.blocks.now c.loop-ahead.blocks c.args.ahead.now c.loop-ahead.ahead
    (g.R.Source.left c.args.source.now) (g.R.Source.left c.loop-ahead.source) c.args.first.now
    c.loop-ahead.scores.items (g.R.Source.faults c.args.source.now)
    (g.R.Source.faults c.loop-ahead.source) row
    (g.met.R.Source.left_bytes c.loop-ahead.source) c.args.depth
    (one_more c.args.depth c.requires.depth.0) c.put_pointers.new.blocks c.put_pointers.result over
    (subst (λ (l : List Score). PutsBlock g.B.Blocks.does g.B.Scorer.score_of c.loop-ahead.blocks
    c.put_pointers.new.blocks (pointer_block g.B.Scorer.score_of c.args.depth
    (map (λ (t : Score). t.0) l)) c.put_pointers.result) c.deref.ensures.value
    c.put_pointers.ensures) leaves has

pub above-returns-clause-stopped : goal.above-returns-clause-stopped
above-returns-clause-stopped g t c leaves has =
    let row = c.loop-ahead.invariant.row in
    let few = row.few in
    let over : (c.loop-ahead.ahead.filled ≡ 0)
    ⊎ (length c.loop-ahead.scores.items ≡ scores_in c.args.self.now.psize) =
    elim c.loop-ahead-test.branch [
      | above-then-loop-ahead-test+else-len-most w ↦
          inr (omega (arith, w.len.ensures, w.if-len-most.false, few))
      | above-else-loop-ahead-test w ↦ inl (omega (arith, w.loop-ahead-test.false))
    ] in
    row_not_put g.B.Blocks.does g.B.Scorer.score_of c.args.self.now g.R.Source.tells
    (c.args.depth - 1) c.args.blocks.now c.loop-ahead.blocks c.args.ahead.now c.loop-ahead.ahead
    (g.R.Source.left c.args.source.now) (g.R.Source.left c.loop-ahead.source) c.args.first.now
    c.loop-ahead.scores.items (g.R.Source.faults c.args.source.now)
    (g.R.Source.faults c.loop-ahead.source) row
    (g.met.R.Source.left_bytes c.loop-ahead.source) c.args.depth
    (one_more c.args.depth c.requires.depth.0) c.put_pointers.new.blocks c.put_pointers.result over
    (subst (λ (l : List Score). PutsBlock g.B.Blocks.does g.B.Scorer.score_of c.loop-ahead.blocks
    c.put_pointers.new.blocks (pointer_block g.B.Scorer.score_of c.args.depth
    (map (λ (t : Score). t.0) l)) c.put_pointers.result) c.deref.ensures.value
    c.put_pointers.ensures) leaves has

-- ---- a tree of a depth

pub subtree-returns-in_err-first-clause-stopped : goal.subtree-returns-in_err-first-clause-stopped
subtree-returns-in_err-first-clause-stopped g t c =
    let cut = c.args.self.now in
    let old = c.args.ahead.now in
    let ready = c.requires.ready in
    let left = g.R.Source.left c.args.source.now in
    let deep : 0 < c.args.depth = omega (arith, c.if-depth-eq0.false) in
    let came : 0 < length (next_of old).leaf =
    omega (
      arith,
      leaf_len g.B.Scorer.score_of cut old g.R.Source.tells left ready,
      c.requires.some,
    ) in
    let p = err_from_is_err_and c.from_residual.result c.from_residual.ensures.1 in
    rw (p.1, p.2) (subst (λ (k : ℕ). StopsTree g.B.Blocks.does g.B.Scorer.score_of
    c.args.blocks.now c.subtree.new.blocks (shape_of cut) k (next_of old)
    (IsAll g.R.Source.tells left) [] [] c.in_err-first.field-0.0) (one_more c.args.depth deep)
    (stopped_first g.B.Blocks.does g.B.Scorer.score_of (shape_of cut) g.R.Source.tells
    (c.args.depth - 1) (scores_some cut ready.fits) (size_some cut ready.fits) c.args.blocks.now
    c.subtree.new.blocks (next_of old) (IsAll g.R.Source.tells left)
    c.in_err-first.field-0.0 came c.in_err-first.ensures.stopped))

pub subtree-returns-clause-grown : goal.subtree-returns-clause-grown
subtree-returns-clause-grown g t c =
    let cut = c.args.self.now in
    let d : ℕ = c.args.depth - 1 in
    let old = c.args.ahead.now in
    let ready = c.requires.ready in
    let a = g.R.Source.left c.args.source.now in
    let b = g.R.Source.left c.subtree.new.source in
    let e = g.R.Source.left c.above.new.source in
    let deep : 0 < c.args.depth = omega (arith, c.if-depth-eq0.false) in
    let came : 0 < length (next_of old).leaf =
    omega (arith, leaf_len g.B.Scorer.score_of cut old g.R.Source.tells a ready, c.requires.some) in
    let f = c.in_ok-first.ensures.grown in
    let has = is_first g.B.Blocks.does g.B.Scorer.score_of (shape_of cut) g.R.Source.tells d
    (scores_some cut ready.fits) (size_some cut ready.fits) c.args.blocks.now c.subtree.new.blocks
    (next_of old) (next_of c.subtree.new.ahead) (IsTaken g.R.Source.tells a b) c.in_ok-first.first
    came f in
    grown_by g.B.Blocks.does g.B.Scorer.score_of (shape_of cut) g.R.Source.tells d
    (scores_some cut ready.fits) (size_some cut ready.fits) c.args.depth (one_more c.args.depth
    deep)
    c.args.blocks.now c.subtree.new.blocks c.above.new.blocks (next_of old)
    (next_of c.subtree.new.ahead) (next_of c.above.new.ahead) a b e c.in_ok-first.first came f
    c.above.result (c.above.ensures.grown f.leaves has)

pub subtree-returns-clause-stopped : goal.subtree-returns-clause-stopped
subtree-returns-clause-stopped g t c =
    let cut = c.args.self.now in
    let d : ℕ = c.args.depth - 1 in
    let old = c.args.ahead.now in
    let ready = c.requires.ready in
    let a = g.R.Source.left c.args.source.now in
    let b = g.R.Source.left c.subtree.new.source in
    let e = g.R.Source.left c.above.new.source in
    let deep : 0 < c.args.depth = omega (arith, c.if-depth-eq0.false) in
    let came : 0 < length (next_of old).leaf =
    omega (arith, leaf_len g.B.Scorer.score_of cut old g.R.Source.tells a ready, c.requires.some) in
    let f = c.in_ok-first.ensures.grown in
    let has = is_first g.B.Blocks.does g.B.Scorer.score_of (shape_of cut) g.R.Source.tells d
    (scores_some cut ready.fits) (size_some cut ready.fits) c.args.blocks.now c.subtree.new.blocks
    (next_of old) (next_of c.subtree.new.ahead) (IsTaken g.R.Source.tells a b) c.in_ok-first.first
    came f in
    stopped_by g.B.Blocks.does g.B.Scorer.score_of (shape_of cut) g.R.Source.tells d
    (scores_some cut ready.fits) (size_some cut ready.fits) c.args.depth (one_more c.args.depth
    deep)
    c.args.blocks.now c.subtree.new.blocks c.above.new.blocks (next_of old)
    (next_of c.subtree.new.ahead) (next_of c.above.new.ahead) a b e c.in_ok-first.first came f
    c.above.result (c.above.ensures.stopped f.leaves has)
