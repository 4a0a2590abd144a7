use Rattle.std.proofs.Common.{◌-◌, Ok, Err, ℕ, [], min, refl, sym, ◌∙◌, ap, subst, inr, arith, le_trans}
use Rattle.std.proofs.lemmas.Result.{err_from_is_err_and}
use Rattle.vt_tree.specs.Content.{size_of}
use Rattle.vac_read.specs.declared.error.VacBad.TheVariants.{Tree}
use Rattle.vac_read.specs.Broken.{IsUnread}
use Rattle.vac_read.specs.Folders.{IsLeaf}
use Rattle.vac_read.proofs.Few.{few_as, few_nothing, few_range, leaf_few}
use Rattle.vac_read.proofs.Leaves.{kept_leaf}
use Rattle.vac_read.proofs.directory.Directory.read_leaf.Goals as goal

pub returns-then-self-start-clause-reads : goal.returns-then-self-start-clause-reads
returns-then-self-start-clause-reads g c =
    let dir = c.args.self.now in
    few_nothing g.B.Blocks.does g.B.Blocks.holds g.B.Scorer.score_of c.args.blocks.now (Ok tt) _ _
    refl
    (λ map keeps. (
      keeps,
      kept_leaf map dir.stream dir.start c.args.start dir.leaf
          (sym c.is_empty.ensures ∙ c.if-not-is_empty.true) c.if-self-start.true keeps,
    ))
    (λ map leaf is. omega arith)

pub returns-in_err-self-clause-reads : goal.returns-in_err-self-clause-reads
returns-in_err-self-clause-reads g c =
    let p = err_from_is_err_and c.from_residual.result c.from_residual.ensures.1 in
    let e = c.args.self.now.stream in
    let err = c.in_err-self.field-0.0 in
    let same = ap (λ (n : ℕ). min n (size_of e - c.args.start)) c.from-dsize.ensures in
    rw (p.1, p.2) (few_as g.B.Blocks.does g.B.Blocks.holds g.B.Scorer.score_of c.args.blocks.now
    c.read_range.new.blocks (Err (Tree err)) (Err (Tree err)) _ _ _ _ refl
    (few_range g.B.Blocks.does g.B.Blocks.holds g.B.Scorer.score_of c.args.blocks.now
    c.read_range.new.blocks e c.args.start (min c.from-dsize.result (size_of e - c.args.start))
    (Err err) c.in_err-self.ensures.fit c.in_err-self.ensures.reads c.in_err-self.ensures.content)
    (λ map told keeps. (
      keeps,
      λ some. subst (λ (n : ℕ). IsUnread map e c.args.start n (Tree err)) same (told some),
    ))
    (λ map n told few leaf is. le_trans few
    (leaf_few (g.B.Scorer.score_of []) map e leaf c.args.start _ is (omega arith))))

pub returns-clause-reads : goal.returns-clause-reads
returns-clause-reads g c =
    let e = c.args.self.now.stream in
    let bytes = c.in_ok-self.field-0 in
    let same = ap (λ (n : ℕ). min n (size_of e - c.args.start)) c.from-dsize.ensures in
    few_as g.B.Blocks.does g.B.Blocks.holds g.B.Scorer.score_of c.args.blocks.now
    c.read_range.new.blocks (Ok bytes) (Ok (tt {0})) _ _ _ _ refl
    (few_range g.B.Blocks.does g.B.Blocks.holds g.B.Scorer.score_of c.args.blocks.now
    c.read_range.new.blocks e c.args.start (min c.from-dsize.result (size_of e - c.args.start))
    (Ok bytes) c.in_ok-self.ensures.fit c.in_ok-self.ensures.reads c.in_ok-self.ensures.content)
    (λ map told keeps.
    let is : IsLeaf map e c.args.start bytes = record { all = told.0 ∙ same; given = told.1 } in
    (inr is, is))
    (λ map n told few leaf is. le_trans few
    (leaf_few (g.B.Scorer.score_of []) map e leaf c.args.start _ is (omega arith)))
