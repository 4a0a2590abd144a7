use Rattle.std.proofs.Common.{◌/◌, Ok, Err, List, ℕ, length, take, drop, refl, ◌∙◌, ap, inl, arith}
use Rattle.std.proofs.lemmas.Result.{err_from_is_err_and}
use Rattle.vac_read.specs.declared.error.VacBad.TheVariants.{Meta}
use Rattle.vac_read.proofs.Leaves.{bytes_refuse_nothing, told_entry, unread_entry}
use Rattle.vac_read.proofs.Few.{few_as, few_nothing}
use Rattle.vac_read.proofs.directory.Directory.entry.Goals as goal

pub returns-in_default-clause-reads : goal.returns-in_default-clause-reads
returns-in_default-clause-reads g c =
    few_nothing g.B.Blocks.does g.B.Blocks.holds g.B.Scorer.score_of c.args.blocks.now
    (Err (Meta c.args.at)) _ _ refl (λ map keeps. (keeps, λ some. inl (refl, c.in_default.ensures)))
    (λ map. omega arith)

pub returns-in_err-read_leaf-clause-reads : goal.returns-in_err-read_leaf-clause-reads
returns-in_err-read_leaf-clause-reads g c =
    let p = err_from_is_err_and c.from_residual.result c.from_residual.ensures.1 in
    rw (p.1, p.2) (few_as g.B.Blocks.does g.B.Blocks.holds g.B.Scorer.score_of
    c.args.blocks.now c.read_leaf.new.blocks (Err c.in_err-read_leaf.field-0.0)
    (Err c.in_err-read_leaf.field-0.0) _ _ _ _ refl c.in_err-read_leaf.ensures.reads
    (λ map told keeps.
    let t = told keeps in (
      t.0,
      λ some. unread_entry map c.args.self.now.stream c.args.number c.in-Some.start
          c.in-Some.inside c.in-Some.ensures _ c.args.is_dir c.args.at _ (omega arith)
          (t.1 some),
    ))
    (λ map n told few. few (c.args.number / (c.args.self.now.stream.dsize / 40))
    c.in-Some.ensures.start_is))

pub returns-in-Some-bytes_at-clause-reads : goal.returns-in-Some-bytes_at-clause-reads
returns-in-Some-bytes_at-clause-reads g c =
    few_as g.B.Blocks.does g.B.Blocks.holds g.B.Scorer.score_of
    c.args.blocks.now c.read_leaf.new.blocks (Ok tt) c.entry_in.result _ _ _ _
    (bytes_refuse_nothing c.in-Some-bytes_at.bytes.now c.args.is_dir c.args.at c.entry_in.result
    c.entry_in.ensures) c.in_ok-read_leaf.ensures.reads
    (λ map told keeps.
    let t = told keeps in (
      t.0,
      told_entry map c.args.self.now.stream c.args.number c.in-Some.start c.in-Some.inside
          c.in-Some.ensures c.read_leaf.new.self.leaf c.in-Some-bytes_at.bytes.now c.args.is_dir
          c.args.at c.entry_in.result t.1
          (c.in-Some-bytes_at.ensures
          ∙ ap (λ (l : List ℕ). take 40 (drop c.in-Some.inside l)) c.as_slice.ensures)
          c.entry_in.ensures,
    ))
    (λ map n told few. few (c.args.number / (c.args.self.now.stream.dsize / 40))
    c.in-Some.ensures.start_is)

pub returns-in-None-clause-reads : goal.returns-in-None-clause-reads
returns-in-None-clause-reads g c =
    few_as g.B.Blocks.does g.B.Blocks.holds g.B.Scorer.score_of c.args.blocks.now
    c.read_leaf.new.blocks (Ok (tt {0})) (Err (Meta c.args.at)) _ _ _ _ refl
    c.in_ok-read_leaf.ensures.reads
    (λ map told keeps.
    let t = told keeps in (
      t.0,
      λ some.
          let all = t.1.all in
          let same = ap (λ (l : List ℕ). length l) c.as_slice.ensures in
          let place = c.in-Some.ensures.within in
          let there = c.in-Some.ensures.there in
          absurd (omega (arith, all, same, place, there, c.in-None.ensures)),
    ))
    (λ map n told few. few (c.args.number / (c.args.self.now.stream.dsize / 40))
    c.in-Some.ensures.start_is)
