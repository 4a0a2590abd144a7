use Rattle.std.proofs.Common.{ℕ, Ok, Err, refl, subst, arith}
use Rattle.std.proofs.lemmas.Result.{err_from_is_err_and}
use Rattle.vac_read.specs.declared.node.Node.{Node}
use Rattle.vac_read.specs.Broken.{LacksEntries}
use Rattle.vac_read.proofs.Few.{few_as}
use Rattle.vac_read.proofs.items.node_of.Goals as goal

pub returns-in_err-stored-clause-reads : goal.returns-in_err-stored-clause-reads
returns-in_err-stored-clause-reads g c =
    let p = err_from_is_err_and c.from_residual.result c.from_residual.ensures.1 in
    let len = c.len.ensures in
    rw (p.1, p.2) (few_as g.B.Blocks.does g.B.Blocks.holds g.B.Scorer.score_of
    c.args.blocks.now c.stored_of.new.blocks (Err c.in_err-stored.field-0.0)
    (Err c.in_err-stored.field-0.0) _ _ _ _ refl c.in_err-stored.ensures.reads
    (λ map told keeps.
    let t = told keeps in (
      t.0,
      λ some. subst (λ (n : ℕ). LacksEntries map c.args.directory.now.stream c.args.item.kind
          c.args.item.entry n c.in_err-stored.field-0.0) (omega arith) (t.1 some),
    ))
    (λ map n told few. few))

pub returns-clause-reads : goal.returns-clause-reads
returns-clause-reads g c =
    let node : Node = record {
      item = c.item_of.result;
      qid = c.args.item.qid;
      size = c.size.result;
      stored = c.in_ok-stored.stored;
    } in
    few_as g.B.Blocks.does g.B.Blocks.holds g.B.Scorer.score_of
    c.args.blocks.now c.stored_of.new.blocks (Ok c.in_ok-stored.stored) (Ok node) _ _ _ _ refl
    c.in_ok-stored.ensures.reads
    (λ map told keeps.
    let t = told keeps in (
      t.0,
      record {
        item = c.item_of.ensures;
        qid = refl;
        size = c.size.ensures;
        is_stored = t.1;
      },
    ))
    (λ map n told few. few)
