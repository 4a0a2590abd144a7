use Rattle.std.proofs.Common.{◌≡◌, Ok, Err, refl, sym, ◌∙◌, ap, subst}
use Rattle.std.proofs.lemmas.Result.{err_from_is_err_and}
use Rattle.vac_read.specs.declared.error.VacBad.{VacBad}
use Rattle.vac_read.specs.declared.error.VacBad.TheVariants.{NoMemory}
use Rattle.vac_read.specs.declared.node.Node.{Node}
use Rattle.vac_read.specs.declared.node.Stored.{Stored}
use Rattle.vac_read.specs.Broken.{LacksEntries, entry_field}
use Rattle.vac_read.specs.Folders.{moved_to}
use Rattle.vac_read.specs.Nodes.{IsStoredNode, len_of}
use Rattle.vac_read.proofs.Moved.{lacks_moved, refused_moved, some_moved}
use Rattle.vac_read.proofs.Few.{few_as}
use Rattle.vac_read.proofs.items.node_behind.Goals as goal

pub returns-in-Err-clause-reads : goal.returns-in-Err-clause-reads
returns-in-Err-clause-reads g c =
    let bad = c.in-Err.bad in
    let field = entry_field c.args.before.now c.args.item.now in
    rw c.placed.ensures (few_as g.B.Blocks.does g.B.Blocks.holds g.B.Scorer.score_of
    c.args.blocks.now c.stored_of.new.blocks (Err bad) (Err (moved_to field bad)) _ _ _ _
    (refused_moved Node Stored field bad) c.in-Err.ensures.reads
    (λ map told keeps.
    let t = told keeps in (
      t.0,
      λ some. lacks_moved map c.args.directory.now.stream field c.args.item.now.kind
          c.args.item.now.entry bad (t.1 (some_moved field bad some)),
    ))
    (λ map n told few. few))

pub returns-in_err-node_with-in-Ok-clause-reads : goal.returns-in_err-node_with-in-Ok-clause-reads
returns-in_err-node_with-in-Ok-clause-reads g c =
    let p = err_from_is_err_and c.from_residual.result c.from_residual.ensures.1 in
    rw (p.1, p.2) (few_as g.B.Blocks.does g.B.Blocks.holds g.B.Scorer.score_of
    c.args.blocks.now c.stored_of.new.blocks (Ok c.in-Ok.stored) (Err NoMemory) _ _ _ _ refl
    c.in-Ok.ensures.reads
    (λ map told keeps. ((told keeps).0, λ some. absurd (some refl)))
    (λ map n told few. few))

pub returns-in_ok-node_with-in-Ok-clause-reads : goal.returns-in_ok-node_with-in-Ok-clause-reads
returns-in_ok-node_with-in-Ok-clause-reads g c =
    let r = c.args.item.now in
    let node : Node = c.in_ok-node_with-in-Ok.field-0 in
    let is = c.in_ok-node_with-in-Ok.ensures in
    few_as g.B.Blocks.does g.B.Blocks.holds g.B.Scorer.score_of
    c.args.blocks.now c.stored_of.new.blocks (Ok c.in-Ok.stored) (Ok node) _ _ _ _ refl
    c.in-Ok.ensures.reads
    (λ map told keeps.
    let t = told keeps in (
      t.0,
      record {
        item = is.item;
        qid = is.qid;
        size = is.size ∙ ap (λ (s : Stored). len_of s) (sym is.stored);
        is_stored = subst (λ (s : Stored).
            IsStoredNode map c.args.directory.now.stream r.kind r.entry s) (sym is.stored) t.1;
      },
    ))
    (λ map n told few. few)
