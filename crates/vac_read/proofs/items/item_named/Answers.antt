use Rattle.std.proofs.Common.{◌≡◌, ◌∷◌, Ok, Err, Some, None, Option, refl, sym, subst, arith}
use Rattle.std.proofs.lemmas.Result.{err_from_is_err_and}
use Rattle.std.specs.List.{AllByRecursion}
use Rattle.vt_tree.proofs.Appending.{all_first}
use Rattle.vac_meta.specs.declared.record.Record.{Record}
use Rattle.vac_meta.specs.Records.{IsRecord}
use Rattle.vac_read.specs.Nodes.{IsFoundItem}
use Rattle.vac_read.proofs.Few.{few_as, few_nothing}
use Rattle.vac_read.proofs.Lists.{is_record_there}
use Rattle.vac_read.proofs.items.item_named.Goals as goal

pub returns-in_default-clause-reads : goal.returns-in_default-clause-reads
returns-in_default-clause-reads g c =
    few_nothing g.B.Blocks.does g.B.Blocks.holds g.B.Scorer.score_of c.args.blocks.now (Ok None) _ _
    refl
    (λ map keeps. (
      keeps,
      subst (λ (o : Option Record). IsFoundItem map c.args.directory.now.stream o None)
          (sym c.in_default.ensures) tt,
    ))
    (λ map. omega arith)

pub returns-in_err-found-clause-reads : goal.returns-in_err-found-clause-reads
returns-in_err-found-clause-reads g c =
    let p = err_from_is_err_and c.from_residual.result c.from_residual.ensures.1 in
    let bad = c.in_err-found.field-0.0 in
    rw (p.1, p.2) (few_as g.B.Blocks.does g.B.Blocks.holds g.B.Scorer.score_of
    c.args.blocks.now c.node_behind.new.blocks (Err bad) (Err bad) _ _ _ _ refl
    c.in_err-found.ensures.reads
    (λ map told keeps.
    let t = told keeps in (
      t.0,
      λ some. record {
        before = c.in-Some.before.now;
        r = c.in-Some.record.now;
        named_so = c.in-Some.ensures;
        lacks = t.1 some;
      },
    ))
    (λ map n told few. few))

pub returns-clause-reads : goal.returns-clause-reads
returns-clause-reads g c =
    let node = c.in_ok-found.found in
    few_as g.B.Blocks.does g.B.Blocks.holds g.B.Scorer.score_of
    c.args.blocks.now c.node_behind.new.blocks (Ok node) (Ok (Some node)) _ _ _ _ refl
    c.in_ok-found.ensures.reads
    (λ map told keeps.
    let t = told keeps in (
      t.0,
      subst (λ (o : Option Record). IsFoundItem map c.args.directory.now.stream o (Some node))
          (sym c.in-Some.ensures.is) t.1,
    ))
    (λ map n told few. few)

pub node_behind-requires-clause-each : goal.node_behind-requires-clause-each
node_behind-requires-clause-each g c =
    let so = c.in-Some.ensures in
    all_first IsRecord c.in-Some.before.now (c.in-Some.record.now ∷ so.rest)
    (subst (AllByRecursion IsRecord) so.among c.requires.records.each)

pub node_behind-requires-clause-item : goal.node_behind-requires-clause-item
node_behind-requires-clause-item g c =
    let so = c.in-Some.ensures in
    is_record_there c.args.records.now c.in-Some.before.now c.in-Some.record.now so.rest so.among
    c.requires.records.each
