use Rattle.std.proofs.Common.{◌+◌, ◌*◌, ◌/◌, ◌≤◌, ℕ, Ok, Err, List, [], length, refl, sym, ◌∙◌, subst, inl, arith, le_trans, mul-le-mul_right}
use Rattle.std.proofs.lemmas.Nat.{le-div}
use Rattle.std.proofs.lemmas.Result.{err_from_is_err_and}
use Rattle.vt_tree.specs.Content.{size_of}
use Rattle.vac_meta.specs.declared.record.Record.{Record}
use Rattle.vac_read.specs.declared.node.Stored.{Stored}
use Rattle.vac_read.specs.Asking.{ListAsks, leaf_blocks}
use Rattle.vac_read.specs.Reading.{ListsFolder}
use Rattle.vac_read.proofs.Few.{few_as, few_nothing, few_then}
use Rattle.vac_read.proofs.Lists.{records_long}
use Rattle.vac_read.proofs.Steps.{list_told}
use Rattle.vac_read.proofs.folders.list.Goals as goal

pub returns-in_default-clause-lists : goal.returns-in_default-clause-lists
returns-in_default-clause-lists g c =
    few_nothing g.B.Blocks.does g.B.Blocks.holds g.B.Scorer.score_of c.args.blocks.now
    (Ok c.from_vec.result) _ _ refl
    (λ map. subst (λ (s : Stored). ListsFolder s (Ok c.from_vec.result) map) (sym c.in_default.is)
    (c.from_vec.ensures ∙ c.new.ensures.items))
    (λ map. omega arith)

pub returns-in_err-records-clause-lists : goal.returns-in_err-records-clause-lists
returns-in_err-records-clause-lists g c =
    let p = err_from_is_err_and c.from_residual.result c.from_residual.ensures.1 in
    let bad = c.in_err-records.field-0.0 in
    rw (p.1, p.2) (few_as g.B.Blocks.does g.B.Blocks.holds g.B.Scorer.score_of
    c.args.blocks.now c.records_of.new.blocks (Err bad) (Err bad) _ _ _ _ refl
    c.in_err-records.ensures.reads
    (λ map told. subst (λ (s : Stored). ListsFolder s (Err bad) map) (sym c.in-Folder.is)
    (λ some. inl (told some)))
    (λ map n told few. subst (λ (s : Stored). ListAsks (g.B.Scorer.score_of []) s map n)
    (sym c.in-Folder.is) (omega (arith, few))))

-- as many as there may be for the records, and for each item
with_items : (m n items most each records : ℕ) → items ≤ most → m ≤ records → n ≤ items * each
    → m + n ≤ records + most * each
with_items m n items most each records fewer few more =
    let all = mul-le-mul_right each fewer in omega (arith, few, le_trans more all)

pub returns-clause-lists : goal.returns-clause-lists
returns-clause-lists g c =
    let records : List Record = c.in_ok-records.records in
    let ok = c.in_ok-records.ensures in
    let most : length records ≤ size_of c.in-Folder.metadata / 28 =
    le-div (length records) (size_of c.in-Folder.metadata) 28 (omega arith)
    (omega (arith, records_long records ok.records.each, ok.short)) in
    few_then g.B.Blocks.does g.B.Blocks.holds g.B.Scorer.score_of
    c.args.blocks.now c.records_of.new.blocks c.nodes_of.new.blocks c.in_ok-records.records
    c.nodes_of.result c.nodes_of.result _ _ _ _ _ _ refl c.in_ok-records.ensures.reads
    c.nodes_of.ensures.reads
    (λ map are told. subst (λ (s : Stored). ListsFolder s c.nodes_of.result map)
    (sym c.in-Folder.is)
    (list_told map c.in-Folder.entries c.in-Folder.metadata c.in_ok-records.records
    c.nodes_of.result are told))
    (λ map m n are told few more. subst (λ (s : Stored). ListAsks (g.B.Scorer.score_of []) s map (m + n))
    (sym c.in-Folder.is)
    (with_items m n (length records) (size_of c.in-Folder.metadata / 28)
    (2 * leaf_blocks c.in-Folder.entries) _ most few more))
