use Rattle.std.proofs.Common.{Option, List, ℕ, Ok, Err, Some, None, take, drop, suc, refl, sym, subst}
use Rattle.std.specs.Prelude.{IfSome}
use Rattle.std.proofs.lemmas.List.{take_all}
use Rattle.std.proofs.lemmas.Result.{err_from_is_err_and}
use Rattle.vac_read.specs.declared.node.Node.{Node}
use Rattle.vac_read.specs.Broken.{IsUnfound}
use Rattle.vac_read.specs.Nodes.{AreNodeEntries, FindsNode, Leads}
use Rattle.vac_read.specs.Reading.{IsLost}
use Rattle.vac_read.proofs.Lists.{split_at, take_more}
use Rattle.vac_read.proofs.Readings.{reads_as, reads_then}
use Rattle.vac_read.proofs.Walks.{leads_nowhere, leads_one_more, lost_on}
use Rattle.vac_read.proofs.folders.walk.Goals as goal

pub returns-in_err-next-clause-walks : goal.returns-in_err-next-clause-walks
returns-in_err-next-clause-walks g c =
    let p = err_from_is_err_and c.from_residual-in_err-next.result
    c.from_residual-in_err-next.ensures.1 in
    let bad = c.in_err-next.field-0.0 in
    let node : Node = c.args.node.now in
    let names : List (List ℕ) = c.args.names.now in
    let i : ℕ = c.loop-name.name-index in
    let name : List ℕ = c.name-item.result in
    let split = split_at names i name c.loop-name-test.true c.name-item.is in
    rw (p.1, p.2) (reads_then g.B.Blocks.does g.B.Blocks.holds g.B.Scorer.score_of
    c.args.blocks.now c.loop-name.blocks c.find_item.new.blocks (tt {0}) (Err bad) (Err bad) _ _ _ refl
    c.loop-name.invariant.reads c.in_err-next.ensures.finds.reads
    (λ map so told some. subst (λ (l : List (List ℕ)). IsLost map node l bad) (sym split)
    (lost_on map name (drop (suc i) names) c.loop-name.found bad node (take i names) so.1
    (subst (λ (l : List ℕ). IsUnfound map c.loop-name.found.stored l bad) c.as_slice.ensures
    ((told so.0).1 some)))))

pub returns-in-None-clause-walks : goal.returns-in-None-clause-walks
returns-in-None-clause-walks g c =
    let node : Node = c.args.node.now in
    let found : Node = c.loop-name.found in
    let names : List (List ℕ) = c.args.names.now in
    let i : ℕ = c.loop-name.name-index in
    let name : List ℕ = c.name-item.result in
    let split = split_at names i name c.loop-name-test.true c.name-item.is in
    reads_then g.B.Blocks.does g.B.Blocks.holds g.B.Scorer.score_of
    c.args.blocks.now c.loop-name.blocks c.find_item.new.blocks (tt {0}) (Ok c.in_ok-next.field-0)
    (Ok None) _ _ _ refl c.loop-name.invariant.reads c.in_ok-next.ensures.finds.reads
    (λ map so finds. subst (λ (l : List (List ℕ)). Leads map (Some node) l None) (sym split)
    (leads_nowhere map name (drop (suc i) names) node found (take i names) so.1
    (subst (λ (l : List ℕ). FindsNode map found.stored l None) c.as_slice.ensures
    (subst (λ (o : Option Node). FindsNode map found.stored c.as_slice.result.now o) c.in-None.is
    (finds so.0).1))))

pub loop-name-preserved : goal.loop-name-preserved
loop-name-preserved g c =
    let node : Node = c.args.node.now in
    let found : Node = c.loop-name.found in
    let next : Node = c.in-Some.next in
    let names : List (List ℕ) = c.args.names.now in
    let i : ℕ = c.loop-name.name-index in
    let name : List ℕ = c.name-item.result in
    let more = take_more names i name c.loop-name-test.true c.name-item.is in
    record {
      entries = subst (λ (o : Option Node). IfSome o (λ (n : Node). AreNodeEntries n.stored))
          c.in-Some.is c.in_ok-next.ensures.entries;
      reads = reads_then g.B.Blocks.does g.B.Blocks.holds g.B.Scorer.score_of
          c.args.blocks.now c.loop-name.blocks c.find_item.new.blocks (tt {0})
          (Ok c.in_ok-next.field-0) (Ok (tt {0})) _ _ _ refl c.loop-name.invariant.reads
          c.in_ok-next.ensures.finds.reads
          (λ map so finds. (
            (finds so.0).0,
            subst (λ (l : List (List ℕ)). Leads map (Some node) l (Some next)) (sym more)
                (leads_one_more map name node found (Some next) (take i names) so.1
                (subst (λ (l : List ℕ). FindsNode map found.stored l (Some next)) c.as_slice.ensures
                (subst (λ (o : Option Node). FindsNode map found.stored c.as_slice.result.now o)
                c.in-Some.is (finds so.0).1))),
          ));
    }

pub returns-clause-walks : goal.returns-clause-walks
returns-clause-walks g c =
    let node : Node = c.args.node.now in
    let found : Node = c.loop-name.found in
    let names : List (List ℕ) = c.args.names.now in
    let i : ℕ = c.loop-name.name-index in
    reads_as g.B.Blocks.does g.B.Blocks.holds g.B.Scorer.score_of
    c.args.blocks.now c.loop-name.blocks (Ok (tt {0})) (Ok (Some found)) _ _ refl
    c.loop-name.invariant.reads
    (λ map so. subst (λ (l : List (List ℕ)). Leads map (Some node) l (Some found))
    (take_all i names c.loop-name-test.false) so.1)
