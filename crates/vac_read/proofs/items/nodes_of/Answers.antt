use Rattle.std.proofs.Common.{◌≡◌, ◌+◌, ◌*◌, ◌<◌, ◌≤◌, ◌++◌, ℕ, Ok, Err, List, [], ◌∷◌, length, rules, refl, sym, ◌∙◌, ap, subst, inl, arith, append_assoc, length-append, le_trans, mul-le-mul_right}
use Rattle.std.proofs.lemmas.Nat.{row_fits}
use Rattle.std.specs.List.{All}
use Rattle.std.specs.Vec.Iter.{into_iter_items}
use Rattle.std.proofs.lemmas.List.Elements.{All-push}
use Rattle.std.proofs.lemmas.Result.{err_from_is_err_and}
use Rattle.vt_tree.specs.declared.entry.Entry.{Entry}
use Rattle.vac_meta.specs.declared.record.Record.{Record}
use Rattle.vac_read.specs.declared.error.VacBad.TheVariants.{NoMemory}
use Rattle.vac_read.specs.declared.node.Node.{Node}
use Rattle.vac_read.specs.Nodes.{AreNodeEntries, AreNodes, FitsToldItem, IsDirectory, IsNode}
use Rattle.vac_read.specs.Asking.{leaf_blocks}
use Rattle.vac_read.proofs.Few.{few_as, few_nothing, few_then}
use Rattle.vac_read.proofs.Lists.{all_of_it, is_record_there, nodes_more, place_more, place_within}
use Rattle.vac_read.proofs.Steps.{node_lacks}
use Rattle.vac_read.proofs.items.nodes_of.Goals as goal

-- ---- how many blocks were asked for

-- as many as were asked for before, and for one more
with_one : (m n : ℕ) (before : List Record) (now stream : Entry) → now ≡ stream
    → m ≤ length before * (2 * leaf_blocks stream) → n ≤ 2 * leaf_blocks now
    → m + n ≤ length before * (2 * leaf_blocks stream) + 2 * leaf_blocks stream
with_one m n before now stream same few more =
    let one : n ≤ 2 * leaf_blocks stream =
    subst (λ (e : Entry). n ≤ 2 * leaf_blocks e) same more in
    omega (arith, few, one)

one_more : (before : List Record) (r : Record) (n : ℕ)
    → length before * n + n ≤ length (before ++ r ∷ []) * n
one_more before r n =
    let more = length-append before (r ∷ []) in
    row_fits (length before) n (length (before ++ r ∷ [])) n (omega arith) (omega arith)

fewer : (records before : List Record) (r : Record) (rest : List Record) (n : ℕ)
    → records ≡ before ++ r ∷ rest → length before * n + n ≤ length records * n
fewer records before r rest n among =
    let all = ap (λ (l : List Record). length l) among ∙ length-append before (r ∷ rest) in
    row_fits (length before) n (length records) n (omega arith) (omega arith)

front_fewer : (records before rest : List Record) (n : ℕ) → records ≡ before ++ rest
    → length before * n ≤ length records * n
front_fewer records before rest n among =
    let all = ap (λ (l : List Record). length l) among ∙ length-append before rest in
    mul-le-mul_right n (omega arith)

-- ---- the loop

pub loop-record-init : goal.loop-record-init
loop-record-init g c = record {
  stream = c.new-directory.ensures.stream;
  place_is = refl;
  among = search rules;
  len = search rules;
  entries = search rules;
  items = search rules;
  reads = few_nothing g.B.Blocks.does g.B.Blocks.holds g.B.Scorer.score_of c.args.blocks.now
      (Ok (tt {0})) _ _ refl
      (λ map. (
        inl c.new-directory.ensures.leaf,
        subst (λ (l : List Node). AreNodes map c.args.entries [] l)
            (sym c.in_ok-nodes.ensures.items) tt,
      ))
      (λ map. omega arith);
}

pub overflow_add-place : goal.overflow_add-place
overflow_add-place g c =
    let inv = c.loop-record.invariant in
    let before : List Record = c.loop-record.yielded in
    let r : Record = c.in-Some.record in
    let among : c.args.records ≡ before ++ r ∷ into_iter_items c.next.new.self =
    inv.among ∙ ap (λ (l : List Record). before ++ l) c.in-Some.ensures.steps.0 in
    let small = place_within c.args.records before r _ c.loop-record.place among inv.place_is
    c.requires.short in
    omega (arith, c.record_len-place.ensures, small)

pub record_len-place-requires : goal.record_len-place-requires
record_len-place-requires g c =
    let inv = c.loop-record.invariant in
    let before : List Record = c.loop-record.yielded in
    (is_record_there c.args.records before c.in-Some.record (into_iter_items c.next.new.self)
    (inv.among ∙ ap (λ (l : List Record). before ++ l) c.in-Some.ensures.steps.0)
    c.requires.each).fits

pub node_of-requires-clause-stream : goal.node_of-requires-clause-stream
node_of-requires-clause-stream g c =
    subst IsDirectory (sym c.loop-record.invariant.stream) c.requires.stream

pub node_of-requires-clause-item : goal.node_of-requires-clause-item
node_of-requires-clause-item g c =
    let inv = c.loop-record.invariant in
    let before : List Record = c.loop-record.yielded in
    is_record_there c.args.records before c.in-Some.record (into_iter_items c.next.new.self)
    (inv.among ∙ ap (λ (l : List Record). before ++ l) c.in-Some.ensures.steps.0)
    c.requires.each

pub node_of-requires-clause-place : goal.node_of-requires-clause-place
node_of-requires-clause-place g c =
    let inv = c.loop-record.invariant in
    let before : List Record = c.loop-record.yielded in
    place_within c.args.records before c.in-Some.record (into_iter_items c.next.new.self)
    c.loop-record.place
    (inv.among ∙ ap (λ (l : List Record). before ++ l) c.in-Some.ensures.steps.0) inv.place_is
    c.requires.short

pub returns-in_err-node-clause-reads : goal.returns-in_err-node-clause-reads
returns-in_err-node-clause-reads g c =
    let p = err_from_is_err_and c.from_residual-in_err-node.result
    c.from_residual-in_err-node.ensures.1 in
    let inv = c.loop-record.invariant in
    let before : List Record = c.loop-record.yielded in
    let nodes : List Node = c.loop-record.nodes.items in
    let r : Record = c.in-Some.record in
    let bad = c.in_err-node.field-0.0 in
    let among : c.args.records ≡ before ++ r ∷ into_iter_items c.next.new.self =
    inv.among ∙ ap (λ (l : List Record). before ++ l) c.in-Some.ensures.steps.0 in
    rw (p.1, p.2) (few_then g.B.Blocks.does g.B.Blocks.holds g.B.Scorer.score_of
    c.args.blocks.now c.loop-record.blocks c.node_of.new.blocks (tt {0}) (Err bad) (Err bad) _ _ _
    _ _ _ refl inv.reads c.in_err-node.ensures.reads
    (λ map so told some.
    node_lacks map c.args.entries c.loop-record.directory.stream c.args.records before nodes r _
    c.loop-record.place bad so.1 among inv.place_is inv.stream ((told so.0).1 some))
    (λ map m n so told few more. le_trans
    (with_one m n before c.loop-record.directory.stream c.args.entries inv.stream few more)
    (fewer c.args.records before r _ (2 * leaf_blocks c.args.entries) among)))

pub loop-record-preserved : goal.loop-record-preserved
loop-record-preserved g c =
    let inv = c.loop-record.invariant in
    let before : List Record = c.loop-record.yielded in
    let nodes : List Node = c.loop-record.nodes.items in
    let r : Record = c.in-Some.record in
    let node : Node = c.in_ok-node.node in
    let steps = c.in-Some.ensures.steps in
    let shorter = ap (λ (l : List Record). length l) steps.0 in
    let len = inv.len in
    let left = steps.1 in
    let more : c.push.new.self.items ≡ nodes ++ node ∷ [] = c.in_ok-push.ensures.items in
    record {
      stream = c.in_ok-node.ensures.stream ∙ inv.stream;
      place_is = ap (λ (n : ℕ). c.loop-record.place + n) c.record_len-place.ensures
          ∙ place_more before r c.loop-record.place inv.place_is;
      among = inv.among ∙ ap (λ (l : List Record). before ++ l) steps.0
          ∙ sym (append_assoc before (r ∷ []) (into_iter_items c.next.new.self));
      len = omega arith;
      entries = subst (λ (l : List Node). All (λ (n : Node). AreNodeEntries n.stored) l) (sym more)
          (All-push (λ (n : Node). AreNodeEntries n.stored) nodes node inv.entries
          c.in_ok-node.ensures.entries);
      items = subst (λ (l : List Node). All (λ (n : Node). FitsToldItem n.item) l) (sym more)
          (All-push (λ (n : Node). FitsToldItem n.item) nodes node inv.items
          c.in_ok-node.ensures.item);
      reads = few_then g.B.Blocks.does g.B.Blocks.holds g.B.Scorer.score_of
          c.args.blocks.now c.loop-record.blocks c.node_of.new.blocks (tt {0}) (Ok node)
          (Ok (tt {0})) _ _ _ _ _ _ refl inv.reads c.in_ok-node.ensures.reads
          (λ map so told.
          let t = told so.0 in (
            t.0,
            subst (λ (l : List Node). AreNodes map c.args.entries (before ++ r ∷ []) l) (sym more)
                (nodes_more map c.args.entries before nodes r node so.1
                (subst (λ (e : Entry). IsNode map e r node) inv.stream t.1)),
          ))
          (λ map m n so told few more. le_trans
          (with_one m n before c.loop-record.directory.stream c.args.entries inv.stream few more)
          (one_more before r (2 * leaf_blocks c.args.entries)));
    }

pub returns-in_err-nodes-clause-reads : goal.returns-in_err-nodes-clause-reads
returns-in_err-nodes-clause-reads g c =
    let p = err_from_is_err_and c.from_residual.result c.from_residual.ensures.1 in
    rw (p.1, p.2) (few_nothing g.B.Blocks.does g.B.Blocks.holds g.B.Scorer.score_of
    c.args.blocks.now (Err NoMemory) _ _ refl (λ map some. absurd (some refl))
    (λ map. omega arith))

pub returns-in_err-push-clause-reads : goal.returns-in_err-push-clause-reads
returns-in_err-push-clause-reads g c =
    let p = err_from_is_err_and c.from_residual-in_err-push.result
    c.from_residual-in_err-push.ensures.1 in
    let inv = c.loop-record.invariant in
    let before : List Record = c.loop-record.yielded in
    let r : Record = c.in-Some.record in
    let among : c.args.records ≡ before ++ r ∷ into_iter_items c.next.new.self =
    inv.among ∙ ap (λ (l : List Record). before ++ l) c.in-Some.ensures.steps.0 in
    rw (p.1, p.2) (few_then g.B.Blocks.does g.B.Blocks.holds g.B.Scorer.score_of
    c.args.blocks.now c.loop-record.blocks c.node_of.new.blocks (tt {0}) (Ok c.in_ok-node.node)
    (Err NoMemory) _ _ _ _ _ _ refl inv.reads c.in_ok-node.ensures.reads
    (λ map so told some. absurd (some refl))
    (λ map m n so told few more. le_trans
    (with_one m n before c.loop-record.directory.stream c.args.entries inv.stream few more)
    (fewer c.args.records before r _ (2 * leaf_blocks c.args.entries) among)))

pub returns-clause-reads : goal.returns-clause-reads
returns-clause-reads g c =
    let inv = c.loop-record.invariant in
    let len = inv.len in
    let end = c.in-None.ensures.steps in
    let none : length (into_iter_items c.loop-record.record-iterator) ≡ 0 = omega arith in
    let all = all_of_it c.args.records c.loop-record.yielded
    (into_iter_items c.loop-record.record-iterator) inv.among none in
    few_as g.B.Blocks.does g.B.Blocks.holds g.B.Scorer.score_of
    c.args.blocks.now c.loop-record.blocks (Ok (tt {0})) (Ok c.from_vec.result) _ _ _ _ refl
    inv.reads
    (λ map so. subst (λ (l : List Node). AreNodes map c.args.entries c.args.records l)
    (sym c.from_vec.ensures)
    (subst (λ (l : List Record). AreNodes map c.args.entries l c.loop-record.nodes.items) (sym all)
    so.1))
    (λ map n so few. le_trans few
    (front_fewer c.args.records c.loop-record.yielded
    (into_iter_items c.loop-record.record-iterator) (2 * leaf_blocks c.args.entries) inv.among))
