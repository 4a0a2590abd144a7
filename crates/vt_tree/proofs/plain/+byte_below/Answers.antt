use Rattle.std.proofs.Common.{◌<◌, ℕ, ◌-◌, ◌^◌, ◌%◌, Ok, Some, None, sym, ◌∙◌, ap, subst, arith, rules}
use Rattle.std.specs.Option.{option_map}
use Rattle.std.proofs.Math.Nat.{mod-lt}
use Rattle.vt_tree.specs.Content.{scores_in}
use Rattle.vt_tree.specs.Memory.{held_in}
use Rattle.vt_tree.proofs.Contents.{deeper}
use Rattle.vt_tree.proofs.Powers.{positive}
use Rattle.vt_tree.proofs.plain.+byte_below.Goals as goal

pub nonzero_div-leaf : goal.nonzero_div-leaf
nonzero_div-leaf g t c =
    subst (λ (k : ℕ). 0 < k) (sym c.leaves_below-leaves.ensures.value)
    (positive (scores_in c.args.entry.now.psize) c.args.depth c.args.leaf (omega arith)
    c.requires.reached)

pub nonzero_rem-leaf : goal.nonzero_rem-leaf
nonzero_rem-leaf g t c =
    subst (λ (k : ℕ). 0 < k) (sym c.leaves_below-leaves.ensures.value)
    (positive (scores_in c.args.entry.now.psize) c.args.depth c.args.leaf (omega arith)
    c.requires.reached)

pub returns-in-Some : goal.returns-in-Some
returns-in-Some g t c =
    let map = held_in g.S.Scorer.score_of c.args.blocks.now in
    c.byte_below.ensures
    ∙ sym (deeper map c.args.entry.now (c.args.depth - 1) c.args.depth c.args.score.now.0
    c.args.leaf c.args.byte c.leaves_below-leaves.result _ (Some c.in-Some.below.0) (omega arith)
    c.leaves_below-leaves.ensures.value
    (c.held-block.ensures.found ∙ ap (map c.args.score.now.0) c.pointer_kind.ensures)
    (c.in_ok-below.ensures ∙ ap (λ o. Ok (option_map (λ s. s.0) o)) c.in-Some.is))

pub returns-in-None : goal.returns-in-None
returns-in-None g t c =
    let map = held_in g.S.Scorer.score_of c.args.blocks.now in
    sym (deeper map c.args.entry.now (c.args.depth - 1) c.args.depth c.args.score.now.0
    c.args.leaf c.args.byte c.leaves_below-leaves.result _ None (omega arith)
    c.leaves_below-leaves.ensures.value
    (c.held-block.ensures.found ∙ ap (map c.args.score.now.0) c.pointer_kind.ensures)
    (c.in_ok-below.ensures ∙ ap (λ o. Ok (option_map (λ s. s.0) o)) c.in-None.is))

pub byte_below-requires : goal.byte_below-requires
byte_below-requires g t c =
    let some : 0 < c.leaves_below-leaves.result =
    subst (λ (k : ℕ). 0 < k) (sym c.leaves_below-leaves.ensures.value)
    (positive (scores_in c.args.entry.now.psize) c.args.depth c.args.leaf (omega arith)
    c.requires.reached) in
    let reached : c.args.leaf % c.leaves_below-leaves.result
    < scores_in c.args.entry.now.psize ^ (c.args.depth - 1) =
    subst (λ (k : ℕ). c.args.leaf % c.leaves_below-leaves.result < k)
    c.leaves_below-leaves.ensures.value (mod-lt c.args.leaf some) in
    search rules
