use Rattle.std.proofs.Common.{◌≡◌, ℕ, suc, ◌+◌, ◌-◌, ◌*◌, ◌%◌, ◌/◌, ◌<◌, ◌≤◌, ◌^◌, min, List, [], length, true, false, sym, ◌∙◌, ap, subst, arith, rules, length-append}
use Rattle.std.specs.Str.{bytes_eq}
use Rattle.std.proofs.Math.Nat.{pow-zero, mod-lt}
use Rattle.std.proofs.lemmas.Result.{err_from_is_err_and}
use Rattle.vt_tree.specs.Content.{scores_in, score_in}
use Rattle.vt_tree.specs.Walking.{AppendsBytes, ReadsBelow, ReadsEach, cut_out}
use Rattle.vt_tree.proofs.Below.{reads_zeros, reads_leaf, no_leaf, reads_pointers, no_pointers, reads_there, none_there}
use Rattle.vt_tree.proofs.Passing.{begin, step, stop, finish}
use Rattle.vt_tree.proofs.Powers.{power_some, product_some}
use Rattle.vt_tree.proofs.reading.Walk.+below.Goals as goal

one_more : (depth : ℕ) → 0 < depth → depth ≡ suc (depth - 1)
one_more depth some = omega arith

scores_some : (psize : ℕ) → 20 ≤ psize → 0 < scores_in psize
scores_some psize least = omega arith

-- ---- below one score

pub append_at-returns-in-Some : goal.append_at-returns-in-Some
append_at-returns-in-Some g t c =
    let e = c.args.self.now.entry.now in
    let d : ℕ = c.args.depth - 1 in
    let p_some = power_some (scores_in e.psize) d (scores_some e.psize c.requires.fits.0) in
    let span = c.requires.span in
    reads_there g.B.Blocks.does g.B.Scorer.score_of e d c.args.pointers.now c.args.from c.args.len
    p_some c.requires.fits.1
    (subst (λ (k : ℕ). c.args.from % k + c.args.len ≤ k) span c.requires.reached)
    c.args.blocks.now c.append_below.new.blocks c.in-Some.below.0 c.args.out.now.items
    c.append_below.new.out.items c.append_below.result
    (c.in-Some.ensures ∙ ap (λ (k : ℕ). score_in c.args.pointers.now (c.args.from / k)) span)
    (subst (λ (k : ℕ). ReadsBelow g.B.Blocks.does g.B.Scorer.score_of c.args.blocks.now
    c.append_below.new.blocks e d c.in-Some.below.0 (c.args.from % k) c.args.len
    c.args.out.now.items c.append_below.new.out.items c.append_below.result) span
    c.append_below.ensures)

pub append_at-returns-in-None : goal.append_at-returns-in-None
append_at-returns-in-None g t c =
    let e = c.args.self.now.entry.now in
    let d : ℕ = c.args.depth - 1 in
    let p_some = power_some (scores_in e.psize) d (scores_some e.psize c.requires.fits.0) in
    let span = c.requires.span in
    none_there g.B.Blocks.does g.B.Scorer.score_of e d c.args.pointers.now c.args.from c.args.len
    p_some c.requires.fits.1
    (subst (λ (k : ℕ). c.args.from % k + c.args.len ≤ k) span c.requires.reached)
    c.args.blocks.now c.args.out.now.items c.append_zeros.new.out.items c.append_zeros.result
    (c.in-None.ensures ∙ ap (λ (k : ℕ). score_in c.args.pointers.now (c.args.from / k)) span)
    c.append_zeros.ensures

-- ---- below a score

pub append_below-returns-then-eq : goal.append_below-returns-then-eq
append_below-returns-then-eq g t c =
    let s = c.args.score.now.0 in
    let none : bytes_eq s (g.B.Scorer.score_of []) ≡ true =
    ap (λ (l : List ℕ). bytes_eq s l) (sym c.requires.zero) ∙ sym c.eq.ensures ∙ c.if-eq.true in
    reads_zeros g.B.Blocks.does g.B.Scorer.score_of c.args.self.now.entry.now c.args.blocks.now
    c.args.depth s c.args.from c.args.len c.args.out.now.items c.append_zeros.new.out.items
    c.append_zeros.result none c.append_zeros.ensures

pub append_below-returns-in_err-leaf : goal.append_below-returns-in_err-leaf
append_below-returns-in_err-leaf g t c =
    let s = c.args.score.now.0 in
    let some : bytes_eq s (g.B.Scorer.score_of []) ≡ false =
    ap (λ (l : List ℕ). bytes_eq s l) (sym c.requires.zero) ∙ sym c.eq.ensures ∙ c.if-eq.false in
    let p = err_from_is_err_and c.from_residual.result c.from_residual.ensures.1 in
    rw (p.1, p.2) (no_leaf g.B.Blocks.does g.B.Scorer.score_of c.args.self.now.entry.now
    c.args.blocks.now c.block.new.blocks c.args.depth c.leaf_kind-kind.result s c.args.from
    c.args.len c.args.out.now.items c.args.out.now.items c.in_err-leaf.field-0.0
    c.if-depth-eq0.true c.requires.some some c.leaf_kind-kind.ensures c.in_err-leaf.ensures)

pub append_below-overflow_cast-from : goal.append_below-overflow_cast-from
append_below-overflow_cast-from g t c = let small = c.requires.small in omega arith

pub append_below-returns-then-depth-eq0 : goal.append_below-returns-then-depth-eq0
append_below-returns-then-depth-eq0 g t c =
    let e = c.args.self.now.entry.now in
    let s = c.args.score.now.0 in
    let some : bytes_eq s (g.B.Scorer.score_of []) ≡ false =
    ap (λ (l : List ℕ). bytes_eq s l) (sym c.requires.zero) ∙ sym c.eq.ensures ∙ c.if-eq.false in
    let one : scores_in e.psize ^ c.args.depth ≡ 1 =
    ap (λ (k : ℕ). scores_in e.psize ^ k) c.if-depth-eq0.true ∙ pow-zero (scores_in e.psize) in
    let reached : c.args.from + c.args.len ≤ 1 * e.dsize =
    subst (λ (k : ℕ). c.args.from + c.args.len ≤ k * e.dsize) one c.requires.reached in
    reads_leaf g.B.Blocks.does g.B.Scorer.score_of e c.args.blocks.now c.block.new.blocks
    c.args.depth c.leaf_kind-kind.result s c.in_ok-leaf.leaf c.args.from c.args.len
    c.args.out.now.items c.append_leaf.new.out.items c.append_leaf.result c.if-depth-eq0.true some
    c.leaf_kind-kind.ensures c.requires.fits.1 (omega (arith, reached)) c.in_ok-leaf.ensures
    (subst (λ (l : List ℕ). AppendsBytes (cut_out l c.args.from c.args.len) c.args.out.now.items
    c.append_leaf.new.out.items c.append_leaf.result) c.as_slice.ensures c.append_leaf.ensures)

pub append_below-returns-in_err-pointers : goal.append_below-returns-in_err-pointers
append_below-returns-in_err-pointers g t c =
    let s = c.args.score.now.0 in
    let some : bytes_eq s (g.B.Scorer.score_of []) ≡ false =
    ap (λ (l : List ℕ). bytes_eq s l) (sym c.requires.zero) ∙ sym c.eq.ensures ∙ c.if-eq.false in
    let deep : 0 < c.args.depth = omega (arith, c.if-depth-eq0.false) in
    let p = err_from_is_err_and c.from_residual-in_err-pointers.result
    c.from_residual-in_err-pointers.ensures.1 in
    rw (p.1, p.2) (no_pointers g.B.Blocks.does g.B.Scorer.score_of c.args.self.now.entry.now
    c.args.blocks.now c.block-2.new.blocks (c.args.depth - 1) c.args.depth c.pointer_kind.result s
    c.args.from c.args.len c.args.out.now.items c.args.out.now.items c.in_err-pointers.field-0.0
    (one_more c.args.depth deep) c.requires.some some c.pointer_kind.ensures
    c.in_err-pointers.ensures)

pub append_below-returns : goal.append_below-returns
append_below-returns g t c =
    let e = c.args.self.now.entry.now in
    let s = c.args.score.now.0 in
    let some : bytes_eq s (g.B.Scorer.score_of []) ≡ false =
    ap (λ (l : List ℕ). bytes_eq s l) (sym c.requires.zero) ∙ sym c.eq.ensures ∙ c.if-eq.false in
    let deep : 0 < c.args.depth = omega (arith, c.if-depth-eq0.false) in
    reads_pointers g.B.Blocks.does g.B.Scorer.score_of e c.args.blocks.now c.block-2.new.blocks
    c.append_each.new.blocks (c.args.depth - 1) c.args.depth c.pointer_kind.result s
    c.in_ok-pointers.pointers c.args.from c.args.len c.args.out.now.items
    c.append_each.new.out.items c.append_each.result (one_more c.args.depth deep) some
    c.pointer_kind.ensures c.in_ok-pointers.ensures
    (subst (λ (l : List ℕ). ReadsEach g.B.Blocks.does g.B.Scorer.score_of c.block-2.new.blocks
    c.append_each.new.blocks e (c.args.depth - 1) l c.args.from c.args.len c.args.out.now.items
    c.append_each.new.out.items c.append_each.result) c.as_slice-2.ensures c.append_each.ensures)

-- ---- below each score

pub append_each-append_at-requires : goal.append_each-append_at-requires
append_each-append_at-requires g t c =
    let e = c.args.self.now.entry.now in
    let d : ℕ = c.args.depth - 1 in
    let so = c.loop-left.invariant in
    let p_some = power_some (scores_in e.psize) d (scores_some e.psize c.requires.fits.0) in
    let span : c.leaves_below-leaves.result * c.from.result ≡ scores_in e.psize ^ d * e.dsize =
    λ i. c.leaves_below-leaves.ensures.value i * c.from.ensures i in
    let many : 0 < c.leaves_below-leaves.result * c.from.result =
    subst (λ (k : ℕ). 0 < k) (sym span)
    (product_some (scores_in e.psize ^ d) e.dsize p_some c.requires.fits.1) in
    let inside : c.loop-left.at % (c.leaves_below-leaves.result * c.from.result)
    < c.leaves_below-leaves.result * c.from.result =
    mod-lt c.loop-left.at many in
    let goes_on = c.loop-left-test.true in
    let is = c.min-most.ensures in
    let within = so.within in
    let place = so.place in
    let some : 0 < c.min-most.result = omega arith in
    let few : c.min-most.result ≤ c.loop-left.left = omega arith in
    let items : length c.loop-left.out.items
    ≡ length c.args.out.now.items + (c.args.len - c.loop-left.left) =
    omega (
      arith,
      ap length so.part.appended.0,
      length-append c.args.out.now.items so.part.bytes,
      so.part.appended.1,
    ) in
    let room : length c.loop-left.out.items + c.min-most.result < 2 ^ 64 =
    omega (arith, c.requires.room) in
    let small : c.loop-left.at + c.min-most.result < 2 ^ 64 =
    omega (arith, c.requires.small) in
    let reached : c.loop-left.at % (c.leaves_below-leaves.result * c.from.result)
    + c.min-most.result ≤ c.leaves_below-leaves.result * c.from.result = omega arith in
    search rules

pub append_each-returns-in_err-append_at : goal.append_each-returns-in_err-append_at
append_each-returns-in_err-append_at g t c =
    let e = c.args.self.now.entry.now in
    let d : ℕ = c.args.depth - 1 in
    let span : c.leaves_below-leaves.result * c.from.result ≡ scores_in e.psize ^ d * e.dsize =
    λ i. c.leaves_below-leaves.ensures.value i * c.from.ensures i in
    let p = err_from_is_err_and c.from_residual.result c.from_residual.ensures.1 in
    rw (p.1, p.2) (stop g.B.Blocks.does g.B.Scorer.score_of e d c.args.pointers.now c.args.from
    c.args.len c.requires.some
    (power_some (scores_in e.psize) d (scores_some e.psize c.requires.fits.0)) c.requires.fits.1
    c.args.blocks.now c.loop-left.blocks c.append_at.new.blocks c.loop-left.at c.loop-left.left
    c.min-most.result c.args.out.now.items c.loop-left.out.items c.append_at.new.out.items
    c.loop-left-test.true
    (c.min-most.ensures
    ∙ ap (λ (k : ℕ). min (k - c.loop-left.at % k) c.loop-left.left) span)
    c.loop-left.invariant c.in_err-append_at.field-0.0 c.in_err-append_at.ensures)

pub append_each-overflow_add-at : goal.append_each-overflow_add-at
append_each-overflow_add-at g t c =
    let so = c.loop-left.invariant in
    let within = so.within in
    let place = so.place in
    let is = c.min-most.ensures in
    let small = c.requires.small in
    let few : c.loop-left.at + c.min-most.result < 2 ^ 64 = omega arith in
    omega (arith, few)

pub append_each-loop-left-init : goal.append_each-loop-left-init
append_each-loop-left-init g t c =
    let e = c.args.self.now.entry.now in
    let d : ℕ = c.args.depth - 1 in
    begin g.B.Blocks.does g.B.Scorer.score_of e d c.args.pointers.now c.args.from c.args.len
    c.requires.some (power_some (scores_in e.psize) d (scores_some e.psize c.requires.fits.0))
    c.requires.fits.1 c.args.blocks.now c.args.out.now.items

pub append_each-loop-left-preserved : goal.append_each-loop-left-preserved
append_each-loop-left-preserved g t c =
    let e = c.args.self.now.entry.now in
    let d : ℕ = c.args.depth - 1 in
    let span : c.leaves_below-leaves.result * c.from.result ≡ scores_in e.psize ^ d * e.dsize =
    λ i. c.leaves_below-leaves.ensures.value i * c.from.ensures i in
    step g.B.Blocks.does g.B.Scorer.score_of e d c.args.pointers.now c.args.from c.args.len
    c.requires.some (power_some (scores_in e.psize) d (scores_some e.psize c.requires.fits.0))
    c.requires.fits.1 c.args.blocks.now c.loop-left.blocks c.append_at.new.blocks c.loop-left.at
    c.loop-left.left c.min-most.result c.args.out.now.items c.loop-left.out.items
    c.append_at.new.out.items c.loop-left-test.true
    (c.min-most.ensures
    ∙ ap (λ (k : ℕ). min (k - c.loop-left.at % k) c.loop-left.left) span)
    c.loop-left.invariant c.in_ok-append_at.ensures

pub append_each-returns : goal.append_each-returns
append_each-returns g t c =
    let e = c.args.self.now.entry.now in
    let d : ℕ = c.args.depth - 1 in
    let over : c.loop-left.left ≡ 0 = omega (arith, c.loop-left-test.false) in
    finish g.B.Blocks.does g.B.Scorer.score_of e d c.args.pointers.now c.args.from c.args.len
    c.requires.some (power_some (scores_in e.psize) d (scores_some e.psize c.requires.fits.0))
    c.requires.fits.1 c.args.blocks.now c.loop-left.blocks c.loop-left.at c.loop-left.left
    c.args.out.now.items c.loop-left.out.items over c.loop-left.invariant
