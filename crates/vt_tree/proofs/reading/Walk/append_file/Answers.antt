use Rattle.std.proofs.Common.{◌≡◌, ℕ, ◌-◌, ◌*◌, ◌<◌, ◌^◌, min, Ok, Err, ◌∙◌, ap, subst, arith}
use Rattle.std.proofs.lemmas.Result.{err_from_is_err_and}
use Rattle.vt_tree.specs.Content.{scores_in}
use Rattle.vt_tree.specs.Walking.{ReadsBelow}
use Rattle.vt_tree.proofs.Below.{reads_past, reads_in_part, reads_all}
use Rattle.vt_tree.proofs.reading.Walk.append_file.Goals as goal

pub returns-then-reached-eq0 : goal.returns-then-reached-eq0
returns-then-reached-eq0 g c =
    let e = c.args.self.now.entry.now in
    let product : c.leaves_below.result * c.from.result ≡ scores_in e.psize ^ e.depth * e.dsize =
    λ i. c.leaves_below.ensures.value i * c.from.ensures i in
    reads_past g.B.Blocks.does g.B.Scorer.score_of e c.args.blocks.now c.args.from c.args.len
    c.args.out.now.items c.append_zeros.new.out.items c.append_zeros.result
    (λ some.
    let left = c.saturating_sub.ensures in
    let most = c.min-reached.ensures in
    let at = c.from-from.ensures in
    let none : c.min-reached.result ≡ 0 = c.if-reached-eq0.true in
    ((c.requires.fits some).1, omega arith))
    c.append_zeros.ensures

pub returns-in_err-append_below : goal.returns-in_err-append_below
returns-in_err-append_below g c =
    let e = c.args.self.now.entry.now in
    let product : c.leaves_below.result * c.from.result ≡ scores_in e.psize ^ e.depth * e.dsize =
    λ i. c.leaves_below.ensures.value i * c.from.ensures i in
    let left = c.saturating_sub.ensures in
    let most = c.min-reached.ensures in
    let at = c.from-from.ensures in
    let some : 0 < c.min-reached.result = omega (arith, c.if-reached-eq0.false) in
    let any : 0 < c.args.len = omega arith in
    let is : c.min-reached.result
    ≡ min (scores_in e.psize ^ e.depth * e.dsize - c.args.from) c.args.len =
    most ∙ ap (λ (k : ℕ). min k c.args.len) (left ∙ (λ i. product i - at i)) in
    let p = err_from_is_err_and c.from_residual.result c.from_residual.ensures.1 in
    rw (p.1, p.2) (reads_in_part g.B.Blocks.does g.B.Scorer.score_of e c.args.from c.args.len
    c.min-reached.result some (c.requires.fits any).1 is c.args.blocks.now
    c.append_below.new.blocks c.args.out.now.items c.append_below.new.out.items
    c.in_err-append_below.field-0.0
    (subst (λ (k : ℕ). ReadsBelow g.B.Blocks.does g.B.Scorer.score_of c.args.blocks.now
    c.append_below.new.blocks e e.depth e.score.0 k c.min-reached.result c.args.out.now.items
    c.append_below.new.out.items (Err c.in_err-append_below.field-0.0)) at
    c.in_err-append_below.ensures))

pub returns : goal.returns
returns g c =
    let e = c.args.self.now.entry.now in
    let product : c.leaves_below.result * c.from.result ≡ scores_in e.psize ^ e.depth * e.dsize =
    λ i. c.leaves_below.ensures.value i * c.from.ensures i in
    let left = c.saturating_sub.ensures in
    let most = c.min-reached.ensures in
    let at = c.from-from.ensures in
    let some : 0 < c.min-reached.result = omega (arith, c.if-reached-eq0.false) in
    let any : 0 < c.args.len = omega arith in
    let is : c.min-reached.result
    ≡ min (scores_in e.psize ^ e.depth * e.dsize - c.args.from) c.args.len =
    most ∙ ap (λ (k : ℕ). min k c.args.len) (left ∙ (λ i. product i - at i)) in
    reads_all g.B.Blocks.does g.B.Scorer.score_of e c.args.from c.args.len c.min-reached.result some
    (c.requires.fits any).1 is c.args.blocks.now c.append_below.new.blocks c.args.out.now.items
    c.append_below.new.out.items c.append_zeros-2.new.out.items c.append_zeros-2.result
    (subst (λ (k : ℕ). ReadsBelow g.B.Blocks.does g.B.Scorer.score_of c.args.blocks.now
    c.append_below.new.blocks e e.depth e.score.0 k c.min-reached.result c.args.out.now.items
    c.append_below.new.out.items (Ok tt)) at c.in_ok-append_below.ensures)
    c.append_zeros-2.ensures
