use Rattle.std.proofs.Common.{◌≡◌, ◌≤◌, ◌+◌, None, Some, inl, refl, sym, ◌∙◌, arith}
use Rattle.std.proofs.lemmas.Option.{slice_get_within}
use Rattle.std.proofs.lemmas.Result.{err_from_is_err_and}
use Rattle.vt_core.proofs.TestsParts.{each_next, marks_of, read_at}
use Rattle.vt_core.proofs.mounting.test_marks.Goals as goal

pub loop-i-init : goal.loop-i-init
loop-i-init g c = λ i s lt at. absurd (omega (arith, lt))

pub returns-in_err-test_mark : goal.returns-in_err-test_mark
returns-in_err-test_mark g c =
    let sections = c.args.sections.now in
    let s = c.index-sections-i.result in
    let p = err_from_is_err_and c.from_residual.result c.from_residual.ensures.1 in
    rw (p.1, p.2) (
      c.args.part + c.loop-i.i,
      c.mark.result,
      inl (c.loop-i.i, s, read_at sections c.loop-i.i s c.loop-i-test.true c.index-sections-i.is, refl, c.mark.ensures),
      c.in_err-test_mark.ensures.0,
      c.in_err-test_mark.ensures.1,
    )

pub loop-i-preserved : goal.loop-i-preserved
loop-i-preserved g c =
    let sections = c.args.sections.now in
    let s = c.index-sections-i.result in
    let low : s.head.mark ≤ c.args.len = omega (arith, c.in_ok-test_mark.ensures, c.mark.ensures) in
    each_next sections (λ k t. t.head.mark ≤ c.args.len) c.loop-i.i s (read_at sections c.loop-i.i s c.loop-i-test.true c.index-sections-i.is) low c.loop-i.invariant

pub returns-in-Some : goal.returns-in-Some
returns-in-Some g c =
    let sections = c.args.sections.now in
    marks_of c.args.part sections c.args.bloom.now c.args.len c.in-Some.bloom c.in-Some.is c.mark-in-Some.result c.mark-in-Some.ensures
    (λ i s at. c.loop-i.invariant i s (omega (arith, slice_get_within sections i s at, c.loop-i-test.false)) at) c.test_mark-in-Some.result c.test_mark-in-Some.ensures

pub returns-in-None : goal.returns-in-None
returns-in-None g c =
    let sections = c.args.sections.now in
    (λ i s at. c.loop-i.invariant i s (omega (arith, slice_get_within sections i s at, c.loop-i-test.false)) at, λ b is. let e : Some b ≡ None = sym is ∙ c.in-None.is in absurd (cc))
