use Rattle.std.proofs.Common.{Some, ap, ◌∙◌, sym}
use Rattle.vt_conf.proofs.SizeTexts.{no_size_of_none, size_with_letter, size_without_letter}
use Rattle.vt_conf.proofs.size.parse_size.Goals as goal

pub returns-in_err-last-clause-only : goal.returns-in_err-last-clause-only
returns-in_err-last-clause-only c size s =
    absurd (no_size_of_none size c.args.text.now c.in_err-last.ensures.cases s)

pub returns-in-Some-clause-only : goal.returns-in-Some-clause-only
returns-in-Some-clause-only c size s =
    let front = c.in_ok-last.front.now in
    let h = size_with_letter size c.args.text.now front c.in_ok-last.last.now c.in-Some.unit c.in_ok-last.ensures.cases.0
    (sym c.unit.ensures.value ∙ c.in-Some.is) s in
    c.sized.ensures.only h.number h.digits_are h.most ∙ ap Some (sym h.value)

pub returns-in-None-clause-only : goal.returns-in-None-clause-only
returns-in-None-clause-only c size s =
    let front = c.in_ok-last.front.now in
    let h = size_without_letter size c.args.text.now front c.in_ok-last.last.now c.in_ok-last.ensures.cases.0
    (sym c.unit.ensures.value ∙ c.in-None.is) s in
    c.sized-in-None.ensures.only h.number h.digits_are h.most ∙ ap Some (sym h.value)
