use Rattle.std.proofs.Common.{◌≡◌, decimal, length, ap, subst, arith, ◌∙◌, sym}
use Rattle.std.specs.Prelude.{IfSome}
use Rattle.vt_conf.specs.Numbers.{number_len}
use Rattle.vt_conf.proofs.NumberTexts.{parsed_is, number_is_parsed, len_of_digits, is_text, text_is}
use Rattle.vt_conf.proofs.number.number.Goals as goal

pub returns-then-number_len-text-clause-only : goal.returns-then-number_len-text-clause-only
returns-then-number_len-text-clause-only c n fits is =
    let len = len_of_digits n fits in
    let same : number_len c.args.text.now ≡ length c.args.text.now = ap number_len is ∙ len ∙ sym (ap length is) in
    absurd (omega (arith, same))

pub returns-in_err-ok-clause-only : goal.returns-in_err-ok-clause-only
returns-in_err-ok-clause-only c n fits is =
    absurd (is_text n c.args.text.now c.from_utf8.result fits is c.from_utf8.ensures.cases (sym c.ok.ensures.value ∙ c.in_err-ok.was))

pub returns-clause-value : goal.returns-clause-value
returns-clause-value c =
    let is = text_is c.args.text.now c.from_utf8.result c.in_ok-ok.field-0 c.from_utf8.ensures.cases (sym c.ok.ensures.value ∙ c.in_ok-ok.was) in
    subst (λ r. IfSome r (λ n. c.args.text.now ≡ decimal n)) (sym c.ok-2.ensures.value)
    (parsed_is c.args.text.now c.in_ok-ok.field-0.now c.parse.result is c.parse.ensures.value.0 (omega arith))

pub returns-clause-only : goal.returns-clause-only
returns-clause-only c n fits is =
    let same = text_is c.args.text.now c.from_utf8.result c.in_ok-ok.field-0 c.from_utf8.ensures.cases (sym c.ok.ensures.value ∙ c.in_ok-ok.was) in
    c.ok-2.ensures.value ∙ number_is_parsed n c.in_ok-ok.field-0.now c.parse.result fits (same ∙ is) c.parse.ensures.value.0
