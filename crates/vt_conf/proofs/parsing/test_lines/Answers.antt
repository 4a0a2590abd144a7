use Rattle.std.proofs.Common.{refl, ◌∙◌, ap, arith}
use Rattle.std.specs.Prelude.{◌==◌}
use Rattle.std.specs.List.{before_first}
use Rattle.std.proofs.lemmas.List.{take_rest}
use Rattle.vt_conf.proofs.TextLines.{one_passed, all_passed, first_wrong}
use Rattle.vt_conf.proofs.parsing.test_lines.Goals as goal

pub returns-in-Err-clause-bad : goal.returns-in-Err-clause-bad
returns-in-Err-clause-bad c =
    let text = c.args.text.now in
    let is = c.first_line-line.ensures.value ∙ ap (before_first (λ b. b == 10)) (take_rest text c.loop-start.start) in
    first_wrong text c.first_line-line.result.now c.loop-start.start c.loop-start.number c.in-Err.why c.loop-start.invariant c.loop-start-test.true is
    c.in-Err.ensures.bad

pub loop-start-preserved : goal.loop-start-preserved
loop-start-preserved c =
    let text = c.args.text.now in
    let is = c.first_line-line.ensures.value ∙ ap (before_first (λ b. b == 10)) (take_rest text c.loop-start.start) in
    one_passed text c.first_line-line.result.now c.loop-start.start c.loop-start.number _ c.loop-start.invariant c.loop-start-test.true is refl
    c.in_default.ensures.ok

pub returns-clause-ok : goal.returns-clause-ok
returns-clause-ok c = all_passed c.args.text.now c.loop-start.start c.loop-start.number c.loop-start.invariant (omega arith)
