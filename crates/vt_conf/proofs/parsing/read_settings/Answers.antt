use Rattle.std.proofs.Common.{refl, ◌∙◌, ap}
use Rattle.std.specs.Prelude.{◌==◌}
use Rattle.std.specs.List.{before_first}
use Rattle.std.proofs.lemmas.List.{take_rest}
use Rattle.std.proofs.lemmas.Result.{err_from_is_err_and}
use Rattle.vt_conf.proofs.LineSettings.{one_read, bad_read}
use Rattle.vt_conf.proofs.parsing.read_settings.Goals as goal

pub returns-in_err-add_line-clause-bad : goal.returns-in_err-add_line-clause-bad
returns-in_err-add_line-clause-bad c =
    let text = c.args.text.now in
    let is = c.first_line-line.ensures.value ∙ ap (before_first (λ b. b == 10)) (take_rest text c.loop-start.start) in
    let p = err_from_is_err_and c.from_residual.result c.from_residual.ensures.1 in
    rw (p.1, p.2) (bad_read text c.first_line-line.result.now c.loop-start.start c.loop-start.number c.loop-start.settings.items
    c.in_err-add_line.field-0.0 c.loop-start.invariant c.loop-start-test.true is c.requires c.in_err-add_line.ensures.bad)

pub loop-start-preserved : goal.loop-start-preserved
loop-start-preserved c =
    let text = c.args.text.now in
    let is = c.first_line-line.ensures.value ∙ ap (before_first (λ b. b == 10)) (take_rest text c.loop-start.start) in
    one_read text c.first_line-line.result.now c.loop-start.start c.loop-start.number _ _ _ c.loop-start.invariant c.loop-start-test.true is refl
    c.in_ok-add_line.ensures.ok
