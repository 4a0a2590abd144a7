-- The arena's own refusal comes first.
use Rattle.std.proofs.Common.{sym, subst, Bool, Err}
use Rattle.std.proofs.lemmas.Result.{err_from_is_err_and}
use Rattle.vt_log.specs.Mounting.{FindsNext}
use Rattle.vt_log.proofs.AreFound.{next_refused, order_passes, order_refused}
use Rattle.vt_log.proofs.mounting.find_next.Goals as goal

pub returns-in_err-found-clause-answer : goal.returns-in_err-found-clause-answer
returns-in_err-found-clause-answer g c =
    let e = err_from_is_err_and c.from_residual.result c.from_residual.ensures.1 in
    let answer = c.in_err-found.ensures.answer in
    (answer.0, answer.1, rw (e.1, e.2) (next_refused c.args.behind c.args.arena c.args.r answer.0 c.in_err-found.field-0.0 answer.2), rw e.1 tt)

pub returns-in_err-check_order-clause-answer : goal.returns-in_err-check_order-clause-answer
returns-in_err-check_order-clause-answer g c =
    let e = err_from_is_err_and c.from_residual-in_err-check_order.result c.from_residual-in_err-check_order.ensures.1 in
    let answer = c.in_ok-found.ensures.answer in (
      answer.0,
      answer.1,
      rw (e.1, e.2) (subst (λ (b : Bool). FindsNext b c.args.arena c.args.r answer.0 (Err c.in_err-check_order.field-0.0)) (sym c.if-behind.true)
          (order_refused c.args.arena c.args.r answer.0 c.in_ok-found.found c.in_err-check_order.field-0.0 answer.2 c.in_err-check_order.ensures.order)),
      rw e.1 tt,
    )

pub returns-in_ok-check_order-clause-answer : goal.returns-in_ok-check_order-clause-answer
returns-in_ok-check_order-clause-answer g c =
    let answer = c.in_ok-found.ensures.answer in
    (answer.0, answer.1, rw c.if-behind.true (order_passes c.args.arena c.args.r answer.0 c.in_ok-found.found answer.2 c.in_ok-check_order.ensures.order), answer.3)

pub returns-else-behind-clause-answer : goal.returns-else-behind-clause-answer
returns-else-behind-clause-answer g c =
    let answer = c.in_ok-found.ensures.answer in
    (answer.0, answer.1, rw c.if-behind.false answer.2, answer.3)
