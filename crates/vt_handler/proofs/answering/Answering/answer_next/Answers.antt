-- a write failed before the item was asked
use Rattle.std.proofs.Common.{Err, refl}
use Rattle.std.proofs.lemmas.Result.{err_from_is_err_and}
use Rattle.vt_handler.proofs.Links.{nothing_said}
use Rattle.vt_handler.proofs.answering.Answering.answer_next.Goals as goal

pub returns-in_err-flush-clause-advances : goal.returns-in_err-flush-clause-advances
returns-in_err-flush-clause-advances g c =
    let p = err_from_is_err_and c.from_residual.result c.from_residual.ensures.1 in
    rw (p.1, ← c.self.view_is) (nothing_said g.T.Store {V = Unit {0}}
    (Err c.in_err-flush.field-0.0) c.args.store.now _ _ _ _ c.args.talker.now.stage refl
    (λ tells. c.in_err-flush.ensures.written tells))
