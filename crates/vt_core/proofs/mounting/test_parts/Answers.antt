use Rattle.std.proofs.Common.{inl, inr}
use Rattle.std.proofs.lemmas.Result.{err_from_is_err_and}
use Rattle.vt_core.proofs.TestsParts.{parts_of}
use Rattle.vt_core.proofs.mounting.test_parts.Goals as goal

pub returns-in_err-buckets : goal.returns-in_err-buckets
returns-in_err-buckets g c =
    let p = err_from_is_err_and c.from_residual.result c.from_residual.ensures.1 in
    rw (p.1, p.2) (inl c.in_err-buckets.ensures)

pub test_heads-requires-clause-total : goal.test_heads-requires-clause-total
test_heads-requires-clause-total g c = c.in_ok-buckets.ensures.0

pub returns-in_err-test_heads : goal.returns-in_err-test_heads
returns-in_err-test_heads g c =
    let p = err_from_is_err_and c.from_residual-in_err-test_heads.result c.from_residual-in_err-test_heads.ensures.1 in
    rw (p.1, p.2) (inr (inl c.in_err-test_heads.ensures))

pub returns : goal.returns
returns g c = parts_of c.args.part c.args.sections.now c.args.bloom.now c.args.len c.in_ok-buckets.ensures.1 c.in_ok-test_heads.ensures c.test_marks.result c.test_marks.ensures
