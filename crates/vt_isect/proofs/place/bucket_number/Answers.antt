use Rattle.std.proofs.Common.{◌≡◌, ◌<◌, ◌≤◌, arith, ap, ◌∙◌, ⊎_elim}
use Rattle.std.proofs.lemmas.Bool.{cases_lt}
use Rattle.vt_model.specs.Places.{bucket_of}
use Rattle.vt_isect.proofs.place.bucket_number.Goals as goal

pub overflow_cast-result : goal.overflow_cast-result
overflow_cast-result c = ⊎_elim
    (λ (some : 0 < c.args.total).
    let some_too : 0 < c.from.result = omega (arith, c.from.ensures, some) in
    omega (arith, c.from.ensures, c.ranges.total, c.bucket_of.ensures.range some_too))
    (λ (none : c.args.total ≤ 0).
    let no_bucket : c.from.result ≡ 0 = omega (arith, c.from.ensures, none) in
    omega (arith, c.bucket_of.ensures.bucket ∙ ap (λ n. bucket_of n c.args.score.now.0) no_bucket))
    (cases_lt 0 c.args.total)
