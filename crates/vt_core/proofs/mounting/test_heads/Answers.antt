use Rattle.std.proofs.Common.{◌≡◌, ◌+◌, None, Some, refl, arith}
use Rattle.std.specs.Prelude.{slice_get, sum}
use Rattle.std.proofs.lemmas.Option.{slice_get_within}
use Rattle.std.proofs.lemmas.Result.{err_from_is_err_and}
use Rattle.vt_model.specs.Places.{first_bucket}
use Rattle.vt_core.specs.Opening.{buckets_in_each, wrong_at}
use Rattle.vt_recover.proofs.Lists.{at_map}
use Rattle.vt_core.proofs.TestsParts.{as_wrong, each_next, first_next, first_within, read_at}
use Rattle.vt_core.proofs.mounting.test_heads.Goals as goal

pub loop-i-init : goal.loop-i-init
loop-i-init g c = record { first = refl; right = λ i s lt at. absurd (omega (arith, lt)) }

pub returns-in_err-test_head : goal.returns-in_err-test_head
returns-in_err-test_head g c =
    let sections = c.args.sections.now in
    let s = c.index-sections-i.result in
    let p = err_from_is_err_and c.from_residual.result c.from_residual.ensures.1 in
    rw (p.1, p.2) (
      c.loop-i.i,
      s,
      read_at sections c.loop-i.i s c.loop-i-test.true c.index-sections-i.is,
      as_wrong (c.args.part + c.loop-i.i) c.loop-i.first (first_bucket (buckets_in_each sections) c.loop-i.i) c.buckets.result s.buckets c.args.total (sum (buckets_in_each sections))
          c.head.result s.head (Some c.in_err-test_head.field-0.0) c.loop-i.invariant.first c.buckets.ensures c.requires.total c.head.ensures c.in_err-test_head.ensures,
    )

pub overflow_add-first : goal.overflow_add-first
overflow_add-first g c =
    let sections = c.args.sections.now in
    let s = c.index-sections-i.result in
    let at : slice_get (buckets_in_each sections) c.loop-i.i ≡ Some s.buckets =
    at_map (λ s. s.buckets) sections c.loop-i.i s (read_at sections c.loop-i.i s c.loop-i-test.true c.index-sections-i.is) in
    omega (arith, first_within (buckets_in_each sections) c.loop-i.i s.buckets at, c.loop-i.invariant.first, c.buckets-first.ensures, c.requires.total, c.ranges.total.fits)

pub loop-i-preserved : goal.loop-i-preserved
loop-i-preserved g c =
    let sections = c.args.sections.now in
    let i = c.loop-i.i in
    let s = c.index-sections-i.result in
    let here = read_at sections i s c.loop-i-test.true c.index-sections-i.is in
    let at : slice_get (buckets_in_each sections) i ≡ Some s.buckets = at_map (λ s. s.buckets) sections i s here in
    let right : wrong_at c.args.part sections i s ≡ None =
    as_wrong (c.args.part + i) c.loop-i.first (first_bucket (buckets_in_each sections) i) c.buckets.result s.buckets c.args.total (sum (buckets_in_each sections))
    c.head.result s.head None c.loop-i.invariant.first c.buckets.ensures c.requires.total c.head.ensures c.in_ok-test_head.ensures in
    record {
      first = omega (arith, first_next (buckets_in_each sections) i s.buckets at, c.loop-i.invariant.first, c.buckets-first.ensures);
      right = each_next sections (λ k t. wrong_at c.args.part sections k t ≡ None) i s here right c.loop-i.invariant.right;
    }

pub returns : goal.returns
returns g c = λ i s at. c.loop-i.invariant.right i s (omega (arith, slice_get_within c.args.sections.now i s at, c.loop-i-test.false)) at
