use Rattle.std.proofs.Common.{◌≡◌, ◌+◌, ℕ, sym, ap, ◌∙◌, subst, arith}
use Rattle.std.proofs.lemmas.Result.{err_from_is_err_and}
use Rattle.vt_isect.specs.declared.head.Head.{Head}
use Rattle.vt_isect.specs.Section.{SectionState}
use Rattle.vt_rebuild.specs.Filling.{FitsBuckets, HasFilled}
use Rattle.vt_rebuild.proofs.Fills.{Fills, Round, begin_filling, can_fill, counts_from, fills_on, has_filled, round}
use Rattle.vt_rebuild.proofs.Walks.{keeps_then}
use Rattle.vt_rebuild.proofs.filling.fill_section.Goals as goal

pub loop-i-init : goal.loop-i-init
loop-i-init g c = begin_filling g.S.Scorer.score_of g.D.Disk (round c.args.log.now c.args.section.now c.args.gathered.now) c.requires.order

pub loop-i-preserved : goal.loop-i-preserved
loop-i-preserved g c =
    let score = g.S.Scorer.score_of in
    let old : Round g.row.D.Denot = round c.args.log.now c.args.section.now c.args.gathered.now in
    let now : Round g.row.D.Denot = round c.loop-i.log c.loop-i.section c.loop-i.gathered in
    let new : Round g.row.D.Denot = round c.fill_bucket.new.log c.fill_bucket.new.section c.fill_bucket.new.gathered in
    let first : c.head-first.result.first ≡ c.args.section.now.head.first = ap (λ (x : Head). x.first) c.head-first.ensures in
    let e = c.fill_bucket.ensures in
    let ok = c.in_ok-fill_bucket.ensures in
    let next : Fills score g.D.Disk (c.args.section.now.head.first + c.loop-i.i) now new =
    subst (λ (n : ℕ). Fills score g.D.Disk (n + c.loop-i.i) now new) first (record {
      keeps = e.keeps;
      log_faults = ok.faults.0;
      same = e.same;
      faults = ok.faults.1;
      size = e.size;
      calls = e.calls;
      holds = e.holds;
      order = ok.order;
      total = e.total;
      gathers = ok.gathers;
      filled = ok.filled;
    }) in
    fills_on score g.D.Disk c.loop-i.i old now c.loop-i.invariant new next

pub returns-clause-filled : goal.returns-clause-filled
returns-clause-filled g c = λ setup h can.
    let score = g.S.Scorer.score_of in
    let old : Round g.row.D.Denot = round c.args.log.now c.args.section.now c.args.gathered.now in
    let now : Round g.row.D.Denot = round c.loop-i.log c.loop-i.section c.loop-i.gathered in
    let first : ℕ = c.args.section.now.head.first in
    let end : c.loop-i.i ≡ c.args.section.now.buckets = omega (arith, c.loop-i-test.false, c.buckets-i-end.ensures) in (
      subst (λ (n : ℕ). HasFilled score g.D.Disk setup h first (first + n) c.loop-i.section) end
          (has_filled score g.D.Disk c.loop-i.i old now c.loop-i.invariant setup h can),
      c.loop-i.invariant.gathers setup h can,
    )

pub returns-in_err-fill_bucket-clause-fits : goal.returns-in_err-fill_bucket-clause-fits
returns-in_err-fill_bucket-clause-fits g c = λ setup h can fits.
    let score = g.S.Scorer.score_of in
    let old : Round g.row.D.Denot = round c.args.log.now c.args.section.now c.args.gathered.now in
    let now : Round g.row.D.Denot = round c.loop-i.log c.loop-i.section c.loop-i.gathered in
    let p = err_from_is_err_and c.from_residual.result c.from_residual.ensures.1 in
    rw (p.1, p.2) (c.in_err-fill_bucket.ensures.fits setup h (can_fill score g.D.Disk c.loop-i.i old now c.loop-i.invariant setup h can)
    (subst (λ (n : ℕ). FitsBuckets score n h) (sym c.loop-i.invariant.total) fits))

pub returns-in_err-fill_bucket-clause-same : goal.returns-in_err-fill_bucket-clause-same
returns-in_err-fill_bucket-clause-same g c =
    c.fill_bucket.ensures.same
    ∙ ap (λ (s : SectionState g.row.D.Denot). record s { disk = c.fill_bucket.new.section.disk }) c.loop-i.invariant.same

pub returns-in_err-fill_bucket-clause-keeps : goal.returns-in_err-fill_bucket-clause-keeps
returns-in_err-fill_bucket-clause-keeps g c =
    keeps_then g.S.Scorer.score_of g.D.Disk c.args.log.now c.loop-i.log c.fill_bucket.new.log c.loop-i.invariant.keeps c.fill_bucket.ensures.keeps

pub returns-in_err-fill_bucket-clause-faults : goal.returns-in_err-fill_bucket-clause-faults
returns-in_err-fill_bucket-clause-faults g c =
    let old : Round g.row.D.Denot = round c.args.log.now c.args.section.now c.args.gathered.now in
    let now : Round g.row.D.Denot = round c.loop-i.log c.loop-i.section c.loop-i.gathered in
    let new : Round g.row.D.Denot = round c.fill_bucket.new.log c.fill_bucket.new.section c.fill_bucket.new.gathered in
    let p = err_from_is_err_and c.from_residual.result c.from_residual.ensures.1 in
    rw (p.1, p.2) (counts_from g.S.Scorer.score_of g.D.Disk c.loop-i.i old now c.loop-i.invariant _ new c.in_err-fill_bucket.ensures.faults)
