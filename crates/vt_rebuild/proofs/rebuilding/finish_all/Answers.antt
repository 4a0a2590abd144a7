use Rattle.std.proofs.Common.{◌≡◌, ℕ, Some, get_or, sym, subst, arith}
use Rattle.std.specs.Prelude.{slice_get}
use Rattle.std.proofs.lemmas.Option.{slice_get-get_or}
use Rattle.std.proofs.lemmas.Result.{err_from_is_err_and}
use Rattle.vt_isect.specs.Section.{SectionState}
use Rattle.vt_rebuild.specs.Filling.{FitsBuckets}
use Rattle.vt_rebuild.proofs.Ending.{Work, all_ended, begin_ending, can_fill, ends_counts, ends_more, ends_stopped, next_begun, work}
use Rattle.vt_rebuild.proofs.Walks.{keeps_then}
use Rattle.vt_rebuild.proofs.rebuilding.finish_all.Goals as goal

pub loop-section-init : goal.loop-section-init
loop-section-init g c = begin_ending g.S.Scorer.score_of g.D.Disk c.args.blocks (work c.args.log.now c.args.sections.now c.args.gathered.now) c.requires.order

pub finish-requires-clause-begun : goal.finish-requires-clause-begun
finish-requires-clause-begun g c =
    let i = c.loop-section.section-index in
    let old : Work g.row.D.Denot = work c.args.log.now c.args.sections.now c.args.gathered.now in
    let now : Work g.row.D.Denot = work c.loop-section.log c.loop-section.sections c.loop-section.gathered in
    let p = get_or c.loop-section.sections i c.section-item.result in
    let at : slice_get c.loop-section.sections i ≡ Some p = slice_get-get_or c.loop-section.sections i c.section-item.result (omega arith) in
    next_begun g.S.Scorer.score_of g.D.Disk c.args.blocks i old now p c.loop-section.invariant c.requires.begun at

pub loop-section-preserved : goal.loop-section-preserved
loop-section-preserved g c =
    let i = c.loop-section.section-index in
    let old : Work g.row.D.Denot = work c.args.log.now c.args.sections.now c.args.gathered.now in
    let now : Work g.row.D.Denot = work c.loop-section.log c.loop-section.sections c.loop-section.gathered in
    let p = get_or c.loop-section.sections i c.section-item.result in
    let new : SectionState g.row.D.Denot = c.finish.new.section in
    let at : slice_get c.loop-section.sections i ≡ Some p = slice_get-get_or c.loop-section.sections i c.section-item.result (omega arith) in
    let e = c.finish.ensures in
    let ok = c.in_ok-finish.ensures in
    ends_more g.S.Scorer.score_of g.D.Disk c.args.blocks i old now c.loop-section.invariant p new at c.finish.new.log c.finish.new.gathered e.keeps
    ok.faults.0 ok.faults.1 ok.order e.total ok.gathered ok.finished

pub returns-in_err-finish-clause-left : goal.returns-in_err-finish-clause-left
returns-in_err-finish-clause-left g c =
    let i = c.loop-section.section-index in
    let score = g.S.Scorer.score_of in
    let old : Work g.row.D.Denot = work c.args.log.now c.args.sections.now c.args.gathered.now in
    let now : Work g.row.D.Denot = work c.loop-section.log c.loop-section.sections c.loop-section.gathered in
    let p = get_or c.loop-section.sections i c.section-item.result in
    let new : SectionState g.row.D.Denot = c.finish.new.section in
    let at : slice_get c.loop-section.sections i ≡ Some p = slice_get-get_or c.loop-section.sections i c.section-item.result (omega arith) in
    let r = err_from_is_err_and c.from_residual.result c.from_residual.ensures.1 in
    rw r.1 (λ setup h can blocks.
    ends_stopped score g.D.Disk c.args.blocks i old now c.loop-section.invariant p new at c.finish.new.log c.finish.new.gathered c.finish.ensures.keeps setup h can blocks
    (c.in_err-finish.ensures.left setup h (can_fill score g.D.Disk c.args.blocks i old now c.loop-section.invariant setup h can) blocks))

pub returns-in_err-finish-clause-fits : goal.returns-in_err-finish-clause-fits
returns-in_err-finish-clause-fits g c = λ setup h can fits.
    let score = g.S.Scorer.score_of in
    let old : Work g.row.D.Denot = work c.args.log.now c.args.sections.now c.args.gathered.now in
    let now : Work g.row.D.Denot = work c.loop-section.log c.loop-section.sections c.loop-section.gathered in
    let r = err_from_is_err_and c.from_residual.result c.from_residual.ensures.1 in
    rw (r.1, r.2) (c.in_err-finish.ensures.fits setup h (can_fill score g.D.Disk c.args.blocks c.loop-section.section-index old now c.loop-section.invariant setup h can)
    (subst (λ (n : ℕ). FitsBuckets score n h) (sym c.loop-section.invariant.total) fits))

pub returns-in_err-finish-clause-keeps : goal.returns-in_err-finish-clause-keeps
returns-in_err-finish-clause-keeps g c =
    keeps_then g.S.Scorer.score_of g.D.Disk c.args.log.now c.loop-section.log c.finish.new.log c.loop-section.invariant.keeps c.finish.ensures.keeps

pub returns-in_err-finish-clause-faults : goal.returns-in_err-finish-clause-faults
returns-in_err-finish-clause-faults g c =
    let i = c.loop-section.section-index in
    let old : Work g.row.D.Denot = work c.args.log.now c.args.sections.now c.args.gathered.now in
    let now : Work g.row.D.Denot = work c.loop-section.log c.loop-section.sections c.loop-section.gathered in
    let p = get_or c.loop-section.sections i c.section-item.result in
    let new : SectionState g.row.D.Denot = c.finish.new.section in
    let at : slice_get c.loop-section.sections i ≡ Some p = slice_get-get_or c.loop-section.sections i c.section-item.result (omega arith) in
    let r = err_from_is_err_and c.from_residual.result c.from_residual.ensures.1 in
    rw (r.1, r.2)
    (ends_counts g.S.Scorer.score_of g.D.Disk c.args.blocks i old now c.loop-section.invariant p new at c.finish.new.log c.finish.new.gathered c.finish.ensures.keeps _
    c.in_err-finish.ensures.faults)

pub returns-clause-finished : goal.returns-clause-finished
returns-clause-finished g c = λ setup h can blocks.
    let old : Work g.row.D.Denot = work c.args.log.now c.args.sections.now c.args.gathered.now in
    let now : Work g.row.D.Denot = work c.loop-section.log c.loop-section.sections c.loop-section.gathered in
    all_ended g.S.Scorer.score_of g.D.Disk c.args.blocks c.loop-section.section-index old now c.loop-section.invariant (omega arith) setup h can blocks
