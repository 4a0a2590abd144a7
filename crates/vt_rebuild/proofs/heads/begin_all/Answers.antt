use Rattle.std.proofs.Common.{◌≡◌, ℕ, Some, get_or, subst, arith}
use Rattle.std.specs.Prelude.{slice_get}
use Rattle.std.proofs.lemmas.Option.{slice_get-get_or}
use Rattle.vt_isect.specs.Section.{SectionState}
use Rattle.vt_rebuild.specs.Heads.{HasHead, StopsAtHead, head_in}
use Rattle.vt_rebuild.proofs.Beginning.{all_begun, begin_beginning, begins_more, begins_rise, begins_stop, next_fits, next_rest}
use Rattle.vt_rebuild.proofs.Counts.{section_rose}
use Rattle.vt_rebuild.proofs.heads.begin_all.Goals as goal

pub loop-section-init : goal.loop-section-init
loop-section-init g c = begin_beginning g.D.Disk c.args.total c.args.sections.now

pub change_head-requires-clause-rest : goal.change_head-requires-clause-rest
change_head-requires-clause-rest g c =
    let i = c.loop-section.section-index in
    let p = get_or c.loop-section.sections i c.section-item.result in
    let at : slice_get c.loop-section.sections i ≡ Some p = slice_get-get_or c.loop-section.sections i c.section-item.result (omega arith) in
    next_rest g.D.Disk c.args.total i c.loop-section.first c.args.sections.now c.loop-section.sections p c.loop-section.invariant c.requires.opened at

pub change_head-requires-clause-numbers : goal.change_head-requires-clause-numbers
change_head-requires-clause-numbers g c =
    let i = c.loop-section.section-index in
    let p = get_or c.loop-section.sections i c.section-item.result in
    let at : slice_get c.loop-section.sections i ≡ Some p = slice_get-get_or c.loop-section.sections i c.section-item.result (omega arith) in
    let fits = next_fits g.D.Disk c.args.total i c.loop-section.first c.args.sections.now c.loop-section.sections p c.loop-section.invariant at in
    omega (arith, fits, c.requires.few, c.buckets.ensures)

pub overflow_add-first : goal.overflow_add-first
overflow_add-first g c =
    let i = c.loop-section.section-index in
    let p = get_or c.loop-section.sections i c.section-item.result in
    let at : slice_get c.loop-section.sections i ≡ Some p = slice_get-get_or c.loop-section.sections i c.section-item.result (omega arith) in
    let fits = next_fits g.D.Disk c.args.total i c.loop-section.first c.args.sections.now c.loop-section.sections p c.loop-section.invariant at in
    omega (arith, fits, c.requires.few, c.buckets.ensures)

pub loop-section-preserved : goal.loop-section-preserved
loop-section-preserved g c =
    let i = c.loop-section.section-index in
    let first = c.loop-section.first in
    let p = get_or c.loop-section.sections i c.section-item.result in
    let new : SectionState g.row.D.Denot = c.change_head.new.section in
    let at : slice_get c.loop-section.sections i ≡ Some p = slice_get-get_or c.loop-section.sections i c.section-item.result (omega arith) in
    let buckets : c.buckets.result ≡ p.buckets = c.buckets.ensures in
    let has : HasHead g.D.Disk (head_in 2 first p.buckets c.args.total 0) p new =
    subst (λ (n : ℕ). HasHead g.D.Disk (head_in 2 first n c.args.total 0) p new) buckets c.in-Ok.ensures.changed in
    let more = begins_more g.D.Disk c.args.total i first c.args.sections.now c.loop-section.sections p new c.loop-section.invariant at c.change_head.ensures.same has
    c.change_head.ensures.calls c.in-Ok.ensures.faults in
    rw buckets more

pub returns-in-Err-clause-stops : goal.returns-in-Err-clause-stops
returns-in-Err-clause-stops g c =
    let i = c.loop-section.section-index in
    let first = c.loop-section.first in
    let p = get_or c.loop-section.sections i c.section-item.result in
    let new : SectionState g.row.D.Denot = c.change_head.new.section in
    let at : slice_get c.loop-section.sections i ≡ Some p = slice_get-get_or c.loop-section.sections i c.section-item.result (omega arith) in
    begins_stop g.D.Disk c.args.total i first c.args.sections.now c.loop-section.sections p new c.loop-section.invariant at c.change_head.ensures.same
    (subst (λ (n : ℕ). StopsAtHead g.D.Disk (head_in 2 first n c.args.total 0) p new) c.buckets.ensures c.in-Err.ensures.stops)

pub returns-in-Err-clause-faults : goal.returns-in-Err-clause-faults
returns-in-Err-clause-faults g c =
    let i = c.loop-section.section-index in
    let p = get_or c.loop-section.sections i c.section-item.result in
    let new : SectionState g.row.D.Denot = c.change_head.new.section in
    let at : slice_get c.loop-section.sections i ≡ Some p = slice_get-get_or c.loop-section.sections i c.section-item.result (omega arith) in
    begins_rise g.D.Disk c.args.total i c.loop-section.first c.args.sections.now c.loop-section.sections p new c.loop-section.invariant at c.change_head.ensures.same
    (section_rose _ _ _ c.in-Err.ensures.refused c.in-Err.ensures.faults)

pub returns-clause-begun : goal.returns-clause-begun
returns-clause-begun g c =
    all_begun g.D.Disk c.args.total c.loop-section.section-index c.loop-section.first c.args.sections.now c.loop-section.sections c.loop-section.invariant (omega arith)
