use Rattle.std.proofs.Common.{◌≡◌, ◌+◌, ℕ, Some, set, subst, sym, arith}
use Rattle.std.specs.Prelude.{slice_get, slice_index_or}
use Rattle.std.proofs.lemmas.Option.{slice_get-get_or}
use Rattle.vt_isect.specs.Section.{SectionState}
use Rattle.vt_format.specs.Usage.{IsOpened, StopsAtSection}
use Rattle.vt_format.proofs.InTurn.{AreUsedTo, all_used, is_told, same_old, stops, used_more, within_all}
use Rattle.vt_format.proofs.usage.put_all_to_use.Goals as goal

pub put_to_use-requires-clause-numbers : goal.put_to_use-requires-clause-numbers
put_to_use-requires-clause-numbers g c =
    let old : SectionState g.row.D.Denot = slice_index_or c.loop-number.sections c.loop-number.number c.index-sections-number.result in
    let at : slice_get c.loop-number.sections c.loop-number.number ≡ Some old =
    slice_get-get_or c.loop-number.sections c.loop-number.number c.index-sections-number.result (omega arith) in
    let fits = within_all g.D.Disk c.buckets_in-total.result c.loop-number.number c.loop-number.first c.args.sections.now
    c.loop-number.sections old old c.loop-number.invariant at in
    omega (arith, fits, c.requires.few)

pub overflow_add-first : goal.overflow_add-first
overflow_add-first g c =
    let old : SectionState g.row.D.Denot = slice_index_or c.loop-number.sections c.loop-number.number c.index-sections-number.result in
    let at : slice_get c.loop-number.sections c.loop-number.number ≡ Some old =
    slice_get-get_or c.loop-number.sections c.loop-number.number c.index-sections-number.result (omega arith) in
    let fits = within_all g.D.Disk c.buckets_in-total.result c.loop-number.number c.loop-number.first c.args.sections.now
    c.loop-number.sections old old c.loop-number.invariant at in
    omega (arith, fits, c.requires.few, c.buckets-buckets.ensures)

pub returns-in-Err-clause-stops : goal.returns-in-Err-clause-stops
returns-in-Err-clause-stops g c =
    let old : SectionState g.row.D.Denot = slice_index_or c.loop-number.sections c.loop-number.number c.index-sections-number.result in
    let at : slice_get c.loop-number.sections c.loop-number.number ≡ Some old =
    slice_get-get_or c.loop-number.sections c.loop-number.number c.index-sections-number.result (omega arith) in
    let opened : IsOpened g.D.Disk old =
    subst (IsOpened g.D.Disk) (same_old g.D.Disk c.buckets_in-total.result c.loop-number.number c.loop-number.first c.args.sections.now
    c.loop-number.sections old old c.loop-number.invariant at c.index-sections-number.result)
    (c.requires.opened c.loop-number.number c.index-sections-number.result (omega (arith, c.loop-number.invariant.many))) in
    subst (λ (n : ℕ). StopsAtSection g.D.Disk c.loop-number.number n c.args.sections.now (set c.loop-number.sections c.loop-number.number c.put_to_use.new.section))
    c.buckets_in-total.ensures
    (stops g.D.Disk c.buckets_in-total.result c.loop-number.number c.loop-number.first c.args.sections.now c.loop-number.sections
    old c.put_to_use.new.section c.loop-number.invariant at (is_told c.in-Err.field-0 (g.D.Disk.faults old.disk) (g.D.Disk.faults c.put_to_use.new.section.disk)
    c.in-Err.ensures.refused c.in-Err.ensures.faults) c.put_to_use.ensures.size
    (λ told. c.in-Err.ensures.midway told (opened.sound told)))

pub loop-number-preserved : goal.loop-number-preserved
loop-number-preserved g c =
    let old : SectionState g.row.D.Denot = slice_index_or c.loop-number.sections c.loop-number.number c.index-sections-number.result in
    let at : slice_get c.loop-number.sections c.loop-number.number ≡ Some old =
    slice_get-get_or c.loop-number.sections c.loop-number.number c.index-sections-number.result (omega arith) in
    let opened : IsOpened g.D.Disk old =
    subst (IsOpened g.D.Disk) (same_old g.D.Disk c.buckets_in-total.result c.loop-number.number c.loop-number.first c.args.sections.now
    c.loop-number.sections old old c.loop-number.invariant at c.index-sections-number.result)
    (c.requires.opened c.loop-number.number c.index-sections-number.result (omega (arith, c.loop-number.invariant.many))) in
    subst (λ n. AreUsedTo g.D.Disk c.buckets_in-total.result (c.loop-number.number + 1) (c.loop-number.first + n) c.args.sections.now
    (set c.loop-number.sections c.loop-number.number c.put_to_use.new.section)) (sym c.buckets-buckets.ensures)
    (used_more g.D.Disk c.buckets_in-total.result c.loop-number.number c.loop-number.first c.args.sections.now c.loop-number.sections
    old c.put_to_use.new.section c.loop-number.invariant at record {
      in_use = c.in-Ok.ensures.in_use (λ tells. opened.sound tells);
      size = c.put_to_use.ensures.size;
      calls = c.put_to_use.ensures.calls;
      faults = c.in-Ok.ensures.faults;
    })

pub returns-clause-used : goal.returns-clause-used
returns-clause-used g c =
    all_used g.D.Disk c.buckets_in-total.result c.loop-number.number c.loop-number.first c.args.sections.now c.loop-number.sections
    c.loop-number.invariant (omega arith)
