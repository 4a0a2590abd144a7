-- One more partition is done.
use Rattle.std.proofs.Common.{◌≡◌, List, get_or, set, true, ◌∙◌, subst, arith, Some, Err, []}
use Rattle.std.specs.Prelude.{slice_get}
use Rattle.std.proofs.lemmas.Option.{slice_get-get_or, slice_get_within}
use Rattle.std.proofs.lemmas.Result.{err_from_is_err_and}
use Rattle.vt_part.specs.Layout.{layout_of}
use Rattle.vt_part.specs.Table.{Table}
use Rattle.vt_log.specs.Log.{disks_of}
use Rattle.vt_log.specs.Logs.{IsLog}
use Rattle.vt_log.proofs.AreFound.{counts_from}
use Rattle.vt_log.proofs.IsEmpty.{tables_set, sizes_set, faults_set, writes_set, empty_set, stops_here, room_kept, empty_log, settled_parts}
use Rattle.vt_log.proofs.Lists.{slice_get_set_other}
use Rattle.vt_log.proofs.mounting.format.Goals as goal

pub format_part-requires : goal.format_part-requires
format_part-requires g c =
    room_kept g.D.Disk c.args.parts.now c.loop-part.parts c.loop-part.part-index _ c.loop-part.invariant.tables c.loop-part.invariant.size c.requires.rooms
    (slice_get-get_or c.loop-part.parts c.loop-part.part-index c.part-item.result (omega arith))

pub returns-in_err-format_part-clause-tables : goal.returns-in_err-format_part-clause-tables
returns-in_err-format_part-clause-tables g c =
    let ps = c.loop-part.parts in
    let i = c.loop-part.part-index in
    let p = get_or ps i c.part-item.result in
    let q = c.format_part.new.part in
    let at : slice_get ps i ≡ Some p = slice_get-get_or ps i c.part-item.result (omega arith) in
    tables_set ps i p q at c.format_part.ensures.table ∙ c.loop-part.invariant.tables

pub returns-in_err-format_part-clause-writes : goal.returns-in_err-format_part-clause-writes
returns-in_err-format_part-clause-writes g c =
    let ps = c.loop-part.parts in
    let i = c.loop-part.part-index in
    let p = get_or ps i c.part-item.result in
    let q = c.format_part.new.part in
    let at : slice_get ps i ≡ Some p = slice_get-get_or ps i c.part-item.result (omega arith) in
    writes_set ps i p q at g.D.Disk c.args.parts.now c.loop-part.invariant.rest c.loop-part.invariant.writes c.format_part.ensures.writes

pub returns-in_err-format_part-clause-size : goal.returns-in_err-format_part-clause-size
returns-in_err-format_part-clause-size g c =
    let ps = c.loop-part.parts in
    let i = c.loop-part.part-index in
    let p = get_or ps i c.part-item.result in
    let q = c.format_part.new.part in
    let at : slice_get ps i ≡ Some p = slice_get-get_or ps i c.part-item.result (omega arith) in
    sizes_set ps i p q at g.D.Disk.size c.format_part.ensures.writes.size ∙ c.loop-part.invariant.size

pub returns-in_err-format_part-clause-stops : goal.returns-in_err-format_part-clause-stops
returns-in_err-format_part-clause-stops g c =
    let ps = c.loop-part.parts in
    let i = c.loop-part.part-index in
    let p = get_or ps i c.part-item.result in
    let q = c.format_part.new.part in
    let at : slice_get ps i ≡ Some p = slice_get-get_or ps i c.part-item.result (omega arith) in
    let e = err_from_is_err_and c.from_residual.result c.from_residual.ensures.1 in
    rw e.1 (stops_here ps i p q at g.D.Disk c.args.parts.now c.loop-part.invariant.rest c.loop-part.invariant.empty c.in_err-format_part.ensures.stops)

pub returns-in_err-format_part-clause-cause : goal.returns-in_err-format_part-clause-cause
returns-in_err-format_part-clause-cause g c =
    let ps = c.loop-part.parts in
    let i = c.loop-part.part-index in
    let p = get_or ps i c.part-item.result in
    let q = c.format_part.new.part in
    let at : slice_get ps i ≡ Some p = slice_get-get_or ps i c.part-item.result (omega arith) in
    let e = err_from_is_err_and c.from_residual.result c.from_residual.ensures.1 in
    rw e.1
    (counts_from {T = Unit} g.D.Disk (λ _. true) (disks_of c.args.parts.now) (disks_of ps) (disks_of (set ps i q)) (Err e.0) c.loop-part.invariant.faults
    (faults_set ps i p q at {T = Unit} g.D.Disk (λ _. true) (Err e.0) c.in_err-format_part.ensures.cause))

pub loop-part-preserved : goal.loop-part-preserved
loop-part-preserved g c =
    let ps = c.loop-part.parts in
    let i = c.loop-part.part-index in
    let p = get_or ps i c.part-item.result in
    let q = c.format_part.new.part in
    let at : slice_get ps i ≡ Some p = slice_get-get_or ps i c.part-item.result (omega arith) in
    record {
      tables = tables_set ps i p q at c.format_part.ensures.table ∙ c.loop-part.invariant.tables;
      empty = empty_set ps i p q at g.D.Disk c.loop-part.invariant.empty c.in_ok-format_part.ensures.empty;
      writes = writes_set ps i p q at g.D.Disk c.args.parts.now c.loop-part.invariant.rest c.loop-part.invariant.writes c.format_part.ensures.writes;
      rest = λ k most. slice_get_set_other ps i k q (λ same. omega (arith, most, same)) ∙ c.loop-part.invariant.rest k (omega (arith, most));
      size = sizes_set ps i p q at g.D.Disk.size c.format_part.ensures.writes.size ∙ c.loop-part.invariant.size;
      faults = sizes_set ps i p q at g.D.Disk.faults c.in_ok-format_part.ensures.cause ∙ c.loop-part.invariant.faults;
    }

pub returns-clause-empty : goal.returns-clause-empty
returns-clause-empty g c score_of files told are =
    let ps = c.loop-part.parts in
    subst (λ (ts : List Table). IsLog score_of (layout_of ts) files [] 0) c.loop-part.invariant.tables
    (empty_log score_of g.D.Disk ps files told (λ k part at. c.loop-part.invariant.empty k part (omega (arith, slice_get_within ps k part at)) at) are)

pub returns-clause-settled : goal.returns-clause-settled
returns-clause-settled g c =
    settled_parts g.D.Disk c.loop-part.parts (λ k part at. c.loop-part.invariant.empty k part (omega (arith, slice_get_within c.loop-part.parts k part at)) at)
