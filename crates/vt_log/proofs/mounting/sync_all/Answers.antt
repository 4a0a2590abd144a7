-- One more disk is synced.
use Rattle.std.proofs.Common.{◌≡◌, ◌+◌, length, get_or, sym, ◌∙◌, arith, Some, Ok, Err}
use Rattle.std.specs.Prelude.{slice_get}
use Rattle.std.proofs.lemmas.List.{length-map}
use Rattle.std.proofs.lemmas.Option.{slice_get-get_or}
use Rattle.std.proofs.lemmas.Result.{err_from_is_err_and}
use Rattle.vt_part.specs.declared.part.Part.{Part}
use Rattle.vt_part.specs.Parts.{disk_of}
use Rattle.vt_log.specs.declared.error.LogBad.TheVariants.{Fault}
use Rattle.vt_log.specs.Faults.{is_log_fault}
use Rattle.vt_log.specs.Log.{disks_of}
use Rattle.vt_log.proofs.AreFound.{read_set, read_then, synced, sync_stops, settled_more, settled_all, counts_set, counts_from}
use Rattle.vt_log.proofs.Lists.{slice_get_set_other}
use Rattle.vt_log.proofs.mounting.sync_all.Goals as goal

pub returns-in_err-sync-clause-read : goal.returns-in_err-sync-clause-read
returns-in_err-sync-clause-read g c =
    let p = get_or c.loop-part.parts c.loop-part.part-index c.part-item.result in
    let at = slice_get-get_or c.loop-part.parts c.loop-part.part-index c.part-item.result (omega arith) in
    read_then g.D.Disk c.loop-part.part-index 1 (length c.args.parts.now) c.args.parts.now c.loop-part.parts _ (omega arith) c.loop-part.invariant.read
    (read_set g.D.Disk 1 c.loop-part.part-index c.loop-part.parts p c.sync.new.self at
    (synced g.D.Disk (disk_of p) c.sync.new.self c.sync.ensures.bytes c.sync.ensures.images c.sync.ensures.size c.sync.ensures.calls))

pub returns-in_err-sync-clause-stops : goal.returns-in_err-sync-clause-stops
returns-in_err-sync-clause-stops g c =
    let ps = c.loop-part.parts in
    let i = c.loop-part.part-index in
    let p = get_or ps i c.part-item.result in
    let at : slice_get ps i ≡ Some p = slice_get-get_or ps i c.part-item.result (omega arith) in
    let e = err_from_is_err_and c.from_residual.result c.from_residual.ensures.1 in
    rw e.1 (sync_stops g.D.Disk c.args.parts.now ps i p c.sync.new.self at c.loop-part.invariant.rest c.loop-part.invariant.read
    (λ told. omega (arith, c.sync.ensures.calls told)))

pub returns-in_err-sync-clause-cause : goal.returns-in_err-sync-clause-cause
returns-in_err-sync-clause-cause g c =
    let p = get_or c.loop-part.parts c.loop-part.part-index c.part-item.result in
    let at = slice_get-get_or c.loop-part.parts c.loop-part.part-index c.part-item.result (omega arith) in
    let e = err_from_is_err_and c.from_residual.result c.from_residual.ensures.1 in
    rw (e.1, e.2)
    (counts_from {T = Unit} g.D.Disk is_log_fault (disks_of c.args.parts.now) (disks_of c.loop-part.parts) _ (Err Fault) c.loop-part.invariant.faults
    (counts_set {T = Unit} g.D.Disk is_log_fault c.loop-part.parts c.loop-part.part-index p c.sync.new.self (Err Fault) at c.in_err-sync.ensures.cause))

pub loop-part-preserved : goal.loop-part-preserved
loop-part-preserved g c =
    let p = get_or c.loop-part.parts c.loop-part.part-index c.part-item.result in
    let at = slice_get-get_or c.loop-part.parts c.loop-part.part-index c.part-item.result (omega arith) in
    record {
      settled = settled_more g.D.Disk c.loop-part.parts c.loop-part.part-index p c.sync.new.self at
          (λ told image left. c.in_ok-sync.ensures.settled told image left ∙ sym c.sync.ensures.bytes) c.loop-part.invariant.settled;
      rest = λ k most. slice_get_set_other c.loop-part.parts c.loop-part.part-index k _ (λ same. omega (arith, most, same))
          ∙ c.loop-part.invariant.rest k (omega (arith, most));
      read = read_then g.D.Disk c.loop-part.part-index 1 (c.loop-part.part-index + 1) c.args.parts.now c.loop-part.parts _ (omega arith) c.loop-part.invariant.read
          (read_set g.D.Disk 1 c.loop-part.part-index c.loop-part.parts p c.sync.new.self at
          (synced g.D.Disk (disk_of p) c.sync.new.self c.sync.ensures.bytes c.sync.ensures.images c.sync.ensures.size c.sync.ensures.calls));
      faults = counts_set {T = Unit} g.D.Disk is_log_fault c.loop-part.parts c.loop-part.part-index p c.sync.new.self (Ok tt) at c.in_ok-sync.ensures.cause ∙ c.loop-part.invariant.faults;
    }

pub returns-clause-settled : goal.returns-clause-settled
returns-clause-settled g c =
    settled_all g.D.Disk (disks_of c.loop-part.parts) c.loop-part.part-index (omega (arith, length-map c.loop-part.parts (λ (part : Part _). disk_of part))) c.loop-part.invariant.settled
