use Rattle.std.proofs.Common.{◌≡◌, ◌+◌, ℕ, List, length, suc, take, drop, ◌∙◌, sym, ap, subst, arith}
use Rattle.vac_meta.specs.declared.record.Record.{Record}
use Rattle.vac_meta.specs.Records.{FitsRecord, IsRecord, all_spelled}
use Rattle.vac_read.proofs.Keeps.{all_at}
use Rattle.vac_read.proofs.Lists.{place_more, place_within, split_at, take_more}
use Rattle.vac_read.proofs.records.entry_field.Goals as goal

pub record_len-place-requires : goal.record_len-place-requires
record_len-place-requires c =
    subst FitsRecord (sym c.record-item.is)
    (all_at IsRecord c.args.before.now c.loop-record.record-index c.record-item.result
    c.requires.each c.loop-record-test.true).fits

pub loop-record-preserved : goal.loop-record-preserved
loop-record-preserved c =
    let records : List Record = c.args.before.now in
    let index : ℕ = c.loop-record.record-index in
    let r : Record = c.record-item.result in
    record {
      place_is = ap (λ (n : ℕ). c.loop-record.place + n) c.record_len-place.ensures
          ∙ place_more (take index records) r c.loop-record.place c.loop-record.invariant.place_is
          ∙ ap (λ (l : List Record). length (all_spelled l))
          (sym (take_more records index r c.loop-record-test.true c.record-item.is));
    }

pub overflow_add-place : goal.overflow_add-place
overflow_add-place c =
    let records : List Record = c.args.before.now in
    let index : ℕ = c.loop-record.record-index in
    let r : Record = c.record-item.result in
    let small = place_within records (take index records) r (drop (suc index) records)
    c.loop-record.place (split_at records index r c.loop-record-test.true c.record-item.is)
    c.loop-record.invariant.place_is (omega (arith, c.requires.short)) in
    omega (arith, c.record_len-place.ensures, small)
