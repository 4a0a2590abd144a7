use Rattle.std.proofs.Common.{◌≡◌, length, take}
use Rattle.vac_meta.specs.Records.{all_spelled}
use Rattle.vac_read.proofs.records.entry_field.Given as goal

abbrev pub invariant-loop-record : goal.invariant-loop-record
invariant-loop-record l = record {
  place_is : l.place ≡ length (all_spelled (take l.record-index l.before));
}
