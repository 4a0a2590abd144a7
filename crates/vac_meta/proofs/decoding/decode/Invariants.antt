use Rattle.std.proofs.Common.{◌≡◌, ◌++◌, None, length}
use Rattle.std.specs.List.{AllByRecursion}
use Rattle.std.specs.Option.{option_copied}
use Rattle.vac_meta.specs.Records.{IsRecord, Ascend, all_spelled, last_name}
use Rattle.vac_meta.proofs.decoding.decode.Given as goal

abbrev pub invariant-loop-last : goal.invariant-loop-last
invariant-loop-last l = record {
  each : AllByRecursion IsRecord l.records.items;
  ascending : Ascend None l.records.items;
  last : option_copied l.last ≡ last_name None l.records.items;
  read : l.bytes ≡ all_spelled l.records.items ++ l.rest;
}

abbrev pub decreases-loop-last : goal.decreases-loop-last
decreases-loop-last l = length l.rest
