use Rattle.std.proofs.Common.{◌≡◌, ◌++◌, ℕ, List, length}
use Rattle.std.specs.List.{AllByRecursion, flat_map}
use Rattle.nine_wire.specs.Messages.{string, IsString}
use Rattle.nine_wire.proofs.names.names_of.Given as goal

abbrev pub invariant-loop : goal.invariant-loop
invariant-loop l = record {
  names : List (List ℕ);
  len : length names ≡ l.counter;
  each : AllByRecursion IsString names;
  read : l.bytes ≡ flat_map string names ++ l.rest;
}
