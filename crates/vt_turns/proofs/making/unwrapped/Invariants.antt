use Rattle.std.proofs.Common.{◌≡◌, List, ◌++◌}
use Rattle.std.specs.Prelude.{◌+◌, ◌≤◌, vec_len, vec_capacity}
use Rattle.std.specs.Vec.Iter.{into_iter_items, into_iter_len}
use Rattle.vt_turns.specs.Lists.{FullOf}
use Rattle.vt_turns.proofs.making.unwrapped.Given as goal

abbrev pub invariant-loop-slot : goal.invariant-loop-slot
invariant-loop-slot g l = record {
  room : vec_len l.parts + into_iter_len l.slot-iterator ≤ vec_capacity l.parts;
  left : (all : List g.row.P.Denot) → FullOf l.fn.slots.items all → (rest : List g.row.P.Denot) × (l.parts.items ++ rest ≡ all) × FullOf (into_iter_items l.slot-iterator) rest;
}
