use Rattle.std.specs.Prelude.{◌+◌, ◌≤◌, vec_len, vec_capacity}
use Rattle.std.specs.Vec.Iter.{into_iter_len}
use Rattle.vt_turns.specs.Lists.{FullOf}
use Rattle.vt_turns.proofs.making.wrapped.Given as goal

abbrev pub invariant-loop-part : goal.invariant-loop-part
invariant-loop-part g l = record {
  slots : FullOf l.slots.items l.yielded;
  room : vec_len l.slots + into_iter_len l.part-iterator ≤ vec_capacity l.slots;
}
