use Rattle.std.specs.Prelude.{◌≤◌, ◌+◌, vec_len, vec_capacity}
use Rattle.std.specs.Vec.Iter.{into_iter_items, into_iter_len}
use Rattle.vt_turns.specs.Views.{view}
use Rattle.vt_turns_example.specs.Stores.{IsFree}
use Rattle.vt_turns_example.specs.Workers.{AllBegun, Joining}
use Rattle.vt_turns_example.proofs.workers.join_all.Given as goal

abbrev pub invariant-loop-started : goal.invariant-loop-started
invariant-loop-started g l = record {
  free : IsFree l.store l.pass;
  room : vec_len l.ends + into_iter_len l.started-iterator ≤ vec_capacity l.ends;
  joining : Joining g.L.Link.told (view l.before.value) (view l.pass) l.ends.items (into_iter_len l.started-iterator);
  begun : AllBegun g.L.Link.told l.store (view l.before.value) (into_iter_items l.started-iterator);
}
