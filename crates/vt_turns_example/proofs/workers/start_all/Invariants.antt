use Rattle.std.specs.Prelude.{◌≡◌, ◌≤◌, vec_len, vec_capacity}
use Rattle.vt_turns.specs.Views.{view}
use Rattle.vt_turns_example.specs.Stores.{IsFree}
use Rattle.vt_turns_example.specs.Workers.{less, AllBegun}
use Rattle.vt_turns_example.proofs.workers.start_all.Given as goal

abbrev pub invariant-loop-i : goal.invariant-loop-i
invariant-loop-i g l = record {
  free : IsFree l.store l.pass;
  seen : view l.pass ≡ less (view l.fn.pass) l.i;
  many : vec_len l.all ≡ l.i;
  room : l.count ≤ vec_capacity l.all;
  begun : AllBegun g.D.Link.Link.told l.store (view l.fn.pass) l.all.items;
}
