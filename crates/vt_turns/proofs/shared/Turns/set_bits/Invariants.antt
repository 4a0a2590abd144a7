use Rattle.std.proofs.Common.{◌≡◌, take}
use Rattle.vt_turns.specs.Views.{view, with_bits}
use Rattle.vt_turns.specs.Calls.{IsPassOf}
use Rattle.vt_turns.proofs.shared.Turns.set_bits.Given as goal

abbrev pub invariant-loop-place : goal.invariant-loop-place
invariant-loop-place g l = record {
  own : IsPassOf l.self l.pass;
  set : view l.pass ≡ with_bits (take l.place-index l.places) (view l.fn.pass);
}
