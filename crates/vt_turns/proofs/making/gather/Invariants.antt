use Rattle.std.proofs.Common.{◌≡◌, ℕ, ◌<◌, get_or, take, false}
use Rattle.std.specs.Prelude.{vec_capacity, vec_len}
use Rattle.std.specs.Mem.Slots.{slots_items, slots_filled, slots_len}
use Rattle.std.specs.Mem.Slots.Ownership.{Filled}
use Rattle.vt_turns.specs.Lists.{FullOf}
use Rattle.vt_turns.proofs.making.gather.Given as goal

abbrev pub invariant-loop-i : goal.invariant-loop-i
invariant-loop-i g l = record {
  filled : Filled (slots_filled l.closed.slots) l.i (slots_len l.closed.slots);
  emptied : (k : ℕ) → k < l.i → get_or (slots_filled l.closed.slots) k false ≡ false;
  items : slots_items l.closed.slots ≡ slots_items l.initial.closed.slots;
  len : slots_len l.closed.slots ≡ slots_len l.initial.closed.slots;
  count : vec_len l.parts ≡ l.i;
  room : vec_capacity l.parts ≡ vec_capacity l.initial.parts;
  parts : FullOf (take l.i (slots_items l.initial.closed.slots)) l.parts.items;
}
