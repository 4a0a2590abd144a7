use Rattle.std.proofs.Common.{◌≡◌, ◌≤◌, ◌++◌, length, take, drop}
use Rattle.vt_memdisk.specs.Cells.{chosen}
use Rattle.vt_memdisk.proofs.choices.choose.Given as goal

-- the choices made so far, and those that are left
abbrev pub invariant-loop-i : goal.invariant-loop-i
invariant-loop-i l = record {
  same_length : length l.content.items ≡ length l.initial.content.items;
  used : l.next ≤ l.i;
  so_far : take l.i l.content.items ++ chosen (drop l.i l.pending.items) (drop l.i l.synced.items)
      (drop l.i l.content.items) (drop l.next l.choice)
      ≡ chosen l.pending.items l.synced.items l.initial.content.items l.choice;
}
