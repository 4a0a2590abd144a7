use Rattle.std.proofs.Common.{◌≡◌, ℕ, ◌<◌, ◌≤◌, true, false, length, get_or}
use Rattle.vt_memdisk.specs.Cells.{is_pending}
use Rattle.vt_memdisk.specs.Crashes.{left_byte}
use Rattle.vt_memdisk.proofs.crash.leave.Given as goal

-- the bytes so far are what is left of them, and the others are as they were written
abbrev pub invariant-loop-at : goal.invariant-loop-at
invariant-loop-at l = record {
  same_length : length l.content.items ≡ length l.initial.content.items;
  touched : (i : ℕ) → i < l.at → is_pending l.pending.items i ≡ true → get_or l.content.items i 0
      ≡ left_byte l.mode i (get_or l.synced.items i 0) (get_or l.initial.content.items i 0);
  others : (i : ℕ) → is_pending l.pending.items i ≡ false
      → get_or l.content.items i 0 ≡ get_or l.initial.content.items i 0;
  ahead : (i : ℕ) → l.at ≤ i → get_or l.content.items i 0 ≡ get_or l.initial.content.items i 0;
}
