use Rattle.std.proofs.Common.{◌≡◌, ◌<◌, ℕ, length, get_or}
use Rattle.vt_memdisk.proofs.dirty.numbers.Given as goal

abbrev pub invariant-loop-k : goal.invariant-loop-k
invariant-loop-k l = record {
  so_many : length l.all.items ≡ l.k;
  own : (k : ℕ) → k < l.k → get_or l.all.items k 0 ≡ k;
}
