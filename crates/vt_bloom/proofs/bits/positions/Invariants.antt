use Rattle.std.proofs.Common.{◌≡◌, ◌<◌, ℕ, length, slice_index}
use Rattle.vt_bloom.specs.Bits.{position_of}
use Rattle.vt_bloom.proofs.bits.positions.Given as goal

-- the positions so far
abbrev pub invariant-loop-i : goal.invariant-loop-i
invariant-loop-i l = record {
  count : length l.all.items ≡ l.i;
  each : (k : ℕ) → k < l.i → slice_index l.all.items k ≡ position_of l.m l.score.0 k;
}
