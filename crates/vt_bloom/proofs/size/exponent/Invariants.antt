use Rattle.std.proofs.Common.{◌≡◌, ℕ, ◌<◌, ◌≤◌}
use Rattle.vt_bloom.specs.Size.{filter_size}
use Rattle.vt_bloom.proofs.size.exponent.Given as goal

-- none of those so far
abbrev pub invariant-loop-m : goal.invariant-loop-m
invariant-loop-m l = (j : ℕ) → j < l.m → 16 ≤ j → l.size ≡ filter_size j → ⊥
