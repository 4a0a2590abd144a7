use Rattle.std.proofs.Common.{◌≡◌, ℕ, ◌<◌, ◌≤◌, true, length, get_or}
use Rattle.std.specs.Prelude.{◌==◌}
use Rattle.vt_tree.proofs.writing.len_without_zeros.Given as goal

-- behind it stand zeros alone
abbrev pub invariant-loop-len : goal.invariant-loop-len
invariant-loop-len l = record {
  within : l.len ≤ length l.bytes;
  zeros : (k : ℕ) → l.len ≤ k → k < length l.bytes → (get_or l.bytes k 0 == 0) ≡ true;
}

abbrev pub decreases-loop-len : goal.decreases-loop-len
decreases-loop-len l = l.len
