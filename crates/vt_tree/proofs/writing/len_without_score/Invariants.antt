use Rattle.std.proofs.Common.{◌≡◌, ℕ, ◌<◌, ◌≤◌, true, [], length, get_or, map}
use Rattle.std.specs.Str.{bytes_eq}
use Rattle.vt_tree.proofs.writing.len_without_score.Given as goal

-- behind it stands this score alone
abbrev pub invariant-loop-len : goal.invariant-loop-len
invariant-loop-len l = record {
  within : l.len ≤ length l.scores;
  same : (k : ℕ) → l.len ≤ k → k < length l.scores
      → bytes_eq l.score.0 (get_or (map (λ s. s.0) l.scores) k []) ≡ true;
}

abbrev pub decreases-loop-len : goal.decreases-loop-len
decreases-loop-len l = l.len
