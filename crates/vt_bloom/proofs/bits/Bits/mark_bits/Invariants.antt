use Rattle.std.proofs.Common.{◌≡◌, ◌↔◌, ◌⊎◌, ℕ}
use Rattle.vt_bloom.specs.Bits.{IsFilter, IsSetIn}
use Rattle.vt_bloom.proofs.Marks.{IsAmong}
use Rattle.vt_bloom.proofs.bits.Bits.mark_bits.Given as goal

-- the bits that were set, and the positions so far
abbrev pub invariant-loop-i : goal.invariant-loop-i
invariant-loop-i l = record {
  filter : IsFilter (record {
    m = l.self-inside.m;
    k = l.self-inside.k;
    words = l.self-inside.words.items;
  });
  m : l.self-inside.m ≡ l.initial.self-inside.m;
  k : l.self-inside.k ≡ l.initial.self-inside.k;
  set : (q : ℕ) → IsSetIn l.self-inside.words.items q
      ↔ (IsSetIn l.initial.self-inside.words.items q
      ⊎ IsAmong l.initial.self-inside.m l.score.0 l.i q);
}
