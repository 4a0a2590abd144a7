-- One round, and one look-up, of those that are left.
use Rattle.std.proofs.Common.{◌≡◌, ◌+◌, ◌-◌, ◌<◌, ◌≤◌, ℕ, suc, List, [], ◌∷◌, length, refl, sym, ap, arith}
use Rattle.std.specs.List.{range_with_len}
use Rattle.vt_rehearse.specs.Rounds.{behind_round, round_at, rounds_from}
use Rattle.vt_rehearse.specs.Words.{all_words}

pub all_are : range_with_len 0 64 ≡ all_words
unfolding all_words
all_are = refl

pub many_words : length all_words ≡ 64
many_words = ap (λ (ws : List ℕ). length ws) (sym all_are)

pub words_left : (w : ℕ) → w < 64 → range_with_len w (64 - w) ≡ w ∷ range_with_len (w + 1) (64 - (w + 1))
words_left w lt = let left : 64 - w ≡ suc (64 - (w + 1)) = omega (arith, lt) in ap (λ (n : ℕ). range_with_len w n) left

pub none_left : (w : ℕ) → 64 ≤ w → range_with_len w (64 - w) ≡ []
none_left w le = let left : 64 - w ≡ 0 = omega (arith, le) in ap (λ (n : ℕ). range_with_len w n) left

pub rounds_left : (x count made : ℕ) → made < count → rounds_from x (count - made) ≡ round_at x ∷ rounds_from (behind_round x) (count - (made + 1))
rounds_left x count made lt = let left : count - made ≡ suc (count - (made + 1)) = omega (arith, lt) in ap (λ (n : ℕ). rounds_from x n) left

pub no_rounds_left : (x count made : ℕ) → count ≤ made → rounds_from x (count - made) ≡ []
no_rounds_left x count made le = let left : count - made ≡ 0 = omega (arith, le) in ap (λ (n : ℕ). rounds_from x n) left
