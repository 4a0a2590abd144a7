-- Fields that are written one behind another.
use Rattle.std.proofs.Common.{◌≡◌, ◌+◌, ℕ, List, ◌++◌, take, ◌∙◌, ap, append_assoc}

-- what stands before a field, and then the field
pub and_then : (at n end : ℕ) (old new front field : List ℕ) → end ≡ at + n
    → take (at + n) new ≡ take at old ++ field → take at old ≡ front → take end new ≡ front ++ field
and_then at n end old new front field ends written before =
    ap (λ (k : ℕ). take k new) ends ∙ written ∙ ap (λ (l : List ℕ). l ++ field) before

pub six : (a b c d e f : List ℕ)
    → (((((a ++ b) ++ c) ++ d) ++ e) ++ f) ≡ a ++ (b ++ (c ++ (d ++ (e ++ f))))
six a b c d e f = simp append_assoc

pub four : (a b c d : List ℕ) → (((a ++ b) ++ c) ++ d) ≡ a ++ (b ++ (c ++ d))
four a b c d = simp append_assoc
