-- The first bytes of a selector are a shorter one.
use Rattle.std.proofs.Common.{◌≡◌, ℕ, zero, suc, ◌-◌, ◌<◌, ◌≤◌, List, ◌∷◌, take, replicate, ap, sym, ◌∙◌, arith}
use Rattle.std.proofs.lemmas.List.{take-replicate}
use Rattle.vt_twin.specs.Frames.{selector_bytes}

pub selector_taken : (most len number : ℕ) → 0 < len → len ≤ most
    → take len (selector_bytes number most) ≡ selector_bytes number len
selector_taken zero len number some within = absurd (omega arith)
selector_taken (suc most) zero number some within = absurd (omega arith)
selector_taken (suc most) (suc len) number some within =
    ap (λ (l : List ℕ). number ∷ l)
    (ap (λ (n : ℕ). take len (replicate n 0)) (less most) ∙ take-replicate len most 0 (omega arith) ∙ ap (λ (n : ℕ). replicate n 0) (sym (less len)))
  where
    less : (n : ℕ) → suc n - 1 ≡ n
    less n = omega arith
