-- Where a byte stands below a pointer block: p leaves of d bytes stand below each of its scores.
use Rattle.std.proofs.Common.{◌≡◌, ℕ, ◌*◌, ◌/◌, ◌%◌, ◌<◌, sym, ◌∙◌, ap}
use Rattle.std.proofs.Math.Nat.{div-div-eq-div-mul, mod-lt, mul_comm}
use Rattle.std.proofs.Math.Arith.{mod-mul}
use Rattle.std.proofs.lemmas.Nat.{div-mul-add, mod-mul-add}

-- the place of its score
pub child_of : (n p d : ℕ) → n / (p * d) ≡ n / d / p
child_of n p d = ap (λ (k : ℕ). n / k) (mul_comm p d) ∙ sym (div-div-eq-div-mul n d p)

-- its leaf and its place in the leaf, below that score
pub leaf_inside : (n p d : ℕ) → 0 < p → 0 < d → n % (p * d) / d ≡ n / d % p
leaf_inside n p d p_some d_some =
    ap (λ (k : ℕ). k / d) (mod-mul n p_some d_some)
    ∙ div-mul-add (n / d % p) d (n % d) (mod-lt n d_some)

pub byte_inside : (n p d : ℕ) → 0 < p → 0 < d → n % (p * d) % d ≡ n % d
byte_inside n p d p_some d_some =
    ap (λ (k : ℕ). k % d) (mod-mul n p_some d_some)
    ∙ mod-mul-add (n / d % p) d (n % d) (mod-lt n d_some)
