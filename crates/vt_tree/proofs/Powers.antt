-- How many leaves a depth reaches.
use Rattle.std.proofs.Common.{◌≡◌, ℕ, zero, suc, ◌-◌, ◌*◌, ◌<◌, ◌≤◌, ◌^◌, sym, ◌∙◌, ap, arith, lit<, inl, inr}
use Rattle.std.proofs.lemmas.Bool.{cases_lt}
use Rattle.std.proofs.Math.Nat.{pow-le-pow_left, pow-le-pow_right, pow-suc, pow-zero}

pub power_fits : (s d : ℕ) → s ≤ 3276 → d < 8 → s ^ d < 2 ^ 84
power_fits s d small shallow =
    let one : s ^ d ≤ 3276 ^ d = pow-le-pow_left small d in
    let within : d ≤ 7 = omega arith in
    let all : 3276 ^ d ≤ 3276 ^ 7 = pow-le-pow_right (lit< tt) within in
    omega arith

pub one_deeper : (s d : ℕ) → 0 < d → s ^ (d - 1) * s ≡ s ^ d
one_deeper s d some =
    let is : suc (d - 1) ≡ d = omega arith in
    sym (pow-suc s (d - 1)) ∙ ap (λ (k : ℕ). s ^ k) is

pub positive : (s d leaf : ℕ) → 0 < d → leaf < s ^ d → 0 < s ^ (d - 1)
positive s d leaf some below = elim (cases_lt 0 (s ^ (d - 1))) [
  | inl h ↦ h
  | inr h ↦
      let none : s ^ (d - 1) ≡ 0 = omega arith in
      let all : s ^ d ≡ 0 * s = sym (one_deeper s d some) ∙ ap (λ (k : ℕ). k * s) none in
      absurd (omega arith)
]

pub product_some : (a b : ℕ) → 0 < a → 0 < b → 0 < a * b
product_some zero b a_some b_some = absurd (omega arith)
product_some (suc a) zero a_some b_some = absurd (omega arith)
product_some (suc a) (suc b) a_some b_some = omega arith

pub power_some : (s d : ℕ) → 0 < s → 0 < s ^ d
power_some s zero some =
    let one = pow-zero s in omega arith
power_some s (suc d) some =
    let more = pow-suc s d in
    let product = product_some (s ^ d) s (power_some s d some) some in
    omega arith
