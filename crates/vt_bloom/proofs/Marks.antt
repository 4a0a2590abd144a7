-- Bits that are set, one after another.
use Rattle.std.proofs.Common.{◌≡◌, ◌↔◌, ◌⊎◌, inl, inr, ⊎_elim, ℕ, ◌+◌, ◌*◌, ◌/◌, ◌%◌, ◌^◌, ◌<◌, ◌≤◌, List, length, get_or, set, sym, ap, ◌∙◌, arith, w64}
use Rattle.std.specs.Int.{bit_at}
use Rattle.std.specs.Int.RustNames.{bit_or}
use Rattle.std.proofs.lemmas.Bool.{cases_lt, cases_eq}
use Rattle.std.proofs.lemmas.List.{get_or-set_same, get_or-set_other}
use Rattle.std.proofs.lemmas.Nat.Bits.{bit_at_set_same, bit_at_set_other}
use Rattle.vt_bloom.specs.Bits.{position_of, IsSetIn}

-- the words with bit p set
abbrev with_bit : (words : List ℕ) → (p : ℕ) → List ℕ
with_bit words p =
    set words (p / 64) (bit_or (get_or words (p / 64) 0)
    (1 * 2 ^ (p % 64) % 18446744073709551616))

module _ (words : List ℕ) (p : ℕ) (within : p / 64 < length words) (q : ℕ) where
  word : ℕ
  word = bit_or (get_or words (p / 64) 0) (1 * 2 ^ (p % 64) % 18446744073709551616)

  bit_in : (w : ℕ) → ℕ
  bit_in w = bit_at w (q % 64)

  -- another bit of the word
  other_bit : q / 64 ≡ p / 64 → (q % 64 ≡ p % 64 → ⊥)
      → bit_in (get_or (with_bit words p) (q / 64) 0) ≡ bit_in (get_or words (q / 64) 0)
  unfolding word bit_in
  other_bit same_word other =
      ap (λ (k : ℕ). bit_at (get_or (with_bit words p) k 0) (q % 64)) same_word
      ∙ ap (λ (w : ℕ). bit_at w (q % 64)) (get_or-set_same words (p / 64) word 0 within)
      ∙ bit_at_set_other w64 (get_or words (p / 64) 0) (p % 64) (omega arith) (q % 64) other
      ∙ ap (λ (k : ℕ). bit_at (get_or words k 0) (q % 64)) (sym same_word)

  -- a bit of another word
  other_word : (q / 64 ≡ p / 64 → ⊥)
      → bit_in (get_or (with_bit words p) (q / 64) 0) ≡ bit_in (get_or words (q / 64) 0)
  unfolding word bit_in
  other_word other =
      ap (λ (w : ℕ). bit_at w (q % 64)) (get_or-set_other words (p / 64) (q / 64) word 0 other)

  -- the bit itself
  this_bit : q ≡ p → IsSetIn (with_bit words p) q
  unfolding word
  this_bit here =
      ap (λ (k : ℕ). bit_at (get_or (with_bit words p) (k / 64) 0) (k % 64)) here
      ∙ ap (λ (w : ℕ). bit_at w (p % 64)) (get_or-set_same words (p / 64) word 0 within)
      ∙ bit_at_set_same w64 (get_or words (p / 64) 0) (p % 64) (omega arith)

  as_before : bit_in (get_or (with_bit words p) (q / 64) 0) ≡ bit_in (get_or words (q / 64) 0)
      → (q ≡ p → ⊥) → IsSetIn (with_bit words p) q ↔ (IsSetIn words q ⊎ (q ≡ p))
  unfolding bit_in
  as_before same other = (
    λ on. inl (sym same ∙ on),
    λ either. ⊎_elim (λ on. same ∙ on) (λ here. absurd (other here))
        either,
  )

  pub set_bit : IsSetIn (with_bit words p) q ↔ (IsSetIn words q ⊎ (q ≡ p))
  set_bit = ⊎_elim
      (λ (same_word : q / 64 ≡ p / 64). ⊎_elim
      (λ (same_bit : q % 64 ≡ p % 64).
      let here : q ≡ p = omega arith in
      (λ _. inr here, λ _. this_bit here))
      (λ (other : q % 64 ≡ p % 64 → ⊥).
      as_before (other_bit same_word other) (λ here. other (ap (λ (k : ℕ). k % 64) here)))
      (cases_eq (q % 64) (p % 64)))
      (λ (other : q / 64 ≡ p / 64 → ⊥).
      as_before (other_word other) (λ here. other (ap (λ (k : ℕ). k / 64) here)))
      (cases_eq (q / 64) (p / 64))

-- one of the first n positions of a score
abbrev pub IsAmong : (m : ℕ) → (score : List ℕ) → (n p : ℕ) → Type 0
IsAmong m score n p = (i : ℕ) × (i < n) × (p ≡ position_of m score i)

-- one position more
pub one_more : (old mid new score : List ℕ) (m i p : ℕ)
    → ((q : ℕ) → IsSetIn mid q ↔ (IsSetIn old q ⊎ IsAmong m score i q))
    → ((q : ℕ) → IsSetIn new q ↔ (IsSetIn mid q ⊎ (q ≡ p))) → p ≡ position_of m score i
    → (q : ℕ) → IsSetIn new q ↔ (IsSetIn old q ⊎ IsAmong m score (i + 1) q)
one_more old mid new score m i p before step is q = (into, from)
  where
    into : IsSetIn new q → IsSetIn old q ⊎ IsAmong m score (i + 1) q
    into on = ⊎_elim
        (λ had. ⊎_elim
        (λ was. inl was)
        (λ among. inr (among.0, omega (arith, among.1), among.2))
        ((before q).0 had))
        (λ here. inr (i, omega arith, here ∙ is))
        ((step q).0 on)

    from : IsSetIn old q ⊎ IsAmong m score (i + 1) q → IsSetIn new q
    from either = ⊎_elim
        (λ was. (step q).1 (inl ((before q).1 (inl was))))
        (λ among. ⊎_elim
        (λ (low : among.0 < i). (step q).1 (inl ((before q).1 (inr (among.0, low, among.2)))))
        (λ (high : i ≤ among.0).
        let here : among.0 ≡ i = omega (arith, among.1) in
        (step q).1 (inr (among.2 ∙ ap (λ (j : ℕ). position_of m score j) here ∙ sym is)))
        (cases_lt among.0 i))
        either
