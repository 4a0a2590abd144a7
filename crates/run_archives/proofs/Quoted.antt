-- Paths, as they are told, are told apart.
use Rattle.std.proofs.Common.{◌≡◌, ⊎_elim, ℕ, ◌+◌, ◌/◌, ◌%◌, ◌<◌, ◌==◌, Bool, true, false, cond, List, [], ◌∷◌, ◌++◌, map, refl, sym, ◌∙◌, ap, arith, append_assoc}
use Rattle.std.specs.Prelude.{nat_lt, is_some, position}
use Rattle.std.specs.List.{concat}
use Rattle.std.proofs.lemmas.Bool.{eqb-false, eqb-true, false≢true, ltb-true, or_cases, or_parts}
use Rattle.run_archives.specs.Skipped.{begins_with_quote, escaped, in_quotes, is_control, is_quote, quoted, wants_quotes}

-- ---- a byte between quotes

low_control : (b : ℕ) → is_control b ≡ true → b < 128
low_control b is = ⊎_elim
    (λ (low : nat_lt b 32 ≡ true). let less : b < 32 = ltb-true b 32 low in omega (arith, less))
    (λ (last : (b == 127) ≡ true). let same : b ≡ 127 = eqb-true b 127 last in omega (arith, same))
    (or_cases (nat_lt b 32) (b == 127) is)

-- one that stands as it is is no quote and no backslash
no_quote : (b : ℕ) → is_quote b ≡ false → b ≡ 34 → ⊥
no_quote b plain is = eqb-false b 34 (or_parts (b == 34) (b == 92) plain).0 is

no_backslash : (b : ℕ) → is_quote b ≡ false → b ≡ 92 → ⊥
no_backslash b plain is = eqb-false b 92 (or_parts (b == 34) (b == 92) plain).1 is

-- three digits are no quote
no_digit : (a b : ℕ) → a < 128 → is_quote b ≡ true → 48 + a / 64 ≡ b → ⊥
no_digit a b low quote is = ⊎_elim
    (λ (first : (b == 34) ≡ true). let same : b ≡ 34 = eqb-true b 34 first in
    omega (arith, same, is))
    (λ (second : (b == 92) ≡ true). let same : b ≡ 92 = eqb-true b 92 second in
    omega (arith, same, is, low))
    (or_cases (b == 34) (b == 92) quote)

same_digits : (a b : ℕ) → a < 128 → b < 128 → a / 64 ≡ b / 64 → (a / 8) % 8 ≡ (b / 8) % 8
    → a % 8 ≡ b % 8 → a ≡ b
same_digits a b low low' first second third = omega (arith, low, low', first, second, third)

-- how a byte stands, by what it is
abbrev form : (control quote : Bool) → ℕ → List ℕ
form control quote b = cond control
    (92 ∷ ((48 + b / 64) ∷ ((48 + (b / 8) % 8) ∷ ((48 + b % 8) ∷ []))))
    (cond quote (92 ∷ (b ∷ [])) (b ∷ []))

-- a byte is known by how it stands, and so is what stands behind it
one_byte : (a b : ℕ) (xs ys : List ℕ) → escaped a ++ xs ≡ escaped b ++ ys
    → (a ≡ b) × (xs ≡ ys)
one_byte a b xs ys is =
    of (is_control a) (is_quote a) (is_control b) (is_quote b) refl refl refl refl is
  where
    of : (c q d r : Bool) → is_control a ≡ c → is_quote a ≡ q → is_control b ≡ d → is_quote b ≡ r
        → form c q a ++ xs ≡ form d r b ++ ys → (a ≡ b) × (xs ≡ ys)
    of true q true r ca qa cb qb is =
        let e : 92 ∷ ((48 + a / 64) ∷ ((48 + (a / 8) % 8) ∷ ((48 + a % 8) ∷ xs)))
        ≡ 92 ∷ ((48 + b / 64) ∷ ((48 + (b / 8) % 8) ∷ ((48 + b % 8) ∷ ys))) = is in
        let first : 48 + a / 64 ≡ 48 + b / 64 = cc in
        let second : 48 + (a / 8) % 8 ≡ 48 + (b / 8) % 8 = cc in
        let third : 48 + a % 8 ≡ 48 + b % 8 = cc in
        let behind : xs ≡ ys = cc in (
          same_digits a b (low_control a ca) (low_control b cb) (omega (arith, first))
              (omega (arith, second)) (omega (arith, third)),
          behind,
        )
    of true q false true ca qa cb qb is =
        let e : 92 ∷ ((48 + a / 64) ∷ ((48 + (a / 8) % 8) ∷ ((48 + a % 8) ∷ xs)))
        ≡ 92 ∷ (b ∷ ys) = is in
        let first : 48 + a / 64 ≡ b = cc in
        absurd (no_digit a b (low_control a ca) qb first)
    of true q false false ca qa cb qb is =
        let e : 92 ∷ ((48 + a / 64) ∷ ((48 + (a / 8) % 8) ∷ ((48 + a % 8) ∷ xs))) ≡ b ∷ ys = is in
        let first : b ≡ 92 = cc in
        absurd (no_backslash b qb first)
    of false true true r ca qa cb qb is =
        let e : 92 ∷ (a ∷ xs)
        ≡ 92 ∷ ((48 + b / 64) ∷ ((48 + (b / 8) % 8) ∷ ((48 + b % 8) ∷ ys))) = is in
        let first : 48 + b / 64 ≡ a = cc in
        absurd (no_digit b a (low_control b cb) qa first)
    of false true false true ca qa cb qb is =
        let e : 92 ∷ (a ∷ xs) ≡ 92 ∷ (b ∷ ys) = is in
        let same : a ≡ b = cc in
        let behind : xs ≡ ys = cc in
        (same, behind)
    of false true false false ca qa cb qb is =
        let e : 92 ∷ (a ∷ xs) ≡ b ∷ ys = is in
        let first : b ≡ 92 = cc in
        absurd (no_backslash b qb first)
    of false false true r ca qa cb qb is =
        let e : a ∷ xs ≡ 92 ∷ ((48 + b / 64) ∷ ((48 + (b / 8) % 8) ∷ ((48 + b % 8) ∷ ys))) = is in
        let first : a ≡ 92 = cc in
        absurd (no_backslash a qa first)
    of false false false true ca qa cb qb is =
        let e : a ∷ xs ≡ 92 ∷ (b ∷ ys) = is in
        let first : a ≡ 92 = cc in
        absurd (no_backslash a qa first)
    of false false false false ca qa cb qb is =
        let e : a ∷ xs ≡ b ∷ ys = is in
        let same : a ≡ b = cc in
        let behind : xs ≡ ys = cc in
        (same, behind)

-- none of them is the quote at the end
no_end : (b : ℕ) (xs : List ℕ) → 34 ∷ [] ≡ escaped b ++ xs → ⊥
no_end b xs is = of (is_control b) (is_quote b) refl is
  where
    of : (c q : Bool) → is_quote b ≡ q → 34 ∷ [] ≡ form c q b ++ xs → ⊥
    of true q qb is =
        let e : 34 ∷ [] ≡ 92 ∷ ((48 + b / 64) ∷ ((48 + (b / 8) % 8) ∷ ((48 + b % 8) ∷ xs))) = is in
        let two : ◌≡◌ {A = ℕ} 34 92 = cc in omega (arith, two)
    of false true qb is =
        let e : 34 ∷ [] ≡ 92 ∷ (b ∷ xs) = is in
        let two : ◌≡◌ {A = ℕ} 34 92 = cc in omega (arith, two)
    of false false qb is =
        let e : 34 ∷ [] ≡ b ∷ xs = is in
        let same : b ≡ 34 = cc in no_quote b qb same

-- ---- a path

abbrev inside : List ℕ → List ℕ
inside path = concat (map escaped path)

same_inside : (p q : List ℕ) → inside p ++ 34 ∷ [] ≡ inside q ++ 34 ∷ [] → p ≡ q
same_inside [] [] is = refl
same_inside [] (b ∷ q) is =
    absurd (no_end b (inside q ++ 34 ∷ []) (is ∙ append_assoc (escaped b) (inside q) (34 ∷ [])))
same_inside (a ∷ p) [] is =
    absurd (no_end a (inside p ++ 34 ∷ [])
    (sym is ∙ append_assoc (escaped a) (inside p) (34 ∷ [])))
same_inside (a ∷ p) (b ∷ q) is =
    let one = one_byte a b (inside p ++ 34 ∷ []) (inside q ++ 34 ∷ [])
    (sym (append_assoc (escaped a) (inside p) (34 ∷ [])) ∙ is
    ∙ append_assoc (escaped b) (inside q) (34 ∷ [])) in
    let rest = same_inside p q one.1 in
    λ i. one.0 i ∷ rest i

-- one in quotes is none that stands as it is
not_plain : (p q : List ℕ) → in_quotes p ≡ q → wants_quotes q ≡ false → ⊥
not_plain p q is plain =
    let begins = (or_parts (begins_with_quote q) (is_some (position is_control q)) plain).0 in
    false≢true (sym begins ∙ sym (ap begins_with_quote is))

pub same_path : (p q : List ℕ) → quoted p ≡ quoted q → p ≡ q
same_path p q is = of (wants_quotes p) (wants_quotes q) refl refl is
  where
    of : (t u : Bool) → wants_quotes p ≡ t → wants_quotes q ≡ u
        → cond t (in_quotes p) p ≡ cond u (in_quotes q) q → p ≡ q
    of true true tp uq is =
        let e : 34 ∷ (inside p ++ 34 ∷ []) ≡ 34 ∷ (inside q ++ 34 ∷ []) = is in
        let within : inside p ++ 34 ∷ [] ≡ inside q ++ 34 ∷ [] = cc in
        same_inside p q within
    of true false tp uq is = absurd (not_plain p q is uq)
    of false true tp uq is = absurd (not_plain q p (sym is) tp)
    of false false tp uq is = is
