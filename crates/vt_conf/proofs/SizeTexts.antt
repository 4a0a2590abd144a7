-- The letter at a size's end is told from the digits before it.
use Rattle.std.proofs.Common.{◌≡◌, ℕ, ◌*◌, ◌^◌, ◌<◌, ◌≤◌, inl, inr, ⊎_elim, Bool, true, false, cond, List, [], ◌∷◌, ◌++◌, Option, Some, None, length, get_or, decimal, refl, sym, ◌∙◌, ap, subst, arith, length-append}
use Rattle.std.specs.Prelude.{◌==◌, ◌||◌, ◌⊎◌}
use Rattle.std.specs.Int.{IsInRange}
use Rattle.std.proofs.Math.Nat.{mul-le-mul_left, mul-one}
use Rattle.std.proofs.Math.Seq.{get_or-append_seam}
use Rattle.std.proofs.lemmas.Bool.Decides.{nat_tests}
use Rattle.std.proofs.lemmas.List.{append-nil, same_from_push}
use Rattle.std.proofs.lemmas.Option.{same_Some}
use Rattle.vt_conf.specs.Sizes.{SpellsSize, IsUnit, unit_of}
use Rattle.vt_conf.proofs.NumberTexts.{AreDigits, digits_of_decimal}

chosen : (b : Bool) (o p : Option ℕ) (u : ℕ) → cond b o p ≡ Some u → (o ≡ Some u) ⊎ (p ≡ Some u)
chosen true o p u is = inl is
chosen false o p u is = inr is

pub unit_is_positive : (letter u : ℕ) → unit_of letter ≡ Some u → 1 ≤ u
unit_is_positive letter u is = ⊎_elim
    (λ (k : Some (2 ^ 10) ≡ Some u). omega (arith, same_Some (2 ^ 10) u k))
    (λ rest. ⊎_elim
    (λ (m : Some (2 ^ 20) ≡ Some u). omega (arith, same_Some (2 ^ 20) u m))
    (λ rest'. ⊎_elim
    (λ (g : Some (2 ^ 30) ≡ Some u). omega (arith, same_Some (2 ^ 30) u g))
    (λ (none : None ≡ Some u). cc)
    (chosen (letter == 103 || letter == 71) _ _ u rest'))
    (chosen (letter == 109 || letter == 77) _ _ u rest))
    (chosen (letter == 107 || letter == 75) _ _ u is)

no_unit : (b : ℕ) → IsInRange 48 57 b → unit_of b ≡ None
no_unit b digit =
    let most : b ≤ 57 = digit.1 in
    let k : (b == 107) ≡ false = grind (arith, nat_tests) in
    let K : (b == 75) ≡ false = grind (arith, nat_tests) in
    let m : (b == 109) ≡ false = grind (arith, nat_tests) in
    let M : (b == 77) ≡ false = grind (arith, nat_tests) in
    let g : (b == 103) ≡ false = grind (arith, nat_tests) in
    let G : (b == 71) ≡ false = grind (arith, nat_tests) in
    rw (k, K, m, M, g, G) refl

positive : (unit : ℕ) (letter : List ℕ) → IsUnit unit letter → 1 ≤ unit
positive unit [] is = omega arith
positive unit (letter ∷ []) is = unit_is_positive letter unit is
positive unit (letter ∷ other ∷ others) is = absurd is

number_fits : (size : ℕ) (text : List ℕ) (s : SpellsSize size text) → s.number < 2 ^ 64
number_fits size text s =
    let more : s.number * 1 ≤ s.number * s.unit = mul-le-mul_left s.number (positive s.unit s.letter s.unit_is) in
    omega (arith, more, mul-one s.number, s.value, s.most)

-- the last byte of a number's digits stands for no unit
last_digit : (n : ℕ) (front : List ℕ) (last : ℕ) → n < 2 ^ 64 → decimal n ≡ front ++ last ∷ [] → unit_of last ≡ None
last_digit n front last fits is =
    let digits : AreDigits (decimal n) = (digits_of_decimal n fits).1 in
    let at : get_or (decimal n) (length front) 0 ≡ last = ap (λ (t : List ℕ). get_or t (length front) 0) is ∙ get_or-append_seam front last [] 0 in
    no_unit last (subst (λ (b : ℕ). IsInRange 48 57 b) at (digits (length front) (omega (arith, ap length is, length-append front (last ∷ [])))))

pub no_size_of_none : (size : ℕ) (text : List ℕ) → length text ≡ 0 → SpellsSize size text → ⊥
no_size_of_none size text none s =
    let some = (digits_of_decimal s.number (number_fits size text s)).0 in
    let len : length text ≡ length (decimal s.number ++ s.letter) = ap length s.spelled in
    omega (arith, len, length-append (decimal s.number) s.letter, some)

-- what a size's text says where its last byte stands for a unit, and where it stands for none
pub record HasUnit (size : ℕ) (digits : List ℕ) (unit : ℕ) : Type 0 where
  pub number : ℕ
  pub digits_are : digits ≡ decimal number
  pub value : size ≡ number * unit
  pub most : number * unit < 2 ^ 63

with_letter : (size : ℕ) (front : List ℕ) (last u number unit : ℕ) (letter : List ℕ) → number < 2 ^ 64
    → front ++ last ∷ [] ≡ decimal number ++ letter → IsUnit unit letter → size ≡ number * unit → size < 2 ^ 63
    → unit_of last ≡ Some u → HasUnit size front u
with_letter size front last u number unit [] fits same is value most some =
    let none : unit_of last ≡ None = last_digit number front last fits (sym (append-nil (decimal number)) ∙ sym same) in
    absurd (let no : None ≡ Some u = sym none ∙ some in cc)
with_letter size front last u number unit (letter ∷ []) fits same is value most some =
    let parts = same_from_push front (decimal number) last letter same in
    let one : u ≡ unit = same_Some u unit (sym some ∙ ap unit_of parts.1 ∙ is) in
    record {
      number = number;
      digits_are = parts.0;
      value = value ∙ ap (λ (v : ℕ). number * v) (sym one);
      most = subst (λ (v : ℕ). v < 2 ^ 63) (value ∙ ap (λ (v : ℕ). number * v) (sym one)) most;
    }
with_letter size front last u number unit (letter ∷ other ∷ others) fits same is value most some = absurd is

without_letter : (size : ℕ) (text front : List ℕ) (last number unit : ℕ) (letter : List ℕ)
    → text ≡ front ++ last ∷ [] → text ≡ decimal number ++ letter → IsUnit unit letter → size ≡ number * unit
    → size < 2 ^ 63 → unit_of last ≡ None → HasUnit size text 1
without_letter size text front last number unit [] ends same is value most none = record {
  number = number;
  digits_are = same ∙ append-nil (decimal number);
  value = value ∙ ap (λ (v : ℕ). number * v) is;
  most = subst (λ (v : ℕ). v < 2 ^ 63) (value ∙ ap (λ (v : ℕ). number * v) is) most;
}
without_letter size text front last number unit (letter ∷ []) ends same is value most none =
    let parts = same_from_push front (decimal number) last letter (sym ends ∙ same) in
    absurd (let no : None ≡ Some unit = sym none ∙ ap unit_of parts.1 ∙ is in cc)
without_letter size text front last number unit (letter ∷ other ∷ others) ends same is value most none = absurd is

pub size_with_letter : (size : ℕ) (text front : List ℕ) (last u : ℕ) → text ≡ front ++ last ∷ [] → unit_of last ≡ Some u
    → SpellsSize size text → HasUnit size front u
size_with_letter size text front last u ends some s =
    with_letter size front last u s.number s.unit s.letter (number_fits size text s) (sym ends ∙ s.spelled) s.unit_is s.value s.most some

pub size_without_letter : (size : ℕ) (text front : List ℕ) (last : ℕ) → text ≡ front ++ last ∷ [] → unit_of last ≡ None
    → SpellsSize size text → HasUnit size text 1
size_without_letter size text front last ends none s =
    without_letter size text front last s.number s.unit s.letter ends s.spelled s.unit_is s.value s.most none
