-- The decimal digits of a number are read, and nothing else is taken for them.
use Rattle.std.proofs.Common.{◌≡◌, ℕ, ◌^◌, ◌<◌, ◌≤◌, ⊎_elim, Bool, true, false, cond, List, [], ◌∷◌, Result, Ok, Err, Some, None, Bor, length, get_or, decimal, sym, ◌∙◌, ap, subst, arith, lit<}
use Rattle.std.specs.Prelude.{◌==◌, nat_le, slice_index, IfSome}
use Rattle.std.specs.Result.{result_ok, is_err, MatchResult}
use Rattle.std.specs.Str.{IsUtf8, IsAscii, IsValidUpTo, valid_up_to}
use Rattle.std.specs.declared.str.Utf8Error.{Utf8Error}
use Rattle.std.specs.Char.{is_ascii_digit}
use Rattle.std.specs.Int.{IsInRange}
use Rattle.std.specs.List.{prefix_len}
use Rattle.std.specs.Str.Parse.{ParsesUnsigned, digits_value, IsNumeral}
use Rattle.std.proofs.lemmas.Bool.{cases_Bool, and_parts, eqb-true, leb-true, cases_lt}
use Rattle.std.proofs.lemmas.Bool.Decides.{nat_tests}
use Rattle.std.proofs.lemmas.List.Sums.{prefix_len_passes, prefix_len_is}
use Rattle.std.proofs.lemmas.Str.Parse.{IsNumeralModel, numerals_by_value, tells_by_index, parse_digits, digit_at}
use Rattle.std.proofs.lemmas.Fmt.{decimal_is_IsNumeral, decimal-digits_value, decimal_digit, first_decimal, parse-decimal, IsAscii-decimal}
use Rattle.std.proofs.lemmas.Str.{IsUtf8-from_ascii}
use Rattle.vt_conf.specs.Numbers.{number_len}

abbrev pub AreDigits : List ℕ → Type 0
AreDigits ds = (i : ℕ) → i < length ds → IsInRange 48 57 (get_or ds i 0)

own : IsNumeralModel AreDigits (digits_value 10)
own = numerals_by_value AreDigits tells_by_index

digit_is : (b : ℕ) → is_ascii_digit b ≡ true → IsInRange 48 57 b
digit_is b is =
    let parts = and_parts (nat_le 48 b) (nat_le b 57) is in
    (leb-true 48 b parts.0, leb-true b 57 parts.1)

is_digit : (b : ℕ) → IsInRange 48 57 b → is_ascii_digit b ≡ true
is_digit b h = let low : 48 ≤ b = h.0 in let high : b ≤ 57 = h.1 in grind (arith, nat_tests)

-- a text whose every byte is one of a number
pub digits_of_len : (text : List ℕ) → length text ≤ number_len text
    → AreDigits text × (0 < length text → get_or text 0 0 ≡ 48 → length text ≡ 1)
digits_of_len text all = ⊎_elim
    (λ (zero_first : (slice_index text 0 == 48) ≡ true).
    let short : length text ≤ 1 = subst (λ (b : Bool). length text ≤ cond b 1 (prefix_len is_ascii_digit text)) zero_first all in
    let is : get_or text 0 0 ≡ 48 = eqb-true (get_or text 0 0) 48 zero_first in (
      λ i below. let first : i ≡ 0 = omega arith in subst (λ (k : ℕ). IsInRange 48 57 (get_or text k 0)) (sym first) (omega (arith, is), omega (arith, is)),
      λ some _. omega arith,
    ))
    (λ (other : (slice_index text 0 == 48) ≡ false).
    let long : length text ≤ prefix_len is_ascii_digit text = subst (λ (b : Bool). length text ≤ cond b 1 (prefix_len is_ascii_digit text)) other all in (
      λ i below. digit_is (get_or text i 0) (prefix_len_passes is_ascii_digit text i 0 (omega arith)),
      λ some is. let no : (get_or text 0 0 == 48) ≡ true = ap (λ (b : ℕ). b == 48) is in cc,
    ))
    (cases_Bool (slice_index text 0 == 48))

-- each byte of a number's digits is one of a number
pub len_of_digits : (n : ℕ) → n < 2 ^ 64 → number_len (decimal n) ≡ length (decimal n)
len_of_digits n fits =
    let text : List ℕ = decimal n in
    let is : IsNumeral 10 text = (decimal_is_IsNumeral n fits).0 in
    ⊎_elim
    (λ (zero_first : (slice_index text 0 == 48) ≡ true).
    let first : get_or text 0 0 ≡ 48 = eqb-true (get_or text 0 0) 48 zero_first in
    let zero_is : n ≡ 0 = ⊎_elim
    (λ (some : 0 < n). absurd (let h : 48 < get_or text 0 0 = first_decimal n some fits in omega arith))
    (λ (none : n ≤ 0). omega arith)
    (cases_lt 0 n) in
    let one : text ≡ 48 ∷ [] = ap decimal zero_is ∙ decimal_digit 0 (lit< tt) in
    ap number_len one ∙ sym (ap length one))
    (λ (other : (slice_index text 0 == 48) ≡ false).
    subst (λ (b : Bool). cond b 1 (prefix_len is_ascii_digit text) ≡ length text) (sym other)
    (prefix_len_is is_ascii_digit text (length text) 0 (omega arith)
    (λ k below. is_digit (get_or text k 0) (digit_at text k is.1 below))
    (λ no. absurd (omega arith))))
    (cases_Bool (slice_index text 0 == 48))

-- what `parse` reads of such a text is its number
pub parsed_is : {E : Type 0} (text read : List ℕ) (r : Result ℕ E) → read ≡ text → ParsesUnsigned 64 10 read r
    → length text ≤ number_len text → IfSome (result_ok r) (λ n. text ≡ decimal n)
parsed_is {E} text read (Ok n) same parses all =
    let digits = digits_of_len text all in
    let parses' : ParsesUnsigned {E = E} 64 10 text (Ok n) = subst (λ (t : List ℕ). ParsesUnsigned {E = E} 64 10 t (Ok n)) same parses in
    let value : (((0 < length text) × (digits_value 10 text < 2 ^ 64)) × (n ≡ digits_value 10 text)) =
    parse_digits own {E = E} 64 text (Ok n) parses' digits.0 in
    sym (decimal-digits_value own text digits.0 value.0.0 (digits.1 value.0.0) value.0.1) ∙ ap decimal (sym value.1)
parsed_is {E} text read (Err e) same parses all = tt

pub number_is_parsed : {E : Type 0} (n : ℕ) (text : List ℕ) (r : Result ℕ E) → n < 2 ^ 64
    → text ≡ decimal n → ParsesUnsigned 64 10 text r → result_ok r ≡ Some n
number_is_parsed n text r fits is parses = ap result_ok (parse-decimal 64 n text r fits fits is parses)

-- digits are a text, and a text's bytes are those that were looked at
pub is_text : (n : ℕ) (text : List ℕ) (r : Result (Bor (List ℕ)) Utf8Error) → n < 2 ^ 64 → text ≡ decimal n
    → MatchResult r (λ s. (s.now ≡ text) × IsUtf8 text) (λ e. ¬ (IsUtf8 text) × IsValidUpTo text (valid_up_to e))
    → result_ok r ≡ None → ⊥
is_text n text (Ok s) fits is cases none = cc
is_text n text (Err e) fits is cases none =
    cases.0 (IsUtf8-from_ascii text (subst IsAscii (sym is) (IsAscii-decimal n fits)))

pub text_is : (text : List ℕ) (r : Result (Bor (List ℕ)) Utf8Error) (s : Bor (List ℕ))
    → MatchResult r (λ s. (s.now ≡ text) × IsUtf8 text) (λ e. ¬ (IsUtf8 text) × IsValidUpTo text (valid_up_to e))
    → result_ok r ≡ Some s → s.now ≡ text
text_is text (Ok t) s cases some = let same : t ≡ s = cc in subst (λ (u : Bor (List ℕ)). u.now ≡ text) same cases.0
text_is text (Err e) s cases some = cc

-- a number's text begins with a digit, and ends with one
pub digits_of_decimal : (n : ℕ) → n < 2 ^ 64 → (0 < length (decimal n)) × AreDigits (decimal n)
digits_of_decimal n fits =
    let is : IsNumeral 10 (decimal n) = (decimal_is_IsNumeral n fits).0 in
    (is.0, λ i below. digit_at (decimal n) i is.1 below)

-- what the test of a text for UTF-8 says
pub utf8_from_test : (text : List ℕ) (r : Result (Bor (List ℕ)) Utf8Error) (b : Bool) → b ≡ is_err r → b ≡ false
    → MatchResult r (λ s. (s.now ≡ text) × IsUtf8 text) (λ e. ¬ (IsUtf8 text) × IsValidUpTo text (valid_up_to e)) → IsUtf8 text
utf8_from_test text (Ok s) b is holds cases = cases.1
utf8_from_test text (Err e) b is holds cases = absurd (let wrong : true ≡ false = sym is ∙ holds in cc)

pub no_utf8_from_test : (text : List ℕ) (r : Result (Bor (List ℕ)) Utf8Error) (b : Bool) → b ≡ is_err r → b ≡ true
    → MatchResult r (λ s. (s.now ≡ text) × IsUtf8 text) (λ e. ¬ (IsUtf8 text) × IsValidUpTo text (valid_up_to e)) → ¬ (IsUtf8 text)
no_utf8_from_test text (Ok s) b is holds cases = absurd (let wrong : false ≡ true = sym is ∙ holds in cc)
no_utf8_from_test text (Err e) b is holds cases = cases.0
