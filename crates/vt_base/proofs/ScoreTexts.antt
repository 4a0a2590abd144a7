-- The label of a score's text is found, and nothing else is taken for one.
use Rattle.std.proofs.Common.{◌≡◌, inl, inr, ⊎_elim, ℕ, ◌+◌, ◌*◌, ◌<◌, ◌≤◌, Bool, true, false, cond, List, [], ◌∷◌, ◌++◌, Result, Ok, Err, length, take, drop, get_or, refl, sym, ◌∙◌, ap, subst, arith, append_assoc, length-append, length-drop, take-append-drop, add-one}
use Rattle.std.specs.Prelude.{◌==◌, ◌&&◌, nat_lt, slice_index}
use Rattle.std.specs.List.{prefix_len, All, AllPass}
use Rattle.std.proofs.Math.Seq.{get_or-append_seam, take-suc}
use Rattle.std.proofs.Math.ListN.{get_or-append}
use Rattle.std.proofs.lemmas.Bool.{cases_lt, cases_Bool, and_parts, eqb-true, ltb-true}
use Rattle.std.proofs.lemmas.Bool.Decides.{nat_tests}
use Rattle.std.proofs.lemmas.List.{drop_at, get_or_past, get_or-take, length-take-le}
use Rattle.std.proofs.lemmas.List.Sums.{prefix_len_is, prefix_len_passes, prefix_len_stops, prefix_len-le-length}
use Rattle.hex.specs.Hex.{decode_of, decode_sized, is_hex_digit}
use Rattle.hex.specs.declared.error.FromHexError.{FromHexError}
use Rattle.hex.proofs.HexLemmas.{decode_sized-twice, decode_sized-ok, IsOk-decode_sized}
use Rattle.vt_base.specs.ScoreText.{SpellsScore, IsScoreFront, IsLabel, is_label_byte, front_len}

-- how many bytes of a label stand before the colon
label_then_colon : (label rest : List ℕ) → IsLabel label
    → prefix_len is_label_byte (label ++ 58 ∷ rest) ≡ length label
label_then_colon label rest is =
    prefix_len_is is_label_byte (label ++ 58 ∷ rest) (length label) 0
    (omega (arith, length-append label (58 ∷ rest)))
    (λ k below. ap is_label_byte (get_or-append label (58 ∷ rest) 0 k below) ∙ is.each k 0 below)
    (λ _. ap is_label_byte (get_or-append_seam label 58 rest 0))

both : (a b : Bool) (x y : ℕ) → a ≡ true → b ≡ true → cond (a && b) x y ≡ x
both a b x y is also = rw (is, also) refl

not_second : (a b : Bool) (x y : ℕ) → b ≡ false → cond (a && b) x y ≡ y
not_second true b x y is = rw is refl
not_second false b x y is = refl

front_of_label : (label rest : List ℕ) → IsLabel label
    → front_len (label ++ 58 ∷ rest) ≡ length label + 1
front_of_label label rest is =
    let text : List ℕ = label ++ 58 ∷ rest in
    let n = label_then_colon label rest is in
    let some : nat_lt 0 (prefix_len is_label_byte text) ≡ true =
    let h : 0 < prefix_len is_label_byte text = omega (arith, n, is.some) in
    grind (arith, nat_tests) in
    let colon : (slice_index text (prefix_len is_label_byte text) == 58) ≡ true =
    ap (λ (k : ℕ). slice_index text k == 58) n ∙ ap (λ (b : ℕ). b == 58) (get_or-append_seam label 58 rest 0) in
    both (nat_lt 0 (prefix_len is_label_byte text)) (slice_index text (prefix_len is_label_byte text) == 58) _ _ some colon
    ∙ ap (λ (k : ℕ). k + 1) n

-- in digits no colon stands
no_colon : (text : List ℕ) → AllPass is_hex_digit text → (i : ℕ) → (slice_index text i == 58) ≡ false
no_colon text all i = ⊎_elim
    (λ (within : i < length text).
    let digit : is_hex_digit (get_or text i 0) ≡ true = all i 0 within in
    ⊎_elim
    (λ (colon : (slice_index text i == 58) ≡ true).
    let is : get_or text i 0 ≡ 58 = eqb-true (get_or text i 0) 58 colon in
    let wrong : false ≡ true = ap is_hex_digit (sym is) ∙ digit in cc)
    (λ (other : (slice_index text i == 58) ≡ false). other)
    (cases_Bool (slice_index text i == 58)))
    (λ (past : length text ≤ i). ap (λ (b : ℕ). b == 58) (get_or_past text i 0 past))
    (cases_lt i (length text))

front_of_digits : (text : List ℕ) → AllPass is_hex_digit text → front_len text ≡ 0
front_of_digits text all = not_second (nat_lt 0 (prefix_len is_label_byte text)) (slice_index text (prefix_len is_label_byte text) == 58)
    (prefix_len is_label_byte text + 1) 0 (no_colon text all (prefix_len is_label_byte text))

-- what stands before the digits is nothing, or a label and a colon
pub front_is : (text : List ℕ) → IsScoreFront (take (front_len text) text)
front_is text =
    let n : ℕ = prefix_len is_label_byte text in
    let at : ℕ → Type 0 = λ (k : ℕ). IsScoreFront (take k text) in
    ⊎_elim
    (λ (yes : (nat_lt 0 n && (slice_index text n == 58)) ≡ true).
    let parts = and_parts (nat_lt 0 n) (slice_index text n == 58) yes in
    let some : 0 < n = ltb-true 0 n parts.0 in
    let colon : get_or text n 0 ≡ 58 = eqb-true (get_or text n 0) 58 parts.1 in
    let within : n < length text = ⊎_elim
    (λ (h : n < length text). h)
    (λ (h : length text ≤ n). absurd (let zero_is : get_or text n 0 ≡ 0 = get_or_past text n 0 h in omega arith))
    (cases_lt n (length text)) in
    let whole : take (n + 1) text ≡ take n text ++ 58 ∷ [] =
    rw add-one (take-suc text n 0 within ∙ ap (λ (b : ℕ). take n text ++ b ∷ []) colon) in
    let label_len : length (take n text) ≡ n = length-take-le n text (omega arith) in
    let is : IsLabel (take n text) = record {
      some = omega (arith, label_len, some);
      each = λ k d below.
          let low : k < n = omega (arith, label_len, below) in
          subst (λ (b : ℕ). is_label_byte b ≡ true) (sym (get_or-take n text k d low)) (prefix_len_passes is_label_byte text k d low);
    } in
    subst at (sym (ap (λ (b : Bool). cond b (n + 1) 0) yes)) (inr (take n text, is, whole)))
    (λ (no : (nat_lt 0 n && (slice_index text n == 58)) ≡ false).
    subst at (sym (ap (λ (b : Bool). cond b (n + 1) 0) no)) (inl refl))
    (cases_Bool (nat_lt 0 n && (slice_index text n == 58)))

-- digits behind what stands before them are read
decoded : (digits score : List ℕ) → length digits ≡ 40 → decode_of digits ≡ Ok score
    → decode_sized digits 20 ≡ Ok score
decoded digits score all value = decode_sized-twice digits 20 all ∙ value

all_digits : (digits score : List ℕ) → decode_sized digits 20 ≡ Ok score → AllPass is_hex_digit digits
all_digits digits score value = ((IsOk-decode_sized digits 20).0 (rw value refl)).1

pub spelled_is_read : (score text : List ℕ) → SpellsScore score text
    → decode_sized (drop (front_len text) text) 20 ≡ Ok score
spelled_is_read score text s =
    let value : decode_sized s.digits 20 ≡ Ok score = decoded s.digits score s.all s.value in
    let P : List ℕ → Type 0 = λ (t : List ℕ). decode_sized (drop (front_len t) t) 20 ≡ Ok score in
    subst P (sym s.spelled) (⊎_elim
    (λ (none : s.front ≡ []).
    subst P (sym (ap (λ (f : List ℕ). f ++ s.digits) none))
    (ap (λ (k : ℕ). decode_sized (drop k s.digits) 20) (front_of_digits s.digits (all_digits s.digits score value)) ∙ value))
    (λ (has : (label : List ℕ) × IsLabel label × (s.front ≡ label ++ 58 ∷ [])).
    let text_is : s.front ++ s.digits ≡ has.0 ++ 58 ∷ s.digits =
    ap (λ (f : List ℕ). f ++ s.digits) has.2 ∙ append_assoc has.0 (58 ∷ []) s.digits in
    let behind : drop (length has.0 + 1) (has.0 ++ 58 ∷ s.digits) ≡ s.digits =
    ap (λ (l : List ℕ). drop (length has.0 + 1) l) (sym (append_assoc has.0 (58 ∷ []) s.digits))
    ∙ drop_at (has.0 ++ 58 ∷ []) s.digits (length has.0 + 1) (length-append has.0 (58 ∷ [])) in
    subst P (sym text_is)
    (ap (λ (k : ℕ). decode_sized (drop k (has.0 ++ 58 ∷ s.digits)) 20) (front_of_label has.0 s.digits has.1)
    ∙ ap (λ (l : List ℕ). decode_sized l 20) behind ∙ value))
    s.front_is)

pub read_is_spelled : (text score : List ℕ) → decode_sized (drop (front_len text) text) 20 ≡ Ok score
    → SpellsScore score text
read_is_spelled text score read =
    let digits : List ℕ = drop (front_len text) text in
    let all : length digits ≡ 40 = decode_sized-ok digits 20 score read in
    record {
      front = take (front_len text) text;
      digits = digits;
      front_is = front_is text;
      all = all;
      value = sym (decode_sized-twice digits 20 all) ∙ read;
      spelled = sym (take-append-drop (front_len text) text);
    }

pub not_both : (r : Result (List ℕ) FromHexError) (bytes : List ℕ) (e : FromHexError) → r ≡ Ok bytes
    → r ≡ Err e → ⊥
not_both (Ok x) bytes e ok err = cc
not_both (Err x) bytes e ok err = cc
