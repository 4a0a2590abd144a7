-- The lines of a text, one after another.
use Rattle.std.proofs.Common.{◌≡◌, ℕ, ◌+◌, ◌<◌, ◌≤◌, ⊎_elim, Bool, true, false, cond, List, [], ◌∷◌, ◌++◌, length, get_or, drop, refl, sym, ◌∙◌, ap, subst, arith, append_assoc, length-append, length-drop}
use Rattle.std.specs.Prelude.{◌==◌, not, All}
use Rattle.std.specs.List.{position_or_len, before_first, after_first}
use Rattle.std.proofs.lemmas.Bool.{cases_Bool, cases_lt, le-leb, lt-leb}
use Rattle.std.proofs.lemmas.List.{append-nil, drop-drop, length-take-le, take_all}
use Rattle.std.proofs.lemmas.List.Elements.{All-nil, All-push}
use Rattle.std.proofs.lemmas.List.Splits.{slice_split_none, slice_split_first}
use Rattle.std.proofs.lemmas.List.Sums.{prefix_len_passes, prefix_len-le-length}
use Rattle.vt_conf.specs.declared.error.ConfCause.{ConfCause}
use Rattle.vt_conf.specs.Configuration.{IsFirstWrong, IsPlainLine, IsWrongLine}
use Rattle.vt_conf.specs.Lines.{lines_of}
use Rattle.vt_conf.specs.Parsing.{lines_left}

abbrev is_newline : ℕ → Bool
is_newline b = b == 10

abbrev pub line_at : (text : List ℕ) → (start : ℕ) → List ℕ
line_at text start = before_first is_newline (drop start text)

left_within : (text : List ℕ) (start : ℕ) → start ≤ length text → lines_left text start ≡ lines_of (drop start text)
left_within text start within =
    ap (λ (b : Bool). cond b (lines_of (drop start text)) []) (le-leb start (length text) within)

left_behind : (text : List ℕ) (start : ℕ) → length text < start → lines_left text start ≡ []
left_behind text start behind =
    ap (λ (b : Bool). cond b (lines_of (drop start text)) []) (lt-leb start (length text) behind)

pub none_left : (text : List ℕ) (start : ℕ) → length text < start → lines_left text start ≡ []
none_left text start behind = left_behind text start behind

pub all_left : (text : List ℕ) → lines_left text 0 ≡ lines_of text
all_left text = left_within text 0 (omega arith)

-- the line at this place, and those behind it
pub next_left : (text : List ℕ) (start next : ℕ) → start ≤ length text → next ≡ start + (length (line_at text start) + 1)
    → lines_left text start ≡ line_at text start ∷ lines_left text next
next_left text start next within is =
    let rest : List ℕ = drop start text in
    let n : ℕ = position_or_len is_newline rest in
    let most : n ≤ length rest = prefix_len-le-length (λ b. not (is_newline b)) rest in
    let len : length (line_at text start) ≡ n = length-take-le n rest most in
    left_within text start within ∙ ⊎_elim
    (λ (short : n < length rest).
    let more : next ≤ length text = omega (arith, length-drop start text, len) in
    let same : start + (n + 1) ≡ next = omega (arith, len) in
    let behind : lines_of (after_first is_newline rest) ≡ lines_left text next =
    ap lines_of (drop-drop (n + 1) start text ∙ ap (λ (k : ℕ). drop k text) same) ∙ sym (left_within text next more) in
    slice_split_first is_newline rest 0 short ∙ ap (λ (ls : List (List ℕ)). line_at text start ∷ ls) behind)
    (λ (whole : length rest ≤ n).
    let plain : All (λ b. is_newline b ≡ false) rest = λ k d below. ⊎_elim
    (λ (e : is_newline (get_or rest k d) ≡ true). absurd (
    let passes : not (is_newline (get_or rest k d)) ≡ true = prefix_len_passes (λ b. not (is_newline b)) rest k d (omega arith) in
    let wrong : not (is_newline (get_or rest k d)) ≡ false = ap not e in
    let no : true ≡ false = sym passes ∙ wrong in cc))
    (λ (e : is_newline (get_or rest k d) ≡ false). e)
    (cases_Bool (is_newline (get_or rest k d))) in
    let all : rest ≡ line_at text start = sym (take_all n rest whole) in
    let none : lines_left text next ≡ [] = left_behind text next (omega (arith, length-drop start text, len)) in
    slice_split_none is_newline rest plain ∙ ap (λ (l : List ℕ). l ∷ []) all
    ∙ ap (λ (ls : List (List ℕ)). line_at text start ∷ ls) (sym none))
    (cases_lt n (length rest))

-- the lines so far are plain
pub record HasPassed (text : List ℕ) (start number : ℕ) : Type 0 where
  pub passed : List (List ℕ)
  pub split : lines_of text ≡ passed ++ lines_left text start
  pub count : number ≡ length passed
  pub plain : All IsPlainLine passed
  pub low : number ≤ start
  pub high : start ≤ length text + 1

pub none_passed : (text : List ℕ) → HasPassed text 0 0
none_passed text = record {
  passed = [];
  split = sym (all_left text);
  count = refl;
  plain = All-nil IsPlainLine;
  low = omega arith;
  high = omega arith;
}

pub line_within : (text : List ℕ) (start : ℕ) → start ≤ length text → start + length (line_at text start) ≤ length text
line_within text start within =
    let rest : List ℕ = drop start text in
    let n : ℕ = position_or_len is_newline rest in
    let most : n ≤ length rest = prefix_len-le-length (λ b. not (is_newline b)) rest in
    omega (arith, length-drop start text, length-take-le n rest most)

pub one_passed : (text line : List ℕ) (start number next : ℕ) → HasPassed text start number → start ≤ length text
    → line ≡ line_at text start → next ≡ start + (length line + 1) → IsPlainLine line → HasPassed text next (number + 1)
one_passed text line start number next h within is at plain =
    let at' : next ≡ start + (length (line_at text start) + 1) = at ∙ ap (λ (l : List ℕ). start + (length l + 1)) is in
    record {
      passed = h.passed ++ line ∷ [];
      split = h.split ∙ ap (λ (ls : List (List ℕ)). h.passed ++ ls) (next_left text start next within at' ∙ ap (λ (l : List ℕ). l ∷ lines_left text next) (sym is))
          ∙ sym (append_assoc h.passed (line ∷ []) (lines_left text next));
      count = omega (arith, h.count, length-append h.passed (line ∷ []));
      plain = All-push IsPlainLine h.passed line h.plain plain;
      low = omega (arith, h.low, at');
      high = omega (arith, line_within text start within, at');
    }

pub all_passed : (text : List ℕ) (start number : ℕ) → HasPassed text start number → length text < start → All IsPlainLine (lines_of text)
all_passed text start number h behind =
    subst (All IsPlainLine) (sym (h.split ∙ ap (λ (ls : List (List ℕ)). h.passed ++ ls) (none_left text start behind) ∙ append-nil h.passed)) h.plain

pub first_wrong : (text line : List ℕ) (start number : ℕ) (why : ConfCause) → HasPassed text start number → start ≤ length text
    → line ≡ line_at text start → IsWrongLine why line → IsFirstWrong text (number + 1) why
first_wrong text line start number why h within is wrong = record {
  before = h.passed;
  wrong = line;
  behind = lines_left text (start + (length (line_at text start) + 1));
  split = h.split ∙ ap (λ (ls : List (List ℕ)). h.passed ++ ls)
      (next_left text start (start + (length (line_at text start) + 1)) within refl ∙ ap (λ (l : List ℕ). l ∷ lines_left text (start + (length (line_at text start) + 1))) (sym is));
  line_is = omega (arith, h.count);
  plain = h.plain;
  is_wrong = wrong;
}
