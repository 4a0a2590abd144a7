-- The words of a line, one after another.
use Rattle.std.proofs.Common.{◌≡◌, ◌≢◌, ℕ, zero, suc, ◌+◌, ◌<◌, ◌≤◌, ⊎_elim, Bool, true, false, cond, List, [], ◌∷◌, length, get_or, take, drop, refl, sym, ◌∙◌, ap, subst, arith, add-zero, add-one, length-drop}
use Rattle.std.specs.Prelude.{◌==◌, not, filter, take_while}
use Rattle.std.specs.List.{prefix_len, position_or_len, slice_split, All}
use Rattle.std.proofs.Math.Seq.{drop-cons}
use Rattle.std.proofs.Math.Numerals.{one-add}
use Rattle.std.proofs.lemmas.Bool.{cases_Bool, cases_lt, eqb-true}
use Rattle.std.proofs.lemmas.List.{drop_all, get_or-drop, get_or-take, length-take-le, take_all}
use Rattle.std.proofs.lemmas.List.Sums.{prefix_len_passes, prefix_len_stops, prefix_len-le-length, take_while-cons}
use Rattle.std.proofs.lemmas.List.Splits.{slice_split-cons_yes, slice_split_none, slice_split_first}
use Rattle.vt_conf.specs.Lines.{words_of_line, is_blank, is_empty, is_comment}

-- what stands between blanks, and isn't empty
abbrev pieces : List ℕ → List (List ℕ)
pieces line = filter (λ word. not (is_empty word)) (slice_split is_blank line)

-- a blank at the front separates nothing
pieces-blank : (b : ℕ) (line : List ℕ) → is_blank b ≡ true → pieces (b ∷ line) ≡ pieces line
pieces-blank b line blank =
    ap (filter (λ word. not (is_empty word))) (slice_split-cons_yes is_blank b line blank)

pub words_behind_blanks : (line : List ℕ) → words_of_line (drop (prefix_len is_blank line) line) ≡ words_of_line line
words_behind_blanks [] = refl
words_behind_blanks (b ∷ line) = ⊎_elim
    (λ (yes : is_blank b ≡ true).
    let len : prefix_len is_blank (b ∷ line) ≡ suc (prefix_len is_blank line) =
    ap (λ (t : Bool). cond t (1 + prefix_len is_blank line) 0) yes ∙ one-add (prefix_len is_blank line) in
    ap (λ (k : ℕ). words_of_line (drop k (b ∷ line))) len ∙ words_behind_blanks line
    ∙ sym (ap (take_while (λ word. not (is_comment word))) (pieces-blank b line yes)))
    (λ (no : is_blank b ≡ false).
    ap (λ (k : ℕ). words_of_line (drop k (b ∷ line))) (ap (λ (t : Bool). cond t (1 + prefix_len is_blank line) 0) no))
    (cases_Bool (is_blank b))

-- what begins with no blank has a byte before the first blank
first_word_has_bytes : (line : List ℕ) → 0 < length line → is_blank (get_or line 0 0) ≡ false
    → 0 < position_or_len is_blank line
first_word_has_bytes line some plain =
    let n : ℕ = position_or_len is_blank line in
    ⊎_elim
    (λ (h : 0 < n). h)
    (λ (h : n ≤ 0). absurd (
    let none : n ≡ 0 = omega arith in
    let stops : not (is_blank (get_or line n 0)) ≡ false = prefix_len_stops (λ b. not (is_blank b)) line 0 (omega arith) in
    let wrong : not (is_blank (get_or line 0 0)) ≡ false = subst (λ (k : ℕ). not (is_blank (get_or line k 0)) ≡ false) none stops in
    let right : not (is_blank (get_or line 0 0)) ≡ true = ap not plain in
    let no : true ≡ false = sym right ∙ wrong in cc))
    (cases_lt 0 n)

-- what begins with no blank begins with a piece
first_piece : (line : List ℕ) → 0 < length line → is_blank (get_or line 0 0) ≡ false
    → pieces line ≡ take (position_or_len is_blank line) line ∷ pieces (drop (position_or_len is_blank line) line)
first_piece line some plain =
    let n : ℕ = position_or_len is_blank line in
    let most : n ≤ length line = prefix_len-le-length (λ b. not (is_blank b)) line in
    let least : 0 < n = first_word_has_bytes line some plain in
    let full : length (take n line) ≡ n = length-take-le n line most in
    let kept : is_empty (take n line) ≡ false = ⊎_elim
    (λ (e : is_empty (take n line) ≡ true). absurd (let h : length (take n line) ≡ 0 = eqb-true (length (take n line)) 0 e in omega arith))
    (λ (e : is_empty (take n line) ≡ false). e)
    (cases_Bool (is_empty (take n line))) in
    let keeps : (rest : List (List ℕ)) → filter (λ word. not (is_empty word)) (take n line ∷ rest) ≡ take n line ∷ filter (λ word. not (is_empty word)) rest =
    λ rest. ap (λ (t : Bool). cond (not t) (take n line ∷ filter (λ word. not (is_empty word)) rest) (filter (λ word. not (is_empty word)) rest)) kept in
    ⊎_elim
    (λ (short : n < length line).
    let blank : is_blank (get_or line n 0) ≡ true = ⊎_elim
    (λ (e : is_blank (get_or line n 0) ≡ true). e)
    (λ (e : is_blank (get_or line n 0) ≡ false). absurd (
    let stops : not (is_blank (get_or line n 0)) ≡ false = prefix_len_stops (λ b. not (is_blank b)) line 0 short in
    let right : not (is_blank (get_or line n 0)) ≡ true = ap not e in
    let no : true ≡ false = sym right ∙ stops in cc))
    (cases_Bool (is_blank (get_or line n 0))) in
    let behind : pieces (drop n line) ≡ pieces (drop (n + 1) line) =
    ap pieces (drop-cons line n 0 short) ∙ pieces-blank (get_or line n 0) (drop (suc n) line) blank
    ∙ ap (λ (k : ℕ). pieces (drop k line)) (sym (add-one n)) in
    ap (filter (λ word. not (is_empty word))) (slice_split_first is_blank line 0 short) ∙ keeps (slice_split is_blank (drop (n + 1) line))
    ∙ ap (λ (rest : List (List ℕ)). take n line ∷ rest) (sym behind))
    (λ (whole : length line ≤ n).
    let is : n ≡ length line = omega arith in
    let all : All (λ b. is_blank b ≡ false) line = λ k d below. ⊎_elim
    (λ (e : is_blank (get_or line k d) ≡ true). absurd (
    let passes : not (is_blank (get_or line k d)) ≡ true = prefix_len_passes (λ b. not (is_blank b)) line k d (omega arith) in
    let wrong : not (is_blank (get_or line k d)) ≡ false = ap not e in
    let no : true ≡ false = sym passes ∙ wrong in cc))
    (λ (e : is_blank (get_or line k d) ≡ false). e)
    (cases_Bool (is_blank (get_or line k d))) in
    let one : take n line ≡ line = take_all n line whole in
    let none : pieces (drop n line) ≡ [] = ap pieces (drop_all n line whole) in
    ap (filter (λ word. not (is_empty word))) (slice_split_none is_blank line all ∙ ap (λ (w : List ℕ). w ∷ []) (sym one)) ∙ keeps []
    ∙ ap (λ (rest : List (List ℕ)). take n line ∷ rest) (sym none))
    (cases_lt n (length line))

-- the first word begins with a line's first byte, or has none
first_said : (line : List ℕ) (n : ℕ) → is_comment line ≡ false → is_comment (take n line) ≡ false
first_said line zero said = refl
first_said line (suc n) said = ap (λ (b : ℕ). b == 35) (get_or-take (suc n) line 0 0 (omega arith)) ∙ said

first_comment : (line : List ℕ) → 0 < length line → is_blank (get_or line 0 0) ≡ false → is_comment line ≡ true
    → is_comment (take (position_or_len is_blank line) line) ≡ true
first_comment line some plain comment =
    let n : ℕ = position_or_len is_blank line in
    let least : 0 < n = first_word_has_bytes line some plain in
    ap (λ (b : ℕ). b == 35) (get_or-take n line 0 0 least) ∙ comment

not_empty : (line : List ℕ) → is_empty line ≡ false → 0 < length line
not_empty line some = ⊎_elim
    (λ (h : 0 < length line). h)
    (λ (h : length line ≤ 0). absurd (
    let none : length line ≡ 0 = omega arith in
    let wrong : is_empty line ≡ true = ap (λ (k : ℕ). k == 0) none in
    let no : true ≡ false = sym wrong ∙ some in cc))
    (cases_lt 0 (length line))

pub no_words : (line : List ℕ) → is_empty line ≡ true → words_of_line line ≡ []
no_words [] none = refl
no_words (b ∷ line) none = let wrong : suc (length line) ≡ 0 = eqb-true (suc (length line)) 0 none in cc

pub first_word : (line : List ℕ) → is_empty line ≡ false → (0 < length line → is_blank (get_or line 0 0) ≡ false)
    → get_or line 0 0 ≢ 35
    → words_of_line line ≡ take (position_or_len is_blank line) line ∷ words_of_line (drop (position_or_len is_blank line) line)
first_word line full starts other =
    let some : 0 < length line = not_empty line full in
    let n : ℕ = position_or_len is_blank line in
    let said : is_comment line ≡ false = ⊎_elim
    (λ (e : is_comment line ≡ true). absurd (other (eqb-true (get_or line 0 0) 35 e)))
    (λ (e : is_comment line ≡ false). e)
    (cases_Bool (is_comment line)) in
    let word_said : is_comment (take n line) ≡ false = first_said line n said in
    ap (take_while (λ word. not (is_comment word))) (first_piece line some (starts some))
    ∙ take_while-cons (λ word. not (is_comment word)) (take n line) (pieces (drop n line))
    ∙ ap (λ (t : Bool). cond (not t) (take n line ∷ words_of_line (drop n line)) []) word_said

pub no_words_in_comment : (line : List ℕ) → is_empty line ≡ false → get_or line 0 0 ≡ 35 → words_of_line line ≡ []
no_words_in_comment line full hash =
    let some : 0 < length line = not_empty line full in
    let n : ℕ = position_or_len is_blank line in
    let comment : is_comment line ≡ true = ap (λ (b : ℕ). b == 35) hash in
    let plain : is_blank (get_or line 0 0) ≡ false = ap is_blank hash in
    ap (take_while (λ word. not (is_comment word))) (first_piece line some plain)
    ∙ take_while-cons (λ word. not (is_comment word)) (take n line) (pieces (drop n line))
    ∙ ap (λ (t : Bool). cond (not t) (take n line ∷ words_of_line (drop n line)) []) (first_comment line some plain comment)

-- behind the blanks at the front stands no blank
pub starts_plain : (line : List ℕ) → 0 < length (drop (prefix_len is_blank line) line)
    → is_blank (get_or (drop (prefix_len is_blank line) line) 0 0) ≡ false
starts_plain line some =
    let n : ℕ = prefix_len is_blank line in
    ap is_blank (get_or-drop n line 0 0 ∙ ap (λ (k : ℕ). get_or line k 0) (add-zero n))
    ∙ prefix_len_stops is_blank line 0 (omega (arith, length-drop n line))
