-- Whole lines are those of the grammar, with their newlines, and stay what they are when bytes
-- follow.
use Rattle.std.proofs.Common.{◌≡◌, ◌≢◌, ℕ, zero, suc, ◌+◌, ◌<◌, ◌≤◌, ◌==◌, Bool, true, false, cond, List, [], ◌∷◌, ◌++◌, length, take, drop, get_or, Option, Some, None, refl, sym, ◌∙◌, ap, arith, ◌⊎◌, inl, inr, length-append, length-take}
use Rattle.std.specs.Prelude.{codes}
use Rattle.std.specs.List.{All, AllByRecursion, position, position_from, join_with_byte, list_any}
use Rattle.std.proofs.lemmas.Bool.{cases_lt}
use Rattle.std.proofs.lemmas.Bool.Decides.{Decides-eqb}
use Rattle.std.proofs.lemmas.Iterator.Adapters.{position_from-zero}
use Rattle.std.proofs.lemmas.List.{take-append-drop, take-append-le, take_at, take_all, get_or-take, drop_more}
use Rattle.std.proofs.lemmas.List.Elements.{All-from_recursion, recursion_from_All, All-from_get_or}
use Rattle.std.proofs.lemmas.List.Quantifiers.{position-Some}
use Rattle.vt_wire.specs.Lines.{IsVersion, IsLine, is_02, versions, offers_02, first_wrong_place, judged, line_at, line_of}
use Rattle.vt_wire.specs.declared.line.Line.TheVariants.{Whole, More, Bad}
use Rattle.vt_wire.proofs.Lines.{differs, lt_true, lt_false, line_accepted, line_spelled}

abbrev newline : ℕ → Bool
newline b = b == 10

-- no newline
abbrev Plain : List ℕ → Type 0
Plain bytes = AllByRecursion (λ b. b ≢ 10) bytes

-- ---- the place of the newline

keep_place : (here : Bool) (i n : ℕ) (later longer : Option ℕ) → cond here (Some i) later ≡ Some n
    → (later ≡ Some n → longer ≡ Some n) → cond here (Some i) longer ≡ Some n
keep_place true i n later longer h go = h
keep_place false i n later longer h go = go h

position-append : (i n : ℕ) (xs ys : List ℕ) → position_from newline i xs ≡ Some n
    → position_from newline i (xs ++ ys) ≡ Some n
position-append i n [] ys h = absurd (cc)
position-append i n (x ∷ xs) ys h = keep_place (newline x) i n (position_from newline (i + 1) xs) (position_from newline (i + 1) (xs ++ ys)) h (position-append (i + 1) n xs ys)

position-plain : (i : ℕ) (xs : List ℕ) → Plain xs → position_from newline i xs ≡ None
position-plain i [] all = refl
position-plain i (x ∷ xs) all = ap (λ t. cond t (Some i) (position_from newline (i + 1) xs)) (differs x 10 all.0) ∙ position-plain (i + 1) xs all.1

none_here : (here : Bool) (i : ℕ) (later : Option ℕ) → cond here (Some i) later ≡ None
    → (here ≡ false) × (later ≡ None)
none_here true i later h = absurd (cc)
none_here false i later h = (refl, h)

unequal : (x y : ℕ) → (x == y) ≡ false → x ≢ y
unequal x y h is = let both : true ≡ false = sym ((Decides-eqb x y).1 is) ∙ h in absurd (cc)

plain_none : (i : ℕ) (xs : List ℕ) → position_from newline i xs ≡ None → Plain xs
plain_none i [] h = tt
plain_none i (x ∷ xs) h =
    let parts = none_here (newline x) i (position_from newline (i + 1) xs) h in
    (unequal x 10 parts.0, plain_none (i + 1) xs parts.1)

-- the newline behind a line is the first
position-newline : (i n : ℕ) (line more : List ℕ) → Plain line → length line < n
    → position_from newline i (take n (line ++ (10 ∷ more))) ≡ Some (i + length line)
position-newline i zero line more all lt = absurd (omega arith)
position-newline i (suc n) [] more all lt = ap Some (omega arith)
position-newline i (suc n) (b ∷ line) more all lt =
    ap (λ t. cond t (Some i) (position_from newline (i + 1) (take n (line ++ (10 ∷ more))))) (differs b 10 all.0)
    ∙ position-newline (i + 1) n line more all.1 (omega arith) ∙ ap Some (omega arith)

take-front : (n : ℕ) (xs ys : List ℕ) → (zs : List ℕ) × (take n (xs ++ ys) ≡ take n xs ++ zs)
take-front zero xs ys = ([], refl)
take-front (suc n) [] ys = (take (suc n) ys, refl)
take-front (suc n) (x ∷ xs) ys = let r = take-front n xs ys in (r.0, ap (λ l. x ∷ l) r.1)

-- ---- without a newline

over : (input : List ℕ) → 1024 < length input → line_at input None ≡ Bad 1024
over input long = ap (λ t. cond t (Bad 1024) More) (lt_true 1024 (length input) long)

under : (input : List ℕ) → length input ≤ 1024 → line_at input None ≡ More
under input few = ap (λ t. cond t (Bad 1024) More) (lt_false 1024 (length input) few)

no_place : (xs : List ℕ) → Plain xs → position newline xs ≡ None
no_place xs all = position_from-zero newline xs ∙ position-plain 0 xs all

pub line_over : (input : List ℕ) → All (λ b. b ≢ 10) (take 1024 input) → 1024 < length input
    → line_of input ≡ Bad 1024
line_over input all long = ap (line_at input) (no_place (take 1024 input) (recursion_from_All (λ b. b ≢ 10) (take 1024 input) all)) ∙ over input long

pub line_under : (input : List ℕ) → All (λ b. b ≢ 10) input → length input ≤ 1024
    → line_of input ≡ More
line_under input all few =
    ap (λ l. line_at input (position newline l)) (take_all 1024 input few) ∙ ap (line_at input) (no_place input (recursion_from_All (λ b. b ≢ 10) input all)) ∙ under input few

judged-not_more : (line : List ℕ) (wrong : Option ℕ) → judged line wrong ≡ More → ⊥
judged-not_more line None h = cc
judged-not_more line (Some place) h = cc

more_at : (input : List ℕ) (place : Option ℕ) → position newline (take 1024 input) ≡ place
    → line_at input place ≡ More → All (λ b. b ≢ 10) input × (length input ≤ 1024)
more_at input (Some n) at h = absurd (judged-not_more (take n input) (first_wrong_place (take n input)) h)
more_at input None at h = elim (cases_lt 1024 (length input)) [
  | inl long ↦ let both : Bad 1024 ≡ More = sym (over input long) ∙ h in absurd (cc)
  | inr few ↦
      let whole : take 1024 input ≡ input = take_all 1024 input few in
      let none : position_from newline 0 input ≡ None = sym (position_from-zero newline input) ∙ ap (position newline) (sym whole) ∙ at in
      (All-from_recursion (λ b. b ≢ 10) input (plain_none 0 input none), few)
]

pub more_is : (input : List ℕ) → line_of input ≡ More
    → All (λ b. b ≢ 10) input × (length input ≤ 1024)
more_is input h = more_at input (position newline (take 1024 input)) refl h

-- ---- when bytes follow

stays_at : (input more : List ℕ) (place : Option ℕ) → position newline (take 1024 input) ≡ place
    → line_at input place ≢ More → line_of (input ++ more) ≡ line_at input place
stays_at input more (Some n) at whole =
    let found = position-Some newline (take 1024 input) n 0 at in
    let front = take-front 1024 input more in
    let there : position newline (take 1024 (input ++ more)) ≡ Some n =
    ap (position newline) front.1 ∙ position_from-zero newline (take 1024 input ++ front.0)
    ∙ position-append 0 n (take 1024 input) front.0 (sym (position_from-zero newline (take 1024 input)) ∙ at) in
    let same : take n (input ++ more) ≡ take n input = take-append-le n input more (omega (arith, found.0, length-take 1024 input)) in
    ap (line_at (input ++ more)) there ∙ ap (λ l. judged l (first_wrong_place l)) same
stays_at input more None at whole = elim (cases_lt 1024 (length input)) [
  | inl long ↦
      let same : take 1024 (input ++ more) ≡ take 1024 input = take-append-le 1024 input more (omega arith) in
      ap (λ l. line_at (input ++ more) (position newline l)) same ∙ ap (line_at (input ++ more)) at
      ∙ over (input ++ more) (omega (arith, long, length-append input more)) ∙ sym (over input long)
  | inr few ↦ absurd (whole (under input few))
]

pub line_stays : (input more : List ℕ) → line_of input ≢ More
    → line_of (input ++ more) ≡ line_of input
line_stays input more whole = stays_at input more (position newline (take 1024 input)) refl whole

-- ---- whole lines

plain-append : (xs ys : List ℕ) → Plain xs → Plain ys → Plain (xs ++ ys)
plain-append [] ys p q = q
plain-append (x ∷ xs) ys p q = (p.0, plain-append xs ys p.1 q)

plain-version : (version : List ℕ) → AllByRecursion (λ b. (b ≢ 58) × (b ≢ 45) × (b ≢ 10)) version
    → Plain version
plain-version [] all = tt
plain-version (b ∷ version) all = (all.0.2, plain-version version all.1)

plain-versions : (offered : List (List ℕ)) → AllByRecursion IsVersion offered
    → Plain (join_with_byte 58 offered)
plain-versions [] each = tt
plain-versions (v ∷ []) each = plain-version v each.0.plain
plain-versions (v ∷ w ∷ offered) each =
    plain-append v (58 ∷ join_with_byte 58 (w ∷ offered)) (plain-version v each.0.plain) ((λ h. omega arith), plain-versions (w ∷ offered) each.1)

plain-line : (offered : List (List ℕ)) (comment line : List ℕ) → IsLine offered comment line
    → Plain line
plain-line offered comment line x =
    let start : Plain (codes "venti-") = (λ h. omega arith, (λ h. omega arith, (λ h. omega arith, (λ h. omega arith, (λ h. omega arith, (λ h. omega arith, tt)))))) in
    let rest : Plain (join_with_byte 58 offered ++ (45 ∷ comment)) = plain-append (join_with_byte 58 offered) (45 ∷ comment) (plain-versions offered x.each) ((λ h. omega arith), x.plain) in
    rw x.spelled (plain-append (codes "venti-") (join_with_byte 58 offered ++ (45 ∷ comment)) start rest)

pub line_read : (line more comment : List ℕ) (offered : List (List ℕ)) → IsLine offered comment line
    → length line < 1024
    → line_of (line ++ (10 ∷ more)) ≡ Whole (length line + 1) (list_any is_02 offered)
line_read line more comment offered x short =
    let input = line ++ (10 ∷ more) in
    let good = line_accepted line offered comment x in
    let at : position newline (take 1024 input) ≡ Some (length line) =
    position_from-zero newline (take 1024 input) ∙ position-newline 0 1024 line more (plain-line offered comment line x) short ∙ ap Some (omega arith) in
    ap (line_at input) at ∙ ap (λ l. judged l (first_wrong_place l)) (take_at line (10 ∷ more) (length line) refl) ∙ ap (judged line) good.0
    ∙ ap (λ vs. Whole (length line + 1) (list_any is_02 vs)) good.1

-- a line is whole
abbrev IsWhole : List ℕ → ℕ → Bool → Type 0
IsWhole input len has =
    (offered : List (List ℕ)) × (comment : List ℕ) × (line : List ℕ) × IsLine offered comment line × (input ≡ line ++ (10 ∷ drop len input)) × (len ≡ length line + 1)
    × (len ≤ 1024) × (has ≡ list_any is_02 offered)

judged-Whole : (line : List ℕ) (wrong : Option ℕ) (len : ℕ) (has : Bool)
    → judged line wrong ≡ Whole len has
    → (wrong ≡ None) × (len ≡ length line + 1) × (has ≡ offers_02 line)
judged-Whole line None len has h = (refl, cc, cc)
judged-Whole line (Some place) len has h = absurd (cc)

-- where the newline stands among the first 1,024 bytes, these are the line, it and the rest
record NewlineAt (input : List ℕ) (n : ℕ) : Type 0 where
  pub early : n < 1024
  pub size : length (take n input) ≡ n
  pub plain : All (λ b. b ≢ 10) (take n input)
  pub parts : input ≡ take n input ++ (10 ∷ drop (n + 1) input)

newline_at : (input : List ℕ) (n : ℕ) → position newline (take 1024 input) ≡ Some n
    → NewlineAt input n
newline_at input n at =
    let line = take n input in
    let found = position-Some newline (take 1024 input) n 0 at in
    let inside : n < length input = omega (arith, found.0, length-take 1024 input) in
    let early : n < 1024 = omega (arith, found.0, length-take 1024 input) in
    let size : length line ≡ n = omega (arith, inside, length-take n input) in
    let before : (k : ℕ) → k < length line → get_or line k 0 ≢ 10 =
    λ k lt is. unequal (get_or (take 1024 input) k 0) 10 (found.2 k (omega (arith, lt, size)))
    (get_or-take 1024 input k 0 (omega (arith, lt, size, early)) ∙ sym (get_or-take n input k 0 (omega (arith, lt, size))) ∙ is) in
    let here : get_or input n 0 ≡ 10 = sym (get_or-take 1024 input n 0 early) ∙ (Decides-eqb (get_or (take 1024 input) n 0) 10).0 found.1 in
    record {
      early = early;
      size = size;
      plain = All-from_get_or (λ b. b ≢ 10) line 0 before;
      parts = sym (take-append-drop n input) ∙ ap (λ l. line ++ l) (drop_more input n 0 inside ∙ ap (λ b. b ∷ drop (n + 1) input) here);
    }

whole_at : (input : List ℕ) (place : Option ℕ) (len : ℕ) (has : Bool)
    → position newline (take 1024 input) ≡ place → line_at input place ≡ Whole len has
    → IsWhole input len has
whole_at input None len has at h = elim (cases_lt 1024 (length input)) [
  | inl long ↦ let both : Bad 1024 ≡ Whole len has = sym (over input long) ∙ h in absurd (cc)
  | inr few ↦ let both : More ≡ Whole len has = sym (under input few) ∙ h in absurd (cc)
]
whole_at input (Some n) len has at h =
    let line = take n input in
    let x = newline_at input n at in
    let told = judged-Whole line (first_wrong_place line) len has h in
    let good = line_spelled line (recursion_from_All (λ b. b ≢ 10) line x.plain) told.0 in
    let last : n + 1 ≡ len = omega (arith, told.1, x.size) in
    (versions line, good.0, line, good.1, x.parts ∙ ap (λ k. line ++ (10 ∷ drop k input)) last, told.1, omega (arith, last, x.early), told.2)

pub whole_is : (input : List ℕ) (len : ℕ) (has : Bool) → line_of input ≡ Whole len has
    → IsWhole input len has
whole_is input len has h = whole_at input (position newline (take 1024 input)) len has refl h

-- ---- wrong lines

judged-Bad : (line : List ℕ) (wrong : Option ℕ) (place : ℕ) → judged line wrong ≡ Bad place
    → wrong ≡ Some place
judged-Bad line None place h = absurd (cc)
judged-Bad line (Some other) place h = cc

abbrev IsWrong : List ℕ → ℕ → Type 0
IsWrong input place =
    ((line : List ℕ) × (more : List ℕ) × (input ≡ line ++ (10 ∷ more)) × All (λ b. b ≢ 10) line × (length line < 1024) × (first_wrong_place line ≡ Some place))
    ⊎ (All (λ b. b ≢ 10) (take 1024 input) × (1024 < length input) × (place ≡ 1024))

wrong_at : (input : List ℕ) (at : Option ℕ) (place : ℕ) → position newline (take 1024 input) ≡ at
    → line_at input at ≡ Bad place → IsWrong input place
wrong_at input None place at h = elim (cases_lt 1024 (length input)) [
  | inl long ↦
      let both : Bad 1024 ≡ Bad place = sym (over input long) ∙ h in
      let none : position_from newline 0 (take 1024 input) ≡ None = sym (position_from-zero newline (take 1024 input)) ∙ at in
      let end : place ≡ 1024 = cc in
      inr (All-from_recursion (λ b. b ≢ 10) (take 1024 input) (plain_none 0 (take 1024 input) none), long, end)
  | inr few ↦ let both : More ≡ Bad place = sym (under input few) ∙ h in absurd (cc)
]
wrong_at input (Some n) place at h =
    let x = newline_at input n at in
    inl (take n input, drop (n + 1) input, x.parts, x.plain, omega (arith, x.early, x.size), judged-Bad (take n input) (first_wrong_place (take n input)) place h)

pub wrong_is : (input : List ℕ) (place : ℕ) → line_of input ≡ Bad place → IsWrong input place
wrong_is input place h = wrong_at input (position newline (take 1024 input)) place refl h
