-- Whether 02 is among the versions, by the place of the first colon or dash.
use Rattle.std.proofs.Common.{◌≡◌, ◌≢◌, ℕ, zero, suc, ◌+◌, ◌<◌, ◌==◌, ◌||◌, Bool, true, false, cond, List, [], ◌∷◌, length, take, drop, get_or, Option, Some, None, refl, sym, ◌∙◌, ap, arith, inl, inr}
use Rattle.std.specs.List.{position, position_from, list_any}
use Rattle.std.proofs.lemmas.Bool.{cases_eq}
use Rattle.std.proofs.lemmas.Bool.Decides.{Decides-eqb}
use Rattle.std.proofs.lemmas.Iterator.Adapters.{position_from-zero}
use Rattle.std.proofs.lemmas.List.Quantifiers.{position-Some}
use Rattle.vt_wire.specs.Lines.{with_first, cut_at_colons, is_02}
use Rattle.vt_wire.proofs.Lines.{differs, step, no_none, at_colon, at_dash}

-- a colon or a dash
abbrev pub stop : ℕ → Bool
stop b = b == 58 || b == 45

or_left : (a b : Bool) → (a || b) ≡ false → a ≡ false
or_left true b h = h
or_left false b h = refl

or_right : (a b : Bool) → (a || b) ≡ false → b ≡ false
or_right true b h = absurd (cc)
or_right false b h = h

or_second : (a b : Bool) → a ≡ false → (a || b) ≡ true → b ≡ true
or_second true b not h = absurd (cc)
or_second false b not h = h

not_here : (here : Bool) (i : ℕ) (later : Option ℕ) → cond here (Some i) later ≡ None
    → (here ≡ false) × (later ≡ None)
not_here true i later h = absurd (no_none i h)
not_here false i later h = (refl, h)

-- the versions behind a colon or a dash at this place
abbrev behind : List ℕ → ℕ → List (List ℕ)
behind bytes n = cond (get_or bytes n 0 == 45) [] (cut_at_colons (drop (suc n) bytes))

-- neither a colon nor a dash
at_other : (b : ℕ) (x y z : List (List ℕ)) → stop b ≡ false
    → cond (b == 58) x (cond (b == 45) y z) ≡ z
at_other b x y z is = step (b == 58) (b == 45) x y z (or_left (b == 58) (b == 45) is) (or_right (b == 58) (b == 45) is)

cut_first : (bytes : List ℕ) (n : ℕ) → n < length bytes → stop (get_or bytes n 0) ≡ true
    → ((k : ℕ) → k < n → stop (get_or bytes k 0) ≡ false)
    → cut_at_colons bytes ≡ take n bytes ∷ behind bytes n
cut_first [] n lt here before = absurd (omega arith)
cut_first (b ∷ bytes) zero lt here before = elim (cases_eq b 58) [
  | inl is ↦
      at_colon b ([] ∷ cut_at_colons bytes) ([] ∷ []) (with_first b (cut_at_colons bytes)) is
      ∙ ap (λ n. [] ∷ cond (n == 45) [] (cut_at_colons bytes)) (sym is)
  | inr colon ↦
      let is : b ≡ 45 = (Decides-eqb b 45).0 (or_second (b == 58) (b == 45) (differs b 58 colon) here) in
      at_dash b ([] ∷ cut_at_colons bytes) ([] ∷ []) (with_first b (cut_at_colons bytes)) is
      ∙ ap (λ n. [] ∷ cond (n == 45) [] (cut_at_colons bytes)) (sym is)
]
cut_first (b ∷ bytes) (suc n) lt here before =
    at_other b ([] ∷ cut_at_colons bytes) ([] ∷ []) (with_first b (cut_at_colons bytes)) (before 0 (omega arith))
    ∙ ap (with_first b) (cut_first bytes n (omega arith) here (λ k k_lt. before (suc k) (omega arith)))

cut_all : (i : ℕ) (bytes : List ℕ) → position_from stop i bytes ≡ None
    → cut_at_colons bytes ≡ bytes ∷ []
cut_all i [] h = refl
cut_all i (b ∷ bytes) h =
    let parts = not_here (stop b) i (position_from stop (i + 1) bytes) h in
    at_other b ([] ∷ cut_at_colons bytes) ([] ∷ []) (with_first b (cut_at_colons bytes)) parts.0 ∙ ap (with_first b) (cut_all (i + 1) bytes parts.1)

get_or-drop_zero : (n : ℕ) (xs : List ℕ) → get_or (drop n xs) 0 0 ≡ get_or xs n 0
get_or-drop_zero zero xs = refl
get_or-drop_zero (suc n) [] = refl
get_or-drop_zero (suc n) (x ∷ xs) = get_or-drop_zero n xs

drop_one : (n : ℕ) (xs : List ℕ) → drop 1 (drop n xs) ≡ drop (suc n) xs
drop_one zero xs = refl
drop_one (suc n) [] = refl
drop_one (suc n) (x ∷ xs) = drop_one n xs

pub found_02 : (rest : List ℕ) (end : ℕ) → position stop rest ≡ Some end
    → is_02 (take end rest) ≡ true → list_any is_02 (cut_at_colons rest) ≡ true
found_02 rest end at is =
    let p = position-Some stop rest end 0 at in
    ap (list_any is_02) (cut_first rest end p.0 p.1 p.2) ∙ ap (λ b. b || list_any is_02 (behind rest end)) is

pub last_02 : (rest : List ℕ) (end : ℕ) → position stop rest ≡ Some end
    → is_02 (take end rest) ≡ false → get_or (drop end rest) 0 0 ≡ 45
    → list_any is_02 (cut_at_colons rest) ≡ false
last_02 rest end at is dash =
    let p = position-Some stop rest end 0 at in
    ap (list_any is_02) (cut_first rest end p.0 p.1 p.2) ∙ ap (λ b. b || list_any is_02 (behind rest end)) is
    ∙ ap (λ t. list_any is_02 (cond t [] (cut_at_colons (drop (suc end) rest)))) ((Decides-eqb (get_or rest end 0) 45).1 (sym (get_or-drop_zero end rest) ∙ dash))

pub next_02 : (rest : List ℕ) (end : ℕ) → position stop rest ≡ Some end
    → is_02 (take end rest) ≡ false → get_or (drop end rest) 0 0 ≢ 45
    → list_any is_02 (cut_at_colons rest) ≡ list_any is_02 (cut_at_colons (drop 1 (drop end rest)))
next_02 rest end at is colon =
    let p = position-Some stop rest end 0 at in
    ap (list_any is_02) (cut_first rest end p.0 p.1 p.2) ∙ ap (λ b. b || list_any is_02 (behind rest end)) is
    ∙ ap (λ t. list_any is_02 (cond t [] (cut_at_colons (drop (suc end) rest)))) (differs (get_or rest end 0) 45 (λ is. colon (get_or-drop_zero end rest ∙ is)))
    ∙ ap (λ l. list_any is_02 (cut_at_colons l)) (sym (drop_one end rest))

or_false : (b : Bool) → (b || false) ≡ b
or_false true = refl
or_false false = refl

pub only_02 : (rest : List ℕ) → position stop rest ≡ None
    → list_any is_02 (cut_at_colons rest) ≡ is_02 rest
only_02 rest none = ap (list_any is_02) (cut_all 0 rest (sym (position_from-zero stop rest) ∙ none)) ∙ or_false (is_02 rest)
