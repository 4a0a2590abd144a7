-- The lines without a wrong byte are those of the grammar.
use Rattle.std.proofs.Common.{suc, zero, ◌≡◌, ◌≢◌, ℕ, ◌+◌, ◌<◌, ◌≤◌, ◌==◌, nat_lt, nat_eq, Bool, true, false, cond, List, [], ◌∷◌, ◌++◌, length, take, drop, Option, Some, None, refl, sym, ◌∙◌, ap, subst, arith, append_assoc, inl, inr}
use Rattle.std.specs.Prelude.{codes}
use Rattle.std.specs.List.{common_prefix_len, join_with_byte, AllByRecursion}
use Rattle.std.proofs.lemmas.Bool.Decides.{Decides-eqb, nat_tests}
use Rattle.std.proofs.lemmas.Bool.{cases_eq, cases_lt}
use Rattle.std.proofs.lemmas.List.{take-append-drop}
use Rattle.std.proofs.Math.Seq.{take-append-add}
use Rattle.vt_wire.specs.Lines.{IsVersion, IsLine, with_first, cut_at_colons, versions, wrong_version, first_wrong_place}

test_false : {P : Type 0} (b : Bool) → (b ≡ true → P) → (P → ⊥) → b ≡ false
test_false true h n = absurd (n (h refl))
test_false false h n = refl

pub differs : (x y : ℕ) → x ≢ y → (x == y) ≡ false
differs x y h = test_false (x == y) (Decides-eqb x y).0 h

-- a plain byte goes on
pub step : {X : Type 0} (a b : Bool) (x y z : X) → a ≡ false → b ≡ false → cond a x (cond b y z) ≡ z
step true b x y z p q = absurd (cc)
step false true x y z p q = absurd (cc)
step false false x y z p q = refl

-- ---- by the next byte: a colon, a dash or another

pub at_colon : {X : Type 0} (b : ℕ) (x y z : X) → b ≡ 58 → cond (b == 58) x (cond (b == 45) y z) ≡ x
at_colon b x y z is = ap (λ t. cond t x (cond (b == 45) y z)) ((Decides-eqb b 58).1 is)

pub at_dash : {X : Type 0} (b : ℕ) (x y z : X) → b ≡ 45 → cond (b == 58) x (cond (b == 45) y z) ≡ y
at_dash b x y z is = ap (λ n. cond (n == 58) x (cond (n == 45) y z)) is

pub at_plain : {X : Type 0} (b : ℕ) (x y z : X) → b ≢ 58 → b ≢ 45
    → cond (b == 58) x (cond (b == 45) y z) ≡ z
at_plain b x y z c d = step (b == 58) (b == 45) x y z (differs b 58 c) (differs b 45 d)

module _ (fresh : Bool) (place b : ℕ) (bytes : List ℕ) where
  colon_step : b ≡ 58
      → wrong_version fresh place (b ∷ bytes) ≡ cond fresh (Some place) (wrong_version true (place + 1) bytes)
  colon_step is = at_colon b _ _ _ is

  dash_step : b ≡ 45 → wrong_version fresh place (b ∷ bytes) ≡ cond fresh (Some place) None
  dash_step is = at_dash b _ _ _ is

  plain_step : b ≢ 58 → b ≢ 45
      → wrong_version fresh place (b ∷ bytes) ≡ wrong_version false (place + 1) bytes
  plain_step c d = at_plain b _ _ _ c d

abbrev Plain : List ℕ → Type 0
Plain v = AllByRecursion (λ b. (b ≢ 58) × (b ≢ 45) × (b ≢ 10)) v

go_plain : (fresh : Bool) (place : ℕ) (b : ℕ) (v rest : List ℕ) → Plain (b ∷ v)
    → wrong_version fresh place ((b ∷ v) ++ rest) ≡ wrong_version false (place + length (b ∷ v)) rest
go_plain fresh place b [] rest p =
    plain_step fresh place b rest p.0.0 p.0.1
go_plain fresh place b (d ∷ v) rest p =
    let n : place + 1 + length (d ∷ v) ≡ place + length (b ∷ d ∷ v) = omega arith in
    plain_step fresh place b ((d ∷ v) ++ rest) p.0.0 p.0.1
    ∙ go_plain false (place + 1) d v rest p.1 ∙ ap (λ k. wrong_version false k rest) n

cut_plain : (v rest : List ℕ) (later : List (List ℕ)) → Plain v → cut_at_colons rest ≡ [] ∷ later
    → cut_at_colons (v ++ rest) ≡ v ∷ later
cut_plain [] rest later p h = h
cut_plain (b ∷ v) rest later p h =
    at_plain b _ _ (with_first b (cut_at_colons (v ++ rest))) p.0.0 p.0.1
    ∙ ap (with_first b) (cut_plain v rest later p.1 h)

accepted_from : (place : ℕ) (vs : List (List ℕ)) (comment : List ℕ) → 0 < length vs
    → AllByRecursion IsVersion vs
    → (wrong_version true place (join_with_byte 58 vs ++ (45 ∷ comment)) ≡ None) × (cut_at_colons (join_with_byte 58 vs ++ (45 ∷ comment)) ≡ vs)
accepted_from place [] comment some each = absurd (omega arith)
accepted_from place ([] ∷ vs) comment some each = let h : 0 < 0 = each.0.some in absurd (omega arith)
accepted_from place ((b ∷ v) ∷ []) comment some each =
    (go_plain true place b v (45 ∷ comment) each.0.plain, cut_plain (b ∷ v) (45 ∷ comment) [] each.0.plain refl)
accepted_from place ((b ∷ v) ∷ w ∷ vs) comment some each =
    let rest = join_with_byte 58 (w ∷ vs) ++ (45 ∷ comment) in
    let more = accepted_from (place + length (b ∷ v) + 1) (w ∷ vs) comment (omega arith) each.1 in
    let parts : (b ∷ v) ++ (58 ∷ join_with_byte 58 (w ∷ vs)) ++ (45 ∷ comment) ≡ (b ∷ v) ++ (58 ∷ rest) = append_assoc (b ∷ v) (58 ∷ join_with_byte 58 (w ∷ vs)) (45 ∷ comment) in (
      ap (wrong_version true place) parts ∙ go_plain true place b v (58 ∷ rest) each.0.plain ∙ more.0,
      ap cut_at_colons parts ∙ cut_plain (b ∷ v) (58 ∷ rest) (w ∷ vs) each.0.plain (ap (λ l. [] ∷ l) more.1),
    )

pub no_more : (xs : List ℕ) → common_prefix_len nat_eq xs [] ≡ 0
no_more [] = refl
no_more (x ∷ xs) = refl

behind_start : (rest : List ℕ) → first_wrong_place (codes "venti-" ++ rest) ≡ wrong_version true 6 rest
behind_start rest =
    ap (λ n. cond (nat_lt (1 + (1 + (1 + (1 + (1 + (1 + n)))))) 6) (Some (1 + (1 + (1 + (1 + (1 + (1 + n))))))) (wrong_version true 6 rest)) (no_more rest)

pub line_accepted : (line : List ℕ) (offered : List (List ℕ)) (comment : List ℕ)
    → IsLine offered comment line → (first_wrong_place line ≡ None) × (versions line ≡ offered)
line_accepted line offered comment l =
    let rest = join_with_byte 58 offered ++ (45 ∷ comment) in
    let a = accepted_from 6 offered comment l.some l.each in
    (ap first_wrong_place l.spelled ∙ behind_start rest ∙ a.0, ap versions l.spelled ∙ a.1)

-- ---- what is accepted is spelled

-- what stands behind `venti-`, where `fresh` says that a version begins here
pub record Found (fresh : Bool) (bytes : List ℕ) : Type 0 where
  pub first : List ℕ
  pub later : List (List ℕ)
  pub comment : List ℕ
  pub cut : cut_at_colons bytes ≡ first ∷ later
  pub spelled : bytes ≡ join_with_byte 58 (first ∷ later) ++ (45 ∷ comment)
  pub some_first : fresh ≡ true → 0 < length first
  pub plain_first : Plain first
  pub each : AllByRecursion IsVersion later
  pub plain : AllByRecursion (λ b. b ≢ 10) comment

join_first : (b : ℕ) (v : List ℕ) (vs : List (List ℕ))
    → join_with_byte 58 ((b ∷ v) ∷ vs) ≡ b ∷ join_with_byte 58 (v ∷ vs)
join_first b v [] = refl
join_first b v (w ∷ vs) = refl

false_true : false ≡ true → ⊥
false_true h = cc

pub no_none : {X : Type 0} (x : X) → Some x ≡ None → ⊥
no_none x h = cc

found_colon : (fresh : Bool) (place : ℕ) (b : ℕ) (bytes : List ℕ) → b ≡ 58 → Found true bytes
    → (fresh ≡ true → ⊥) → Found fresh (b ∷ bytes)
found_colon fresh place b bytes is r old = record {
  first = [];
  later = r.first ∷ r.later;
  comment = r.comment;
  cut = at_colon b ([] ∷ cut_at_colons bytes) _ _ is ∙ ap (λ l. [] ∷ l) r.cut;
  spelled = ap (λ x. x ∷ bytes) is ∙ ap (λ l. 58 ∷ l) r.spelled;
  some_first = λ h. absurd (old h);
  plain_first = tt;
  each = (record { some = r.some_first refl; plain = r.plain_first }, r.each);
  plain = r.plain;
}

found_dash : (fresh : Bool) (b : ℕ) (bytes : List ℕ) → b ≡ 45
    → AllByRecursion (λ b. b ≢ 10) (b ∷ bytes) → (fresh ≡ true → ⊥) → Found fresh (b ∷ bytes)
found_dash fresh b bytes is q old = record {
  first = [];
  later = [];
  comment = bytes;
  cut = subst (λ x. cut_at_colons (x ∷ bytes) ≡ [] ∷ []) (sym is) refl;
  spelled = ap (λ x. x ∷ bytes) is;
  some_first = λ h. absurd (old h);
  plain_first = tt;
  each = tt;
  plain = q.1;
}

found_plain : (fresh : Bool) (b : ℕ) (bytes : List ℕ) → b ≢ 58 → b ≢ 45 → b ≢ 10 → Found false bytes
    → Found fresh (b ∷ bytes)
found_plain fresh b bytes c d q r = record {
  first = b ∷ r.first;
  later = r.later;
  comment = r.comment;
  cut = at_plain b _ _ (with_first b (cut_at_colons bytes)) c d ∙ ap (with_first b) r.cut;
  spelled = ap (λ l. b ∷ l) r.spelled ∙ ap (λ l. l ++ (45 ∷ r.comment)) (sym (join_first b r.first r.later));
  some_first = λ h. omega arith;
  plain_first = ((c, d, q), r.plain_first);
  each = r.each;
  plain = r.plain;
}

chosen : (b : Bool) (n : ℕ) (o : Option ℕ) → cond b (Some n) o ≡ None → (b ≡ false) × (o ≡ None)
chosen true n o h = absurd (no_none n h)
chosen false n o h = (refl, h)

stale : (fresh : Bool) (place : ℕ) (o : Option ℕ) → cond fresh (Some place) o ≡ None
    → (fresh ≡ true → ⊥) × (o ≡ None)
stale true place o h = absurd (no_none place h)
stale false place o h = (λ t. false_true t, h)

found_from : (fresh : Bool) (place : ℕ) (bytes : List ℕ) → AllByRecursion (λ b. b ≢ 10) bytes
    → wrong_version fresh place bytes ≡ None → Found fresh bytes
found_from fresh place [] q h = absurd (no_none place h)
found_from fresh place (b ∷ bytes) q h = elim (cases_eq b 58) [
  | inl is ↦
      let old = stale fresh place (wrong_version true (place + 1) bytes) (sym (colon_step fresh place b bytes is) ∙ h) in
      found_colon fresh place b bytes is (found_from true (place + 1) bytes q.1 old.1) old.0
  | inr c ↦ elim (cases_eq b 45) [
    | inl is ↦ found_dash fresh b bytes is q (stale fresh place None (sym (dash_step fresh place b bytes is) ∙ h)).0
    | inr d ↦ found_plain fresh b bytes c d q.0 (found_from false (place + 1) bytes q.1 (sym (plain_step fresh place b bytes c d) ∙ h))
  ]
]

same_step : (x y : ℕ) (xs ys : List ℕ) → x ≡ y
    → common_prefix_len nat_eq (x ∷ xs) (y ∷ ys) ≡ 1 + common_prefix_len nat_eq xs ys
same_step x y xs ys is = ap (λ t. cond t (1 + common_prefix_len nat_eq xs ys) 0) ((Decides-eqb x y).1 is)

other_step : (x y : ℕ) (xs ys : List ℕ) → x ≢ y → common_prefix_len nat_eq (x ∷ xs) (y ∷ ys) ≡ 0
other_step x y xs ys other = ap (λ t. cond t (1 + common_prefix_len nat_eq xs ys) 0) (differs x y other)

prefix_is : (p line : List ℕ) → length p ≤ common_prefix_len nat_eq line p
    → line ≡ p ++ drop (length p) line
prefix_is [] line h = refl
prefix_is (x ∷ p) [] h = absurd (omega arith)
prefix_is (x ∷ p) (y ∷ line) h = elim (cases_eq y x) [
  | inl same ↦ ap (λ z. z ∷ line) same ∙ ap (λ l. x ∷ l) (prefix_is p line (omega (arith, h, same_step y x line p same)))
  | inr other ↦ absurd (omega (arith, h, other_step y x line p other))
]

pub back : (p xs : List ℕ) → AllByRecursion (λ b. b ≢ 10) (p ++ xs)
    → AllByRecursion (λ b. b ≢ 10) xs
back [] xs h = h
back (x ∷ p) xs h = back p xs h.1

pub line_spelled : (line : List ℕ) → AllByRecursion (λ b. b ≢ 10) line → first_wrong_place line ≡ None
    → (comment : List ℕ) × IsLine (versions line) comment line
line_spelled line q h =
    let t = chosen (nat_lt (common_prefix_len nat_eq line (codes "venti-")) 6) (common_prefix_len nat_eq line (codes "venti-")) (wrong_version true 6 (drop 6 line)) h in
    let far : 6 ≤ common_prefix_len nat_eq line (codes "venti-") = grind (arith, nat_tests, t.0) in
    let start : line ≡ codes "venti-" ++ drop 6 line = prefix_is (codes "venti-") line far in
    let r = found_from true 6 (drop 6 line) (back (codes "venti-") (drop 6 line) (subst (λ l. AllByRecursion (λ b. b ≢ 10) l) start q)) t.1 in
    let all : AllByRecursion IsVersion (r.first ∷ r.later) = (record { some = r.some_first refl; plain = r.plain_first }, r.each) in
    (r.comment, subst (λ vs. IsLine vs r.comment line) (sym r.cut) (record { some = omega arith; each = all; plain = r.plain; spelled = start ∙ ap (λ l. codes "venti-" ++ l) r.spelled }))

-- ---- the first wrong byte

-- The bytes before place p begin a line, and from the byte there on nothing makes it good.
record Wrong (fresh : Bool) (place : ℕ) (bytes : List ℕ) (p : ℕ) : Type 0 where
  pub len : ℕ
  pub at : p ≡ place + len
  pub within : len ≤ length bytes
  pub more : List ℕ
  pub begins : Found fresh (take len bytes ++ more)
  pub stays : len < length bytes → (rest : List ℕ)
      → wrong_version fresh place (take (suc len) bytes ++ rest) ≡ Some p

-- a version and a dash, or a dash alone
version_more : Found true (48 ∷ 45 ∷ [])
version_more = found_plain true 48 (45 ∷ []) (λ h. omega arith) (λ h. omega arith) (λ h. omega arith) (found_dash false 45 [] refl ((λ h. omega arith), tt) (λ h. false_true h))

more_of : (fresh : Bool) → (more : List ℕ) × Found fresh more
more_of true = (48 ∷ 45 ∷ [], version_more)
more_of false = (45 ∷ [], found_dash false 45 [] refl ((λ h. omega arith), tt) (λ h. false_true h))

some_one : (a b : ℕ) → Some a ≡ Some b → a ≡ b
some_one a b h = cc

-- wrong at once
wrong_here : (fresh : Bool) (place b p : ℕ) (bytes : List ℕ)
    → ((rest : List ℕ) → wrong_version fresh place (b ∷ rest) ≡ Some p) → place ≡ p
    → Wrong fresh place (b ∷ bytes) p
wrong_here fresh place b p bytes all is =
    let m = more_of fresh in
    record { len = 0; at = omega (arith, is); within = omega arith; more = m.0; begins = m.1; stays = λ lt rest. all rest }

wrong_at : (fresh : Bool) (place : ℕ) (bytes : List ℕ) (p : ℕ) → AllByRecursion (λ b. b ≢ 10) bytes
    → wrong_version fresh place bytes ≡ Some p → Wrong fresh place bytes p
wrong_at fresh place [] p q h =
    let m = more_of fresh in
    let is : place ≡ p = some_one place p h in
    record { len = 0; at = omega (arith, is); within = omega arith; more = m.0; begins = m.1; stays = λ lt rest. absurd (omega arith) }
wrong_at true place (b ∷ bytes) p q h = elim (cases_eq b 58) [
  | inl is ↦ wrong_here true place b p bytes (λ rest. colon_step true place b rest is ∙ sym (colon_step true place b bytes is) ∙ h) (some_one place p (sym (colon_step true place b bytes is) ∙ h))
  | inr c ↦ elim (cases_eq b 45) [
    | inl is ↦ wrong_here true place b p bytes (λ rest. dash_step true place b rest is ∙ sym (dash_step true place b bytes is) ∙ h) (some_one place p (sym (dash_step true place b bytes is) ∙ h))
    | inr d ↦
        let r = wrong_at false (place + 1) bytes p q.1 (sym (plain_step true place b bytes c d) ∙ h) in
        record {
          len = suc r.len;
          at = omega (arith, r.at);
          within = omega (arith, r.within);
          more = r.more;
          begins = found_plain true b (take r.len bytes ++ r.more) c d q.0 r.begins;
          stays = λ lt rest. plain_step true place b (take (suc r.len) bytes ++ rest) c d ∙ r.stays (omega (arith, lt)) rest;
        }
  ]
]
wrong_at false place (b ∷ bytes) p q h = elim (cases_eq b 58) [
  | inl is ↦
      let r = wrong_at true (place + 1) bytes p q.1 (sym (colon_step false place b bytes is) ∙ h) in
      record {
        len = suc r.len;
        at = omega (arith, r.at);
        within = omega (arith, r.within);
        more = r.more;
        begins = found_colon false place b (take r.len bytes ++ r.more) is r.begins (λ t. false_true t);
        stays = λ lt rest. colon_step false place b (take (suc r.len) bytes ++ rest) is ∙ r.stays (omega (arith, lt)) rest;
      }
  | inr c ↦ elim (cases_eq b 45) [
    | inl is ↦ absurd (no_none p (sym (sym (dash_step false place b bytes is) ∙ h)))
    | inr d ↦
        let r = wrong_at false (place + 1) bytes p q.1 (sym (plain_step false place b bytes c d) ∙ h) in
        record {
          len = suc r.len;
          at = omega (arith, r.at);
          within = omega (arith, r.within);
          more = r.more;
          begins = found_plain false b (take r.len bytes ++ r.more) c d q.0 r.begins;
          stays = λ lt rest. plain_step false place b (take (suc r.len) bytes ++ rest) c d ∙ r.stays (omega (arith, lt)) rest;
        }
  ]
]

same_start : (xs ys : List ℕ)
    → take (common_prefix_len nat_eq xs ys) xs ≡ take (common_prefix_len nat_eq xs ys) ys
same_start [] ys = refl
same_start (x ∷ xs) [] = refl
same_start (x ∷ xs) (y ∷ ys) = elim (cases_eq x y) [
  | inl same ↦
      let k : common_prefix_len nat_eq (x ∷ xs) (y ∷ ys) ≡ suc (common_prefix_len nat_eq xs ys) = same_step x y xs ys same ∙ omega arith in
      ap (λ n. take n (x ∷ xs)) k ∙ ap (λ z. z ∷ take (common_prefix_len nat_eq xs ys) xs) same ∙ ap (λ l. y ∷ l) (same_start xs ys) ∙ sym (ap (λ n. take n (y ∷ ys)) k)
  | inr other ↦
      let k = other_step x y xs ys other in
      ap (λ n. take n (x ∷ xs)) k ∙ sym (ap (λ n. take n (y ∷ ys)) k)
]

start_le : (xs ys : List ℕ) → common_prefix_len nat_eq xs ys ≤ length xs
start_le [] ys = omega arith
start_le (x ∷ xs) [] = omega arith
start_le (x ∷ xs) (y ∷ ys) = elim (x == y) as (λ t. cond t (1 + common_prefix_len nat_eq xs ys) 0 ≤ length (x ∷ xs)) [ true ↦ omega (arith, start_le xs ys) | false ↦ omega arith ]

pub lt_true : (a b : ℕ) → a < b → nat_lt a b ≡ true
lt_true a b h = grind (arith, nat_tests)

pub lt_false : (a b : ℕ) → b ≤ a → nat_lt a b ≡ false
lt_false a b h = grind (arith, nat_tests)

parts_later : (x y : ℕ) (xs ys rest : List ℕ) (n : ℕ)
    → common_prefix_len nat_eq (x ∷ xs) (y ∷ ys) ≡ n → n < length (x ∷ xs) → n < length (y ∷ ys)
    → x ≡ y
    → ((m : ℕ) → common_prefix_len nat_eq xs ys ≡ m → m < length xs → m < length ys → common_prefix_len nat_eq (take (suc m) xs ++ rest) ys ≡ m)
    → common_prefix_len nat_eq (take (suc n) (x ∷ xs) ++ rest) (y ∷ ys) ≡ n
parts_later x y xs ys rest zero is p q same later = absurd (omega (arith, is, same_step x y xs ys same))
parts_later x y xs ys rest (suc n) is p q same later =
    same_step x y (take (suc n) xs ++ rest) ys same
    ∙ omega (arith, later n (omega (arith, is, same_step x y xs ys same)) (omega (arith, p)) (omega (arith, q)))

-- where two lists part is not changed by what stands behind
parts_there : (xs ys rest : List ℕ) (n : ℕ) → common_prefix_len nat_eq xs ys ≡ n → n < length xs
    → n < length ys → common_prefix_len nat_eq (take (suc n) xs ++ rest) ys ≡ n
parts_there [] ys rest n is p q = absurd (omega arith)
parts_there (x ∷ xs) [] rest n is p q = absurd (omega arith)
parts_there (x ∷ xs) (y ∷ ys) rest n is p q = elim (cases_eq x y) [
  | inl same ↦ parts_later x y xs ys rest n is p q same (λ m. parts_there xs ys rest m)
  | inr other ↦ other_step x y (take n xs ++ rest) ys other ∙ sym (other_step x y xs ys other) ∙ is
]

-- `venti-0-` is a line
least_line : IsLine ((48 ∷ []) ∷ []) [] (codes "venti-" ++ (48 ∷ 45 ∷ []))
least_line = record { some = omega arith; each = (record { some = omega arith; plain = (((λ h. omega arith), (λ h. omega arith), (λ h. omega arith)), tt) }, tt); plain = tt; spelled = refl }

wrong_start : (line : List ℕ) (p : ℕ) → common_prefix_len nat_eq line (codes "venti-") < 6
    → common_prefix_len nat_eq line (codes "venti-") ≡ p
    → (p ≤ length line) × ((offered : List (List ℕ)) × (comment : List ℕ) × (more : List ℕ) × IsLine offered comment (take p line ++ more))
    × (p < length line → (rest : List ℕ) → first_wrong_place (take (suc p) line ++ rest) ≡ Some p)
wrong_start line p few is =
    let v = codes "venti-" in
    let start : take p line ≡ take p v = subst (λ n. take n line ≡ take n v) is (same_start line v) in
    let all : take p line ++ (drop p v ++ (48 ∷ 45 ∷ [])) ≡ v ++ (48 ∷ 45 ∷ []) =
    ap (λ l. l ++ (drop p v ++ (48 ∷ 45 ∷ []))) start ∙ sym (append_assoc (take p v) (drop p v) (48 ∷ 45 ∷ [])) ∙ ap (λ l. l ++ (48 ∷ 45 ∷ [])) (take-append-drop p v) in (
      omega (arith, is, start_le line v),
      ((48 ∷ []) ∷ [], [], drop p v ++ (48 ∷ 45 ∷ []), subst (IsLine ((48 ∷ []) ∷ []) []) (sym all) least_line),
      λ lt rest.
          let same : common_prefix_len nat_eq (take (suc p) line ++ rest) v ≡ p = parts_there line v rest p is lt (omega (arith, few, is)) in
          ap (λ n. cond (nat_lt n 6) (Some n) (wrong_version true 6 (drop 6 (take (suc p) line ++ rest)))) same
          ∙ ap (λ t. cond t (Some p) (wrong_version true 6 (drop 6 (take (suc p) line ++ rest)))) (lt_true p 6 (omega (arith, few, is))),
    )

wrong_behind : (line rest : List ℕ) (p : ℕ) → line ≡ codes "venti-" ++ rest
    → AllByRecursion (λ b. b ≢ 10) line → wrong_version true 6 rest ≡ Some p
    → (p ≤ length line) × ((offered : List (List ℕ)) × (comment : List ℕ) × (more : List ℕ) × IsLine offered comment (take p line ++ more))
    × (p < length line → (rest : List ℕ) → first_wrong_place (take (suc p) line ++ rest) ≡ Some p)
wrong_behind line rest p is q h =
    let v = codes "venti-" in
    let r = wrong_at true 6 rest p (back v rest (subst (λ l. AllByRecursion (λ b. b ≢ 10) l) is q)) h in
    let b = r.begins in
    let len : length line ≡ 6 + length rest = ap length is ∙ omega arith in
    let front : take p line ≡ v ++ take r.len rest = ap (λ n. take n line) r.at ∙ ap (take (6 + r.len)) is ∙ take-append-add v rest r.len in
    let place : suc p ≡ 6 + suc r.len = omega (arith, r.at) in
    let next : take (suc p) line ≡ v ++ take (suc r.len) rest = ap (λ n. take n line) place ∙ ap (take (6 + suc r.len)) is ∙ take-append-add v rest (suc r.len) in
    let line_is : take p line ++ r.more ≡ v ++ (take r.len rest ++ r.more) = ap (λ l. l ++ r.more) front ∙ append_assoc v (take r.len rest) r.more in
    let all : AllByRecursion IsVersion (b.first ∷ b.later) = (record { some = b.some_first refl; plain = b.plain_first }, b.each) in
    let good : IsLine (b.first ∷ b.later) b.comment (v ++ (take r.len rest ++ r.more)) = record { some = omega arith; each = all; plain = b.plain; spelled = ap (λ l. v ++ l) b.spelled } in (
      omega (arith, r.at, r.within, len),
      (b.first ∷ b.later, b.comment, r.more, subst (IsLine (b.first ∷ b.later) b.comment) (sym line_is) good),
      λ lt more.
          let x = take (suc r.len) rest ++ more in
          ap first_wrong_place (ap (λ l. l ++ more) next ∙ append_assoc v (take (suc r.len) rest) more) ∙ behind_start x ∙ r.stays (omega (arith, lt, r.at, len)) more,
    )

pub line_wrong : (line : List ℕ) (p : ℕ) → AllByRecursion (λ b. b ≢ 10) line
    → first_wrong_place line ≡ Some p
    → (p ≤ length line) × ((offered : List (List ℕ)) × (comment : List ℕ) × (more : List ℕ) × IsLine offered comment (take p line ++ more))
    × (p < length line → (rest : List ℕ) → first_wrong_place (take (suc p) line ++ rest) ≡ Some p)
line_wrong line p q h = elim (cases_lt (common_prefix_len nat_eq line (codes "venti-")) 6) [
  | inl few ↦ wrong_start line p few (some_one _ p (sym (ap (λ t. cond t (Some (common_prefix_len nat_eq line (codes "venti-"))) (wrong_version true 6 (drop 6 line))) (lt_true _ 6 few)) ∙ h))
  | inr far ↦
      let w = sym (ap (λ t. cond t (Some (common_prefix_len nat_eq line (codes "venti-"))) (wrong_version true 6 (drop 6 line))) (lt_false _ 6 far)) ∙ h in
      wrong_behind line (drop 6 line) p (prefix_is (codes "venti-") line far) q w
]
