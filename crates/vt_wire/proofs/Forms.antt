-- Parameters are read in one way, and where they stop being spelled is decided.
use Rattle.std.proofs.Common.{◌≡◌, ◌≢◌, ℕ, zero, suc, ◌≤◌, ◌==◌, ◌||◌, true, List, [], ◌∷◌, ◌++◌, length, take, drop, get_or, refl, sym, ◌∙◌, ap, subst, arith, append_assoc, length-append, ◌⊎◌, inl, inr}
use Rattle.std.specs.List.{All}
use Rattle.std.proofs.lemmas.Bool.{cases_eq, cases_lt, or_cases}
use Rattle.std.proofs.lemmas.Bool.Decides.{Decides-eqb}
use Rattle.std.proofs.lemmas.List.{take-append-drop, length-take-le}
use Rattle.std.proofs.lemmas.List.Elements.{All-nil, All-cons, All-head, All-tail}
use Rattle.byteorder.specs.Endian.{big_bytes, big_number}
use Rattle.byteorder.specs.Numbers.{big_number-reads_back}
use Rattle.vt_base.specs.Bytes.{AreBytes}
use Rattle.vt_base.specs.NumberFields.{big_bytes-number}
use Rattle.vt_wire.specs.Fields.{string, IsText, counted_field, Form, bytes_of, a_string, a_list, to_the_end, BeginsWithForm, IsFirstBad}
use Rattle.vt_wire.proofs.Frames.{same_front}
use Rattle.vt_wire.proofs.Messages.{text_counted, same_string}

-- what stands behind a parameter is determined
pub Begins-one : (form : Form) (bytes r s : List ℕ) → BeginsWithForm form bytes r → BeginsWithForm form bytes s
    → r ≡ s
Begins-one (bytes_of len) bytes r s x y = (same_front x.0 y.0 r s (x.1 ∙ sym y.1) (sym x.2 ∙ y.2)).1
Begins-one a_string bytes r s x y = (same_string x.0 y.0 r s x.1 y.1 (sym x.2 ∙ y.2)).1
Begins-one a_list bytes r s x y =
    let both : counted_field x.0 ++ r ≡ counted_field y.0 ++ s = sym x.2 ∙ y.2 in
    let len : length x.0 ≡ length y.0 = cc in
    let rest : x.0 ++ r ≡ y.0 ++ s = cc in
    (same_front x.0 y.0 r s len rest).1
Begins-one to_the_end bytes r s x y = x ∙ sym y

-- one parameter is the first that isn't spelled
pub first_bad_one : (forms : List Form) (bytes : List ℕ) (m n : ℕ) → IsFirstBad forms bytes m
    → IsFirstBad forms bytes n → m ≡ n
first_bad_one [] bytes m n x y = x.1 ∙ sym y.1
first_bad_one (form ∷ forms) bytes zero zero x y = refl
first_bad_one (form ∷ forms) bytes zero (suc n) x y = absurd (x y.0 y.1)
first_bad_one (form ∷ forms) bytes (suc m) zero x y = absurd (y x.0 x.1)
first_bad_one (form ∷ forms) bytes (suc m) (suc n) x y =
    ap suc (first_bad_one forms x.0 m n x.2 (subst (λ r. IsFirstBad forms r n) (Begins-one form bytes y.0 x.0 y.1 x.1) y.2))

-- the bytes are parameters of these forms
abbrev pub AreSpelled : List Form → List ℕ → Type 0
AreSpelled [] bytes = bytes ≡ []
AreSpelled (form ∷ forms) bytes = (rest : List ℕ) × BeginsWithForm form bytes rest × AreSpelled forms rest

-- then none of them is the first that isn't
pub none_bad : (forms : List Form) (bytes : List ℕ) (n : ℕ) → AreSpelled forms bytes
    → IsFirstBad forms bytes n → ⊥
none_bad [] bytes n x y = y.0 x
none_bad (form ∷ forms) bytes zero x y = y x.0 x.1
none_bad (form ∷ forms) bytes (suc n) x y =
    none_bad forms x.0 n x.2 (subst (λ r. IsFirstBad forms r n) (Begins-one form bytes y.0 x.0 y.1 x.1) y.2)

-- what holds at six numbers
pub at_six : (P : ℕ → Type 0) (a b c d e f type : ℕ)
    → (type == a || type == b || type == c || type == d || type == e || type == f) ≡ true
    → P a → P b → P c → P d → P e → P f → P type
at_six P a b c d e f type known pa pb pc pd pe pf =
    let at : (n : ℕ) → (type == n) ≡ true → P n → P type =
    λ n is p. subst P (sym ((Decides-eqb type n).0 is)) p in
    elim (or_cases _ _ known) [
      | inr is ↦ at f is pf
      | inl to_e ↦ elim (or_cases _ _ to_e) [
        | inr is ↦ at e is pe
        | inl to_d ↦ elim (or_cases _ _ to_d) [
          | inr is ↦ at d is pd
          | inl to_c ↦ elim (or_cases _ _ to_c) [
            | inr is ↦ at c is pc
            | inl to_b ↦ elim (or_cases _ _ to_b) [
              | inr is ↦ at b is pb
              | inl is ↦ at a is pa
            ]
          ]
        ]
      ]
    ]

-- a field of one byte
pub one_byte : (xs : List ℕ) → length xs ≡ 1 → xs ≡ get_or xs 0 0 ∷ []
one_byte [] len = absurd (omega arith)
one_byte (x ∷ []) len = refl
one_byte (x ∷ y ∷ xs) len = absurd (omega arith)

-- ---- strings

-- what a string at the front says of the bytes
pub string_back : (bytes text rest : List ℕ) → IsText text → bytes ≡ string text ++ rest
    → (2 ≤ length bytes) × (big_number 2 bytes ≡ length text) × (drop 2 bytes ≡ text ++ rest)
string_back bytes text rest is e =
    let parts : bytes ≡ big_bytes 2 (length text) ++ (text ++ rest) = e ∙ append_assoc (big_bytes 2 (length text)) text rest in (
      omega (arith, ap length parts),
      ap (big_number 2) parts ∙ big_number-reads_back 2 (length text) (text ++ rest) (text_counted text is),
      ap (drop 2) parts,
    )

-- a whole string at the front
pub string_is : (bytes : List ℕ) → AreBytes bytes → 2 ≤ length bytes
    → big_number 2 bytes ≤ length (drop 2 bytes)
    → bytes ≡ string (take (big_number 2 bytes) (drop 2 bytes)) ++ drop (big_number 2 bytes) (drop 2 bytes)
string_is bytes are two enough =
    let n = big_number 2 bytes in
    let text = take n (drop 2 bytes) in
    let rest = drop n (drop 2 bytes) in
    let size : big_bytes 2 (length text) ≡ take 2 bytes = ap (big_bytes 2) (length-take-le n (drop 2 bytes) enough) ∙ big_bytes-number 2 bytes two are in
    sym (take-append-drop 2 bytes) ∙ ap (λ l. take 2 bytes ++ l) (sym (take-append-drop n (drop 2 bytes))) ∙ ap (λ l. l ++ (text ++ rest)) (sym size)
    ∙ sym (append_assoc (big_bytes 2 (length text)) text rest)

-- what stands in the only string that can stand at the front
pub string_value : (bytes text rest : List ℕ) → AreBytes bytes → IsText text
    → bytes ≡ string text ++ rest → text ≡ take (big_number 2 bytes) (drop 2 bytes)
string_value bytes text rest are is e =
    let b = string_back bytes text rest is e in
    let n : big_number 2 bytes ≡ length text = b.1 in
    (same_front text (take (big_number 2 bytes) (drop 2 bytes)) rest (drop (big_number 2 bytes) (drop 2 bytes))
    (sym n ∙ sym (length-take-le (big_number 2 bytes) (drop 2 bytes) (omega (arith, n, ap length b.2, length-append text rest))))
    (sym b.2 ∙ sym (take-append-drop (big_number 2 bytes) (drop 2 bytes)))).0

nonzero_or : (xs : List ℕ) → All (λ b. b ≢ 0) xs ⊎ (All (λ b. b ≢ 0) xs → ⊥)
nonzero_or [] = inl (All-nil (λ b. b ≢ 0))
nonzero_or (x ∷ xs) = elim (cases_eq x 0) [
  | inl is ↦ inr (λ all. All-head (λ b. b ≢ 0) x xs all is)
  | inr not ↦ elim (nonzero_or xs) [
    | inl all ↦ inl (All-cons (λ b. b ≢ 0) x xs not all)
    | inr some ↦ inr (λ all. some (All-tail (λ b. b ≢ 0) x xs all))
  ]
]

-- ---- whether a parameter of a form stands at the front

abbrev BeginsOrNot : Form → List ℕ → Type 0
BeginsOrNot form bytes = ((rest : List ℕ) × BeginsWithForm form bytes rest) ⊎ ((rest : List ℕ) → ¬ BeginsWithForm form bytes rest)

bytes_or : (len : ℕ) (bytes : List ℕ) → BeginsOrNot (bytes_of len) bytes
bytes_or len bytes = elim (cases_lt (length bytes) len) [
  | inl few ↦ inr (λ rest x. omega (arith, few, x.1, ap length x.2, length-append x.0 rest))
  | inr enough ↦ inl (drop len bytes, (take len bytes, length-take-le len bytes enough, sym (take-append-drop len bytes)))
]

string_or : (bytes : List ℕ) → AreBytes bytes → BeginsOrNot a_string bytes
string_or bytes are =
    let n = big_number 2 bytes in
    let text = take n (drop 2 bytes) in
    elim (cases_lt (length bytes) 2) [
      | inl few ↦ inr (λ rest x. omega (arith, few, (string_back bytes x.0 rest x.1 x.2).0))
      | inr two ↦ elim (cases_lt (length (drop 2 bytes)) n) [
        | inl few ↦ inr (λ rest x. let b = string_back bytes x.0 rest x.1 x.2 in omega (arith, few, b.1, ap length b.2, length-append x.0 rest))
        | inr enough ↦ elim (cases_lt 1024 (length text)) [
          | inl long ↦ inr (λ rest x. let short : length x.0 ≤ 1024 = x.1.short in omega (arith, long, short, ap length (string_value bytes x.0 rest are x.1 x.2)))
          | inr short ↦ elim (nonzero_or text) [
            | inl all ↦ inl (drop n (drop 2 bytes), (text, record { short = short; nonzero = all }, string_is bytes are two enough))
            | inr some ↦ inr (λ rest x. some (subst (All (λ b. b ≢ 0)) (string_value bytes x.0 rest are x.1 x.2) x.1.nonzero))
          ]
        ]
      ]
    ]

list_or : (bytes : List ℕ) → AreBytes bytes → BeginsOrNot a_list bytes
list_or [] are = inr (λ rest x. omega (arith, ap length x.2, length-append (counted_field x.0) rest))
list_or (n ∷ bytes) are = elim (cases_lt (length bytes) n) [
  | inl few ↦ inr (λ rest x.
      let e : n ∷ bytes ≡ counted_field x.0 ++ rest = x.2 in
      let size : n ≡ length x.0 = cc in
      let tail : bytes ≡ x.0 ++ rest = cc in
      omega (arith, few, size, ap length tail, length-append x.0 rest))
  | inr enough ↦
      let len : length (take n bytes) ≡ n = length-take-le n bytes enough in
      inl (
        drop n bytes,
        (
          take n bytes,
          omega (arith, len, are 0),
          ap (λ l. n ∷ l) (sym (take-append-drop n bytes)) ∙ ap (λ k. k ∷ (take n bytes ++ drop n bytes)) (sym len),
        ),
      )
]

form_or : (form : Form) (bytes : List ℕ) → AreBytes bytes → BeginsOrNot form bytes
form_or (bytes_of len) bytes are = bytes_or len bytes
form_or a_string bytes are = string_or bytes are
form_or a_list bytes are = list_or bytes are
form_or to_the_end bytes are = inl ([], refl)

pub bytes-back : (xs ys : List ℕ) → AreBytes (xs ++ ys) → AreBytes ys
bytes-back [] ys are = are
bytes-back (x ∷ xs) ys are = bytes-back xs ys (λ i. are (suc i))

pub bytes-front : (xs ys : List ℕ) → AreBytes (xs ++ ys) → AreBytes xs
bytes-front [] ys are i = omega arith
bytes-front (x ∷ xs) ys are zero = are 0
bytes-front (x ∷ xs) ys are (suc i) = bytes-front xs ys (λ j. are (suc j)) i

pub bytes-behind : (form : Form) (bytes rest : List ℕ) → AreBytes bytes → BeginsWithForm form bytes rest
    → AreBytes rest
bytes-behind (bytes_of len) bytes rest are x = bytes-back x.0 rest (subst AreBytes x.2 are)
bytes-behind a_string bytes rest are x = bytes-back (string x.0) rest (subst AreBytes x.2 are)
bytes-behind a_list bytes rest are x = bytes-back (counted_field x.0) rest (subst AreBytes x.2 are)
bytes-behind to_the_end bytes rest are x = subst AreBytes (sym x) (λ i. omega arith)

-- parameters of these forms are spelled, or one is the first that isn't
pub spelled_or : (forms : List Form) (bytes : List ℕ) → AreBytes bytes
    → AreSpelled forms bytes ⊎ ((n : ℕ) × IsFirstBad forms bytes n)
spelled_or [] [] are = inl refl
spelled_or [] (b ∷ bytes) are = inr (0, ((λ e. cc), refl))
spelled_or (form ∷ forms) bytes are = elim (form_or form bytes are) [
  | inl x ↦ elim (spelled_or forms x.0 (bytes-behind form bytes x.0 are x.1)) [
    | inl later ↦ inl (x.0, x.1, later)
    | inr p ↦ inr (suc p.0, (x.0, x.1, p.1))
  ]
  | inr none ↦ inr (0, none)
]
