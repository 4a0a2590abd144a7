-- Strings one behind another.
use Rattle.std.proofs.Common.{◌≡◌, ◌≢◌, ℕ, zero, suc, ◌+◌, ◌<◌, ◌≤◌, List, [], ◌∷◌, ◌++◌, length, take, drop, refl, sym, ◌∙◌, ap, subst, arith, append_assoc, append-nil, length-append, take_at, drop_at}
use Rattle.std.specs.List.{AllByRecursion, flat_map}
use Rattle.byteorder.specs.Endian.{little_number}
use Rattle.byteorder.specs.Numbers.{little_number-reads_back}
use Rattle.nine_wire.specs.Messages.{string, IsString}
use Rattle.nine_wire.specs.Names.{names_in, SpellNames}
use Rattle.nine_wire.proofs.Strings.{same_string, NoString}

-- names in front of bytes are read back
pub names_back : (names : List (List ℕ)) (x : List ℕ) → AllByRecursion IsString names
    → names_in (length names) (flat_map string names ++ x) ≡ names
names_back [] x all = refl
names_back (text ∷ names) x all =
    let rest : List ℕ = flat_map string names ++ x in
    let front : flat_map string (text ∷ names) ++ x ≡ string text ++ rest =
    append_assoc (string text) (flat_map string names) x in
    let len : little_number 2 (string text ++ rest) ≡ length text =
    little_number-reads_back 2 (length text) (text ++ rest) all.0 in
    let first : take (little_number 2 (string text ++ rest)) (drop 2 (string text ++ rest)) ≡ text =
    ap (λ (n : ℕ). take n (text ++ rest)) len ∙ take_at text rest (length text) refl in
    let behind : drop (2 + little_number 2 (string text ++ rest)) (string text ++ rest) ≡ rest =
    ap (λ (n : ℕ). drop (2 + n) (string text ++ rest)) len
    ∙ drop_at (string text) rest (2 + length text) (omega arith) in
    let others : names_in (length names)
    (drop (2 + little_number 2 (string text ++ rest)) (string text ++ rest)) ≡ names =
    ap (names_in (length names)) behind ∙ names_back names x all.1 in
    ap (names_in (length (text ∷ names))) front ∙ (λ i. first i ∷ others i)

-- of two lists of strings in front of the same bytes, the shorter begins the longer
pub more_names : (a b : List (List ℕ)) (x y : List ℕ) → AllByRecursion IsString a
    → AllByRecursion IsString b → length a ≤ length b
    → flat_map string a ++ x ≡ flat_map string b ++ y
    → (more : List (List ℕ)) × (b ≡ a ++ more) × (x ≡ flat_map string more ++ y)
more_names [] b x y all each le same = (b, refl, same)
more_names (s ∷ a) [] x y all each le same = absurd (omega arith)
more_names (s ∷ a) (t ∷ b) x y all each le same =
    let one = same_string s t (flat_map string a ++ x) (flat_map string b ++ y) all.0 each.0
    (sym (append_assoc (string s) (flat_map string a) x) ∙ same
    ∙ append_assoc (string t) (flat_map string b) y) in
    let others = more_names a b x y all.1 each.1 (omega arith) one.1 in
    (others.0, (λ i. sym one.0 i ∷ others.1 i), others.2)

all_behind : (a more : List (List ℕ)) → AllByRecursion IsString (a ++ more)
    → AllByRecursion IsString more
all_behind [] more all = all
all_behind (s ∷ a) more all = all_behind a more all.1

-- where no string stands, there are no more names
pub no_more : (a b : List (List ℕ)) (bytes x : List ℕ) → AllByRecursion IsString a
    → length a < length b → bytes ≡ flat_map string a ++ x → NoString x → SpellNames b bytes → ⊥
no_more a b bytes x all less is none fill =
    let m = more_names a b x [] all fill.each (omega arith)
    (sym is ∙ fill.is ∙ sym (append-nil (flat_map string b))) in
    of m.0 m.1 m.2
  where
    of : (more : List (List ℕ)) → b ≡ a ++ more → x ≡ flat_map string more ++ [] → ⊥
    of [] e h = omega (arith, ap length e, length-append a ([]), less)
    of (t ∷ more) e h =
        let each = all_behind a (t ∷ more) (subst (AllByRecursion IsString) e fill.each) in
        none t (flat_map string more ++ []) each.0
        (h ∙ append_assoc (string t) (flat_map string more) [])

-- where something is left, these names aren't all
pub not_all : (a b : List (List ℕ)) (bytes x : List ℕ) → AllByRecursion IsString a
    → length a ≡ length b → bytes ≡ flat_map string a ++ x → x ≢ [] → SpellNames b bytes → ⊥
not_all a b bytes x all len is more fill =
    let m = more_names a b x [] all fill.each (omega (arith, len))
    (sym is ∙ fill.is ∙ sym (append-nil (flat_map string b))) in
    of m.0 m.1 m.2
  where
    of : (others : List (List ℕ)) → b ≡ a ++ others → x ≡ flat_map string others ++ [] → ⊥
    of [] e h = more h
    of (t ∷ others) e h = omega (arith, ap length e, length-append a (t ∷ others), len)

-- one name more
pub all_more : (a : List (List ℕ)) (text : List ℕ) → AllByRecursion IsString a → IsString text
    → AllByRecursion IsString (a ++ text ∷ [])
all_more [] text all is = (is, tt)
all_more (s ∷ a) text all is = (all.0, all_more a text all.1 is)

spelled_more : (a : List (List ℕ)) (text : List ℕ)
    → flat_map string (a ++ text ∷ []) ≡ flat_map string a ++ string text
spelled_more [] text = append-nil (string text)
spelled_more (s ∷ a) text =
    ap (λ (l : List ℕ). string s ++ l) (spelled_more a text)
    ∙ sym (append_assoc (string s) (flat_map string a) (string text))

pub read_more : (bytes : List ℕ) (a : List (List ℕ)) (text x y : List ℕ)
    → bytes ≡ flat_map string a ++ x → x ≡ string text ++ y
    → bytes ≡ flat_map string (a ++ text ∷ []) ++ y
read_more bytes a text x y is e =
    is ∙ ap (λ (l : List ℕ). flat_map string a ++ l) e
    ∙ sym (append_assoc (flat_map string a) (string text) y)
    ∙ ap (λ (l : List ℕ). l ++ y) (sym (spelled_more a text))

-- all names were read
pub filled : (bytes x : List ℕ) (a : List (List ℕ)) (count : ℕ) → AllByRecursion IsString a
    → length a ≡ count → bytes ≡ flat_map string a ++ x → length x ≡ 0
    → (names_in count bytes ≡ a) × SpellNames (names_in count bytes) bytes
filled bytes [] a count all len is none =
    let names : names_in count bytes ≡ a =
    (λ i. names_in (sym len i) (is i)) ∙ names_back a [] all in (
      names,
      subst (λ (l : List (List ℕ)). SpellNames l bytes) (sym names)
          (record { each = all; is = is ∙ append-nil (flat_map string a) }),
    )
filled bytes (b ∷ x) a count all len is none = absurd (omega (arith, none))

-- the first name and the others, of one more than n names
pub first_and_others : (n : ℕ) (bytes text rest : List ℕ) → SpellNames (names_in (n + 1) bytes) bytes
    → IsString text → bytes ≡ string text ++ rest
    → (names_in (n + 1) bytes ≡ text ∷ names_in n rest) × SpellNames (names_in n rest) rest
first_and_others n bytes text rest fill short is = of (names_in (n + 1) bytes) refl fill
  where
    names : names_in (n + 1) bytes ≡ text ∷ names_in n rest
    names =
        let len : little_number 2 bytes ≡ length text =
        ap (little_number 2) is ∙ little_number-reads_back 2 (length text) (text ++ rest) short in
        let first : take (little_number 2 bytes) (drop 2 bytes) ≡ text =
        (λ i. take (len i) (drop 2 (is i))) ∙ take_at text rest (length text) refl in
        let behind : drop (2 + little_number 2 bytes) bytes ≡ rest =
        (λ i. drop (2 + len i) (is i))
        ∙ drop_at (string text) rest (2 + length text) (omega arith) in
        let one : n + 1 ≡ suc n = omega arith in
        ap (λ (k : ℕ). names_in k bytes) one ∙ (λ i. first i ∷ names_in n (behind i))

    of : (all : List (List ℕ)) → all ≡ names_in (n + 1) bytes → SpellNames all bytes
        → (names_in (n + 1) bytes ≡ text ∷ names_in n rest) × SpellNames (names_in n rest) rest
    of all e full =
        let here : SpellNames (text ∷ names_in n rest) bytes =
        subst (λ (l : List (List ℕ)). SpellNames l bytes) (e ∙ names) full in
        let tail = same_string text text rest (flat_map string (names_in n rest)) short short
        (sym is ∙ here.is) in
        (names, record { each = here.each.1; is = tail.1 })

-- there are so many
pub names_len : (n : ℕ) (bytes : List ℕ) → length (names_in n bytes) ≡ n
names_len zero bytes = refl
names_len (suc n) bytes =
    ap suc (names_len n (drop (2 + little_number 2 bytes) bytes))
