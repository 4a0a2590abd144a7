-- Lists whose elements have different keys, and parts of lists.
use Rattle.std.proofs.Common.{◌≡◌, ◌≢◌, ⊎_elim, ℕ, zero, suc, ◌+◌, ◌<◌, ◌≤◌, Bool, true, false, cond, List, [], ◌∷◌, ◌++◌, length, get_or, map, filter, refl, sym, ◌∙◌, ap, subst, arith}
use Rattle.std.specs.Prelude.{IsPermutation}
use Rattle.std.specs.List.{AllPairs, Contains, count_by}
use Rattle.std.proofs.lemmas.Bool.{cases_lt}
use Rattle.std.proofs.lemmas.Bool.Decides.{Decides-ltb}
use Rattle.std.proofs.lemmas.List.Elements.{Contains-get_or, Contains-append_left, Contains-append_right, Contains-append_cases}
use Rattle.std.proofs.lemmas.List.Kept.{AllPairs-cons}
use Rattle.std.proofs.lemmas.List.Sorted.{sum_by-IsPermutation}
use Rattle.std.proofs.lemmas.List.Sums.{sum_by-cons}
use Rattle.lru.proofs.Splits.{Contains-head, Contains-tail, Contains-cons, Contains-nil}
use Rattle.vt_base.specs.Key.{same_key}
use Rattle.vt_base.specs.declared.key.Key.{Key}
use Rattle.vt_base.specs.declared.place.Entry.{Entry}
use Rattle.vt_base.specs.declared.place.Info.{Info}
use Rattle.vt_icache.specs.Index.{entry_of, is_below, entries_below}
use Rattle.vt_icache.proofs.Pairs.{equal_keys, same_as_itself}

-- ---- parts of lists

pub from_map : {X Y : Type 0} (f : X → Y) (xs : List X) (y : Y) → Contains (map f xs) y → (x : X) × Contains xs x × (f x ≡ y)
from_map f [] y it = absurd (Contains-nil y it)
from_map f (x ∷ xs) y it = ⊎_elim
    (λ (is : f x ≡ y). (x, Contains-head x xs, is))
    (λ (in_rest : Contains (map f xs) y). let was = from_map f xs y in_rest in (was.0, Contains-tail x xs was.0 was.1, was.2))
    (Contains-cons (f x) (map f xs) y it)

pub to_map : {X Y : Type 0} (f : X → Y) (xs : List X) (x : X) → Contains xs x → Contains (map f xs) (f x)
to_map f [] x it = absurd (Contains-nil x it)
to_map f (y ∷ xs) x it = ⊎_elim
    (λ (is : y ≡ x). subst (λ z. Contains (f y ∷ map f xs) (f z)) is (Contains-head (f y) (map f xs)))
    (λ (in_rest : Contains xs x). Contains-tail (f y) (map f xs) (f x) (to_map f xs x in_rest))
    (Contains-cons y xs x it)

pub from_filter : {X : Type 0} (p : X → Bool) (xs : List X) (x : X) → Contains (filter p xs) x → Contains xs x × (p x ≡ true)
from_filter p [] x it = absurd (Contains-nil x it)
from_filter p (y ∷ xs) x it = (elim (p y) as (λ (b : Bool). p y ≡ b → Contains (cond b (y ∷ filter p xs) (filter p xs)) x → Contains (y ∷ xs) x × (p x ≡ true)) [
  | true ↦ λ t at. ⊎_elim
      (λ (is : y ≡ x). (subst (Contains (y ∷ xs)) is (Contains-head y xs), subst (λ z. p z ≡ true) is t))
      (λ (in_rest : Contains (filter p xs) x). let was = from_filter p xs x in_rest in (Contains-tail y xs x was.0, was.1))
      (Contains-cons y (filter p xs) x at)
  | false ↦ λ t at. let was = from_filter p xs x at in (Contains-tail y xs x was.0, was.1)
]) refl it

pub to_filter : {X : Type 0} (p : X → Bool) (xs : List X) (x : X) → Contains xs x → p x ≡ true → Contains (filter p xs) x
to_filter p [] x it t = absurd (Contains-nil x it)
to_filter p (y ∷ xs) x it t = ⊎_elim
    (λ (is : y ≡ x). subst (λ (b : Bool). Contains (cond b (y ∷ filter p xs) (filter p xs)) x) (sym (ap p is ∙ t))
    (subst (Contains (y ∷ filter p xs)) is (Contains-head y (filter p xs))))
    (λ (in_rest : Contains xs x). elim (p y) as (λ (b : Bool). Contains (cond b (y ∷ filter p xs) (filter p xs)) x) [
      | true ↦ Contains-tail y (filter p xs) x (to_filter p xs x in_rest t)
      | false ↦ to_filter p xs x in_rest t
    ])
    (Contains-cons y xs x it)

pub from_below : (below : ℕ) (dirty : List Info) (entry : Entry) → Contains (entries_below below dirty) entry
    → (info : Info) × Contains dirty info × (info.number < below) × (entry_of info ≡ entry)
from_below below dirty entry it =
    let one = from_map entry_of (filter (is_below below) dirty) entry it in
    let was = from_filter (is_below below) dirty one.0 one.1 in
    (one.0, was.0, (Decides-ltb one.0.number below).0 was.1, one.2)

pub to_below : (below : ℕ) (dirty : List Info) (info : Info) → Contains dirty info → info.number < below
    → Contains (entries_below below dirty) (entry_of info)
to_below below dirty info it lt =
    to_map entry_of (filter (is_below below) dirty) info (to_filter (is_below below) dirty info it ((Decides-ltb info.number below).1 lt))

filter_short : {X : Type 0} (p : X → Bool) (xs : List X) → length (filter p xs) ≤ length xs
filter_short p [] = omega arith
filter_short p (x ∷ xs) = elim (p x) as (λ (b : Bool). length (cond b (x ∷ filter p xs) (filter p xs)) ≤ suc (length xs)) [
  | true ↦ omega (arith, filter_short p xs)
  | false ↦ omega (arith, filter_short p xs)
]

pub map_length : {X Y : Type 0} (f : X → Y) (xs : List X) → length (map f xs) ≡ length xs
map_length f [] = refl
map_length f (x ∷ xs) = ap suc (map_length f xs)

pub below_short : (below : ℕ) (dirty : List Info) → length (entries_below below dirty) ≤ length dirty
below_short below dirty = omega (arith, map_length entry_of (filter (is_below below) dirty), filter_short (is_below below) dirty)

-- ---- different keys

module _ {X : Type 0} (key : X → Key) where
  abbrev pub AreApart : List X → Type 0
  AreApart xs = AllPairs (λ a b. key a ≢ key b) xs

  -- how many have a key
  many : Key → List X → ℕ
  many k [] = 0
  many k (x ∷ xs) = cond (same_key k (key x)) 1 0 + many k xs

  many_is : (k : Key) (xs : List X) → count_by (λ x. same_key k (key x)) xs ≡ many k xs
  unfolding many
  many_is k [] = refl
  many_is k (x ∷ xs) = sum_by-cons (λ y. cond (same_key k (key y)) 1 0) x xs ∙ ap (λ (n : ℕ). cond (same_key k (key x)) 1 0 + n) (many_is k xs)

  none_many : (k : Key) (xs : List X) → ((x : X) → Contains xs x → k ≢ key x) → many k xs ≡ 0
  unfolding many
  none_many k [] none = refl
  none_many k (x ∷ xs) none =
      let rest = none_many k xs (λ y it. none y (Contains-tail x xs y it)) in
      (elim (same_key k (key x)) as (λ (b : Bool). same_key k (key x) ≡ b → cond b 1 0 + many k xs ≡ 0) [
        | true ↦ λ t. absurd (none x (Contains-head x xs) (equal_keys k (key x) t))
        | false ↦ λ t. omega (arith, rest)
      ]) refl

  one_each : (k : Key) (xs : List X) → AreApart xs → many k xs ≤ 1
  unfolding many
  one_each k [] apart = omega arith
  one_each k (x ∷ xs) apart =
      let rest = one_each k xs (λ i j d lt within. apart (suc i) (suc j) d (omega (arith, lt)) (omega (arith, within))) in
      (elim (same_key k (key x)) as (λ (b : Bool). same_key k (key x) ≡ b → cond b 1 0 + many k xs ≤ 1) [
        | true ↦ λ t.
            let none = none_many k xs (λ y it is.
            apart 0 (suc it.0) y (omega arith) (let within = it.1 in omega (arith, within))
            (sym (equal_keys k (key x) t) ∙ is ∙ ap key (sym it.2))) in
            omega (arith, none)
        | false ↦ λ t. omega (arith, rest)
      ]) refl

  some_many : (k : Key) (xs : List X) (x : X) → Contains xs x → k ≡ key x → 1 ≤ many k xs
  unfolding many
  some_many k [] x it is = absurd (Contains-nil x it)
  some_many k (y ∷ ys) x it is = ⊎_elim
      (λ (same : y ≡ x).
      let yes : same_key k (key y) ≡ true = ap (same_key k) (ap key same ∙ sym is) ∙ same_as_itself k in
      rw yes (omega arith))
      (λ (rest : Contains ys x).
      let some = some_many k ys x rest is in
      elim (same_key k (key y)) as (λ (b : Bool). 1 ≤ cond b 1 0 + many k ys) [
        | true ↦ omega arith
        | false ↦ omega (arith, some)
      ])
      (Contains-cons y ys x it)

  from_one_each : (xs : List X) → ((k : Key) → many k xs ≤ 1) → AreApart xs
  unfolding many
  from_one_each [] most = λ i j d lt within. absurd (omega (arith, within))
  from_one_each (x ∷ xs) most = AllPairs-cons (λ a b. key a ≢ key b) x xs
      (λ i d within is.
      let some = some_many (key x) xs (get_or xs i d) (Contains-get_or xs i d within) is in
      let two : cond true 1 0 + many (key x) xs ≤ 1 =
      subst (λ (b : Bool). cond b 1 0 + many (key x) xs ≤ 1) (same_as_itself (key x)) (most (key x)) in
      omega (arith, some, two))
      (from_one_each xs (λ k. let it = most k in fewer k it))
    where
      fewer : (k : Key) → cond (same_key k (key x)) 1 0 + many k xs ≤ 1 → many k xs ≤ 1
      fewer k it = omega (arith, it)

  pub apart_permuted : (xs ys : List X) → IsPermutation xs ys → AreApart xs → AreApart ys
  apart_permuted xs ys same apart = from_one_each ys (λ k.
      let it = one_each k xs apart in
      let e : count_by (λ y. same_key k (key y)) ys ≡ count_by (λ y. same_key k (key y)) xs =
      sum_by-IsPermutation (λ y. cond (same_key k (key y)) 1 0) xs ys same in
      omega (arith, it, e, many_is k xs, many_is k ys))

  -- one key has one element
  pub one_of_key : (xs : List X) (a b : X) → AreApart xs → Contains xs a → Contains xs b → key a ≡ key b → a ≡ b
  one_of_key xs a b apart at_a at_b same = ⊎_elim
      (λ (lt : at_a.0 < at_b.0).
      absurd (apart at_a.0 at_b.0 a lt at_b.1 (ap key at_a.2 ∙ same ∙ ap key (sym (own at_b.0 at_b.1 a b ∙ at_b.2)))))
      (λ (ge : at_b.0 ≤ at_a.0). ⊎_elim
      (λ (gt : at_b.0 < at_a.0).
      absurd (apart at_b.0 at_a.0 b gt at_a.1 (ap key at_b.2 ∙ sym same ∙ ap key (sym (own at_a.0 at_a.1 b a ∙ at_a.2)))))
      (λ (le : at_a.0 ≤ at_b.0).
      let e : at_a.0 ≡ at_b.0 = omega (arith, ge, le) in
      sym at_a.2 ∙ ap (λ (k : ℕ). get_or xs k a) e ∙ own at_b.0 at_b.1 a b ∙ at_b.2)
      (cases_lt at_b.0 at_a.0))
      (cases_lt at_a.0 at_b.0)
    where
      own : (k : ℕ) → k < length xs → (d e : X) → get_or xs k d ≡ get_or xs k e
      own k lt d e = free xs k d e lt
        where
          free : (ys : List X) (i : ℕ) (p q : X) → i < length ys → get_or ys i p ≡ get_or ys i q
          free [] i p q within = absurd (omega (arith, within))
          free (y ∷ ys) zero p q within = refl
          free (y ∷ ys) (suc i) p q within = free ys i p q (omega (arith, within))

  -- two parts have no key in common, and the second one's keys differ
  pub apart_parts : (xs ys : List X) (a b : X) → AreApart (xs ++ ys) → Contains xs a → Contains ys b → key a ≢ key b
  apart_parts [] ys a b apart at_a at_b = λ is. absurd (Contains-nil a at_a)
  apart_parts (x ∷ xs) ys a b apart at_a at_b = λ is. ⊎_elim
      (λ (same : x ≡ a).
      let there = Contains-append_right xs ys b at_b in
      let within = there.1 in
      apart 0 (suc there.0) b (omega arith) (omega (arith, within)) (ap key same ∙ is ∙ ap key (sym there.2)))
      (λ (rest : Contains xs a).
      apart_parts xs ys a b (λ i j d lt within. apart (suc i) (suc j) d (omega (arith, lt)) (omega (arith, within))) rest at_b is)
      (Contains-cons x xs a at_a)

  pub apart_back : (xs ys : List X) → AreApart (xs ++ ys) → AreApart ys
  apart_back [] ys apart = apart
  apart_back (x ∷ xs) ys apart = apart_back xs ys (λ i j d lt within. apart (suc i) (suc j) d (omega (arith, lt)) (omega (arith, within)))

  pub apart_front : (xs ys : List X) → AreApart (xs ++ ys) → AreApart xs
  apart_front [] ys apart = λ i j d lt within. absurd (omega (arith, within))
  apart_front (x ∷ xs) ys apart = AllPairs-cons (λ a b. key a ≢ key b) x xs
      (λ i d within is.
      let there = Contains-append_left xs ys (get_or xs i d) (Contains-get_or xs i d within) in
      let at = there.1 in
      apart 0 (suc there.0) (get_or xs i d) (omega arith) (omega (arith, at)) (is ∙ ap key (sym there.2)))
      (apart_front xs ys (λ i j d lt within. apart (suc i) (suc j) d (omega (arith, lt)) (omega (arith, within))))

  pub apart_push : (xs : List X) (x : X) → AreApart xs → ((y : X) → Contains xs y → key y ≢ key x) → AreApart (xs ++ x ∷ [])
  apart_push [] x apart other = λ i j d lt within. absurd (omega (arith, lt, within))
  apart_push (y ∷ ys) x apart other = AllPairs-cons (λ a b. key a ≢ key b) y (ys ++ x ∷ [])
      (λ i d within is. ⊎_elim
      (λ (old : Contains ys (get_or (ys ++ x ∷ []) i d)).
      let lt = old.1 in
      apart 0 (suc old.0) (get_or (ys ++ x ∷ []) i d) (omega arith) (omega (arith, lt)) (is ∙ ap key (sym old.2)))
      (λ (new : Contains (x ∷ []) (get_or (ys ++ x ∷ []) i d)). ⊎_elim
      (λ (same : x ≡ get_or (ys ++ x ∷ []) i d). other y (Contains-head y ys) (is ∙ ap key (sym same)))
      (λ (no : Contains [] (get_or (ys ++ x ∷ []) i d)). absurd (Contains-nil _ no))
      (Contains-cons x [] _ new))
      (Contains-append_cases ys (x ∷ []) _ (Contains-get_or (ys ++ x ∷ []) i d within)))
      (apart_push ys x (λ i j d lt within. apart (suc i) (suc j) d (omega (arith, lt)) (omega (arith, within)))
      (λ z it. other z (Contains-tail y ys z it)))

-- two lists without a key in common
pub apart_append : {X : Type 0} (key : X → Key) (xs ys : List X) → AreApart key xs → AreApart key ys
    → ((a b : X) → Contains xs a → Contains ys b → key a ≢ key b) → AreApart key (xs ++ ys)
apart_append key [] ys apart others cross = others
apart_append key (x ∷ xs) ys apart others cross = AllPairs-cons (λ a b. key a ≢ key b) x (xs ++ ys)
    (λ i d within is. ⊎_elim
    (λ (own : Contains xs (get_or (xs ++ ys) i d)).
    let lt = own.1 in
    apart 0 (suc own.0) (get_or (xs ++ ys) i d) (omega arith) (omega (arith, lt)) (is ∙ ap key (sym own.2)))
    (λ (other : Contains ys (get_or (xs ++ ys) i d)). cross x (get_or (xs ++ ys) i d) (Contains-head x xs) other is)
    (Contains-append_cases xs ys (get_or (xs ++ ys) i d) (Contains-get_or (xs ++ ys) i d within)))
    (apart_append key xs ys (λ i j d lt within. apart (suc i) (suc j) d (omega (arith, lt)) (omega (arith, within))) others
    (λ a b at_a at_b. cross a b (Contains-tail x xs a at_a) at_b))

-- the entries of infos with different keys have different keys
pub entries_apart : (infos : List Info) → AreApart (λ (x : Info). x.key) infos → AreApart (λ (x : Entry). x.key) (map entry_of infos)
entries_apart [] apart = λ i j d lt within. absurd (omega (arith, within))
entries_apart (x ∷ xs) apart = AllPairs-cons (λ (a b : Entry). a.key ≢ b.key) (entry_of x) (map entry_of xs)
    (λ i d within is.
    let it = from_map entry_of xs (get_or (map entry_of xs) i d) (Contains-get_or (map entry_of xs) i d within) in
    let at = it.1.1 in
    apart 0 (suc it.1.0) it.0 (omega arith) (omega (arith, at))
    (is ∙ ap (λ (e : Entry). e.key) (sym it.2) ∙ ap (λ (y : Info). y.key) (sym it.1.2)))
    (entries_apart xs (λ i j d lt within. apart (suc i) (suc j) d (omega (arith, lt)) (omega (arith, within))))

pub filter_apart : {X : Type 0} (key : X → Key) (p : X → Bool) (xs : List X) → AreApart key xs → AreApart key (filter p xs)
filter_apart key p [] apart = apart
filter_apart key p (x ∷ xs) apart =
    let rest = filter_apart key p xs (λ i j d lt within. apart (suc i) (suc j) d (omega (arith, lt)) (omega (arith, within))) in
    elim (p x) as (λ (b : Bool). AreApart key (cond b (x ∷ filter p xs) (filter p xs))) [
      | true ↦ AllPairs-cons (λ a b. key a ≢ key b) x (filter p xs)
          (λ i d within is.
          let it = from_filter p xs (get_or (filter p xs) i d) (Contains-get_or (filter p xs) i d within) in
          let at = it.0.1 in
          apart 0 (suc it.0.0) (get_or (filter p xs) i d) (omega arith) (omega (arith, at)) (is ∙ ap key (sym it.0.2)))
          rest
      | false ↦ rest
    ]

pub below_apart : (below : ℕ) (dirty : List Info) → AreApart (λ (x : Info). x.key) dirty
    → AreApart (λ (x : Entry). x.key) (entries_below below dirty)
below_apart below dirty apart = entries_apart (filter (is_below below) dirty) (filter_apart (λ (x : Info). x.key) (is_below below) dirty apart)
