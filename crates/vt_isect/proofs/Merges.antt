-- Entries that are put into a bucket one after another.
use Rattle.std.proofs.Common.{◌≡◌, ◌≢◌, ◌⊎◌, inl, inr, ⊎_elim, ℕ, zero, suc, ◌+◌, ◌<◌, List, [], ◌∷◌, ◌++◌, length, length-append, get_or, take, drop, take-append-drop, refl, sym, ap, ◌∙◌, subst, arith}
use Rattle.std.specs.List.{All, AllPairs, Contains}
use Rattle.std.proofs.lemmas.List.Elements.{All-contains, All-contains_itself, Contains-append_cases, Contains-append_left, Contains-append_right, Contains-push, Contains-push_cases}
use Rattle.std.proofs.Math.Seq.{drop-cons}
use Rattle.std.proofs.lemmas.List.Kept.{AllPairs-cons}
use Rattle.std.specs.declared.cmp.Ordering.{Ordering}
use Rattle.std.specs.declared.cmp.Ordering.TheVariants.{Less, Equal, Greater}
use Rattle.vt_base.specs.declared.key.Key.{Key}
use Rattle.vt_base.specs.declared.place.Entry.{Entry}
use Rattle.vt_bucket.specs.Buckets.{PutsEntry}
use Rattle.vt_bucket.specs.Order.{IsAscending}
use Rattle.vt_base.specs.Key.{key_cmp}
use Rattle.vt_bucket.proofs.Keys.{equal_keys, not_below_itself, turned}
use Rattle.vt_isect.specs.Merging.{Merges, HasKey, HasKeys, IsAbsentEntry, Joined}

-- two keys are the same or aren't
pub decide_keys : (a b : Key) → (a ≡ b) ⊎ (a ≢ b)
decide_keys a b = by (key_cmp a b) refl
  where
    by : (o : Ordering) → key_cmp a b ≡ o → (a ≡ b) ⊎ (a ≢ b)
    by Less e = inr (λ same. not_below_itself b (ap (λ (k : Key). key_cmp k b) (sym same) ∙ e))
    by Equal e = inl (equal_keys a b e)
    by Greater e = inr (λ same. not_below_itself b (turned b b (ap (λ (k : Key). key_cmp k b) (sym same) ∙ e)))

-- nothing is put
pub merges_none : (old : List Entry) (group : List Entry) → group ≡ [] → Merges old (Contains group) old
merges_none old group none = record {
  from = λ entry has. inr (has, λ it. no it.0 it.1);
  keeps = λ entry has. ⊎_elim (λ (was : Contains old entry). (entry, was, refl)) (λ (of : Contains group entry). absurd (no entry of)) has;
}
  where
    no : (entry : Entry) → ¬ Contains group entry
    no entry has = let e : length group ≡ 0 = ap length none in omega (arith, has.1)

-- one more is
pub merges_more : (old mid new : List Entry) (front : List Entry) (y : Entry)
    → Merges old (Contains front) mid → PutsEntry mid y new → Merges old (Contains (front ++ y ∷ [])) new
merges_more old mid new front y before put = record {
  from = λ entry has. ⊎_elim
      (λ (is : entry ≡ y). inl (subst (λ (e : Entry). Contains (front ++ y ∷ []) e) (sym is) (Contains-push front y)))
      (λ (had : Contains mid entry × (entry.key ≢ y.key)). ⊎_elim
      (λ (of : Contains front entry). inl (Contains-append_left front (y ∷ []) entry of))
      (λ was. inr (
        was.0,
        λ it. ⊎_elim
            (λ (in_front : Contains front it.0). was.1 (it.0, in_front, it.2))
            (λ (is : y ≡ it.0). had.1 (sym it.2 ∙ sym (ap (λ (e : Entry). e.key) is)))
            (Contains-push_cases front y it.0 it.1),
      ))
      (before.from entry had.0))
      ((put entry).0 has);
  keeps = λ entry has. ⊎_elim
      (λ (was : Contains old entry). still entry (before.keeps entry (inl was)))
      (λ (of : Contains (front ++ y ∷ []) entry). ⊎_elim
      (λ (in_front : Contains front entry). still entry (before.keeps entry (inr in_front)))
      (λ (is : y ≡ entry). (y, (put y).1 (inl refl), ap (λ (e : Entry). e.key) is))
      (Contains-push_cases front y entry of))
      has;
}
  where
    still : (entry : Entry) → HasKey (Contains mid) entry.key → HasKey (Contains new) entry.key
    still entry it = ⊎_elim
        (λ (same : it.0.key ≡ y.key). (y, (put y).1 (inl refl), sym same ∙ it.2))
        (λ (other : it.0.key ≢ y.key). (it.0, (put it.0).1 (inr (it.1, other)), it.2))
        (decide_keys it.0.key y.key)

-- ---- keys, each counted once

pub cons_cases : (y : Entry) (xs : List Entry) (entry : Entry) → Contains (y ∷ xs) entry
    → Contains xs entry ⊎ (y ≡ entry)
cons_cases y xs entry (zero, within, is) = inr is
cons_cases y xs entry (suc k, within, is) = inl (k, omega (arith, within), is)

pub in_cons : (y : Entry) (xs : List Entry) (entry : Entry) → Contains xs entry → Contains (y ∷ xs) entry
in_cons y xs entry has = (suc has.0, omega (arith, has.1), has.2)

-- lists of different keys, one behind the other
pairs_append : (R : Entry → Entry → Type 0) (xs ys : List Entry) → AllPairs R xs → AllPairs R ys
    → ((a b : Entry) → Contains xs a → Contains ys b → R a b) → AllPairs R (xs ++ ys)
pairs_append R [] ys front behind across = behind
pairs_append R (x ∷ xs) ys front behind across =
    AllPairs-cons R x (xs ++ ys)
    (λ i d within. each (get_or (xs ++ ys) i d) (All-contains_itself (xs ++ ys) i d within))
    (pairs_append R xs ys
    (λ i j d low high. front (suc i) (suc j) d (omega (arith, low)) (omega (arith, high))) behind
    (λ a b has there. across a b (in_cons x xs a has) there))
  where
    each : (entry : Entry) → Contains (xs ++ ys) entry → R x entry
    each entry has = ⊎_elim
        (λ (it : Contains xs entry). subst (λ (e : Entry). R x e) it.2
        (front 0 (suc it.0) entry (omega arith) (omega (arith, it.1))))
        (λ (it : Contains ys entry). across x entry (zero, omega arith, refl) it)
        (Contains-append_cases xs ys entry has)

pub no_key_none : (key : Key) (front : List Entry) → front ≡ [] → ¬ HasKey (Contains front) key
no_key_none key front none it =
    let e : length front ≡ 0 = ap length none in omega (arith, it.1.1, e)

pub no_key_more : (key : Key) (front : List Entry) (y : Entry) → ¬ HasKey (Contains front) key
    → y.key ≢ key → ¬ HasKey (Contains (front ++ y ∷ [])) key
no_key_more key front y none other it = ⊎_elim
    (λ (has : Contains front it.0). none (it.0, has, it.2))
    (λ (is : y ≡ it.0). other (ap (λ (e : Entry). e.key) is ∙ it.2))
    (Contains-push_cases front y it.0 it.1)

-- one more is
pub keys_more : (old : List Entry) (front : List Entry) (y : Entry) (count : ℕ) → ¬ HasKey (Contains old) y.key
    → ¬ HasKey (Contains front) y.key → HasKeys (IsAbsentEntry old (Contains front)) count
    → HasKeys (IsAbsentEntry old (Contains (front ++ y ∷ []))) (count + 1)
keys_more old front y count absent fresh before = record {
  some = y ∷ before.some;
  count_is = omega (arith, before.count_is);
  distinct = AllPairs-cons (λ (a b : Entry). a.key ≢ b.key) y before.some
      (λ i d within same. fresh (
        get_or before.some i d,
        (before.each (get_or before.some i d) (All-contains_itself before.some i d within)).0,
        sym same,
      ))
      before.distinct;
  each = λ entry has. ⊎_elim
      (λ (was : Contains before.some entry).
      let it = before.each entry was in
      (Contains-append_left front (y ∷ []) entry it.0, it.1))
      (λ (is : y ≡ entry). subst (λ (e : Entry). IsAbsentEntry old (Contains (front ++ y ∷ [])) e) is
      (Contains-push front y, absent))
      (cons_cases y before.some entry has);
  all = λ entry it. ⊎_elim
      (λ (was : Contains front entry).
      let found = before.all entry (was, it.1) in
      (found.0, in_cons y before.some found.0 found.1, found.2))
      (λ (is : y ≡ entry). (y, (zero, omega arith, refl), ap (λ (e : Entry). e.key) is))
      (Contains-push_cases front y entry it.0);
}

-- an entry isn't whose key is there already
pub keys_same : (old : List Entry) (front : List Entry) (y : Entry) (count : ℕ)
    → HasKey (Contains old) y.key ⊎ HasKey (Contains front) y.key
    → HasKeys (IsAbsentEntry old (Contains front)) count
    → HasKeys (IsAbsentEntry old (Contains (front ++ y ∷ []))) count
keys_same old front y count other before = record {
  some = before.some;
  count_is = before.count_is;
  distinct = before.distinct;
  each = λ entry has.
      let it = before.each entry has in
      (Contains-append_left front (y ∷ []) entry it.0, it.1);
  all = λ entry it. ⊎_elim
      (λ (was : Contains front entry). before.all entry (was, it.1))
      (λ (is : y ≡ entry). held entry is it)
      (Contains-push_cases front y entry it.0);
}
  where
    held : (entry : Entry) → y ≡ entry → IsAbsentEntry old (Contains (front ++ y ∷ [])) entry
        → HasKey (Contains before.some) entry.key
    held entry is it =
        let key : y.key ≡ entry.key = ap (λ (e : Entry). e.key) is in
        ⊎_elim
        (λ (has : HasKey (Contains old) y.key). absurd (it.1 (has.0, has.1, has.2 ∙ key)))
        (λ (has : HasKey (Contains front) y.key).
        let same : has.0.key ≡ entry.key = has.2 ∙ key in
        let found = before.all has.0 (has.1, λ was. it.1 (was.0, was.1, was.2 ∙ same)) in
        (found.0, found.1, found.2 ∙ same))
        other

-- what is in the front is in the whole
pub in_whole : (xs : List Entry) (i : ℕ) (entry : Entry) → Contains (take i xs) entry → Contains xs entry
in_whole xs i entry has = subst (λ (l : List Entry). Contains l entry) (take-append-drop i xs) (Contains-append_left (take i xs) (drop i xs) entry has)

pub in_rest : (xs : List Entry) (i : ℕ) (entry : Entry) → Contains (drop i xs) entry
    → Contains xs entry
in_rest xs i entry has =
    subst (λ (l : List Entry). Contains l entry) (take-append-drop i xs)
    (Contains-append_right (take i xs) (drop i xs) entry has)

-- a key is there or isn't
pub decide_held : (key : Key) (xs : List Entry) → HasKey (Contains xs) key ⊎ (¬ HasKey (Contains xs) key)
decide_held key [] = inr (no_key_none key [] refl)
decide_held key (x ∷ xs) = ⊎_elim
    (λ (same : x.key ≡ key). inl (x, (zero, omega arith, refl), same))
    (λ (other : x.key ≢ key). ⊎_elim
    (λ (has : HasKey (Contains xs) key). inl (has.0, in_cons x xs has.0 has.1, has.2))
    (λ (none : ¬ HasKey (Contains xs) key). inr (λ it. ⊎_elim
    (λ (was : Contains xs it.0). none (it.0, was, it.2))
    (λ (is : x ≡ it.0). other (ap (λ (e : Entry). e.key) is ∙ it.2))
    (cons_cases x xs it.0 it.1)))
    (decide_held key xs))
    (decide_keys x.key key)

-- A full bucket, and the entries that were still to be put into it: so many keys it would have.
pub keys_joined : (old mid : List Entry) (xs : List Entry) (i count : ℕ)
    → length mid ≡ 263 → IsAscending mid → Merges old (Contains (take i xs)) mid
    → HasKeys (IsAbsentEntry mid (Contains (drop i xs))) count
    → HasKeys (Joined old (Contains xs)) (263 + count)
keys_joined old mid xs i count full ascending merged absent = record {
  some = mid ++ absent.some;
  count_is = omega (arith, length-append mid absent.some, full, absent.count_is);
  distinct = pairs_append (λ (a b : Entry). a.key ≢ b.key) mid absent.some
      (λ k j d low high same. not_below_itself (get_or mid j d).key
      (ap (λ (key : Key). key_cmp key (get_or mid j d).key) (sym same) ∙ ascending k j d low high))
      absent.distinct
      (λ a b has there same. (absent.each b there).1 (a, has, same));
  each = λ entry has. ⊎_elim
      (λ (here : Contains mid entry). ⊎_elim
      (λ (of : Contains (take i xs) entry). inr (in_whole xs i entry of))
      (λ was. inl was.0)
      (merged.from entry here))
      (λ (there : Contains absent.some entry).
      inr (in_rest xs i entry (absent.each entry there).0))
      (Contains-append_cases mid absent.some entry has);
  all = λ entry it. ⊎_elim
      (λ (was : Contains old entry). left entry.key (merged.keeps entry (inl was)))
      (λ (of : Contains xs entry). ⊎_elim
      (λ (front : Contains (take i xs) entry). left entry.key (merged.keeps entry (inr front)))
      (λ (rest : Contains (drop i xs) entry). by_key entry rest)
      (Contains-append_cases (take i xs) (drop i xs) entry
      (subst (λ (l : List Entry). Contains l entry) (sym (take-append-drop i xs)) of)))
      it;
}
  where
    left : (key : Key) → HasKey (Contains mid) key → HasKey (Contains (mid ++ absent.some)) key
    left key has = (has.0, Contains-append_left mid absent.some has.0 has.1, has.2)

    by_key : (entry : Entry) → Contains (drop i xs) entry → HasKey (Contains (mid ++ absent.some)) entry.key
    by_key entry rest = ⊎_elim
        (λ (has : HasKey (Contains mid) entry.key). left entry.key has)
        (λ (none : ¬ HasKey (Contains mid) entry.key).
        let it = absent.all entry (rest, none) in
        (it.0, Contains-append_right mid absent.some it.0 it.1, it.2))
        (decide_held entry.key mid)

-- the one that found no room is among them
pub some_keys : (mid : List Entry) (group : Entry → Type 0) (y : Entry) (count : ℕ) → group y
    → All (λ other. other.key ≢ y.key) mid → HasKeys (IsAbsentEntry mid group) count → 0 < count
some_keys mid group y count of others keys =
    let it = keys.all y (of, λ has. All-contains (λ (e : Entry). e.key ≢ y.key) mid has.0 others has.1 has.2) in
    omega (arith, it.1.1, keys.count_is)

-- what stands at a place is behind it
pub first_of_rest : (xs : List Entry) (i : ℕ) (y : Entry) → i < length xs → get_or xs i y ≡ y
    → Contains (drop i xs) y
first_of_rest xs i y within is =
    subst (λ (l : List Entry). Contains l y) (sym (drop-cons xs i y within))
    (zero, omega arith, is)
