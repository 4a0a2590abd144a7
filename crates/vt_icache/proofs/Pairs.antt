-- Pairs of a key and a value, each value under its own key.
use Rattle.std.proofs.Common.{◌≡◌, ◌≢◌, ℕ, zero, suc, ◌<◌, ◌-◌, Bool, true, false, cond, ◌&&◌, ◌==◌, List, [], ◌∷◌, ◌++◌, map, length, take, slice_get, Option, None, Some, refl, sym, ap, subst, ◌∙◌, true≢false, arith, length-take, get_or, Result, Ok, Err}
use Rattle.std.specs.Prelude.{IsPermutation, IsOk, OnOk, IsTrue, IfSome, is_some, ◌↔◌}
use Rattle.std.specs.List.{AllByRecursion, AllPairs, IsDistinct, find}
use Rattle.std.specs.Map.{lookup, lookup_entry, remove_entry, keys_of}
use Rattle.std.specs.Option.{option_map, option_map_or}
use Rattle.std.specs.Str.{bytes_eq}
use Rattle.std.proofs.lemmas.List.{get_or-take}
use Rattle.std.proofs.lemmas.List.Elements.{All-from_recursion, recursion_from_All}
use Rattle.std.proofs.lemmas.List.Sorted.{All-permutation}
use Rattle.std.proofs.lemmas.List.Kept.{AllPairs-cons}
use Rattle.std.proofs.lemmas.Map.Keys.{IsDistinct-head, IsDistinct-tail}
use Rattle.std.proofs.lemmas.Option.{slice_get-get_or}
use Rattle.std.proofs.lemmas.Bool.Decides.{Decides-eqb, same_from_decides}
use Rattle.std.proofs.lemmas.Slice.Eq.{bytes_eq-Decides}
use Rattle.lru.specs.LruCache.{promoted}
use Rattle.vt_base.specs.Key.{same_key}
use Rattle.vt_base.specs.declared.key.Key.{Key}
use Rattle.vt_base.specs.declared.place.Entry.{Entry}
use Rattle.vt_icache.specs.Index.{without_first, recent, with_clean, is_entry_of}

module _ {K X : Type 0} (key : X → K) where
  abbrev pub AreKeyed : List (K × X) → Type 0
  AreKeyed es = AllByRecursion (λ (e : K × X). key e.1 ≡ e.0) es

  abbrev pub values : List (K × X) → List X
  values es = map (λ (e : K × X). e.1) es

  pub keyed_take : (n : ℕ) (es : List (K × X)) → AreKeyed es → AreKeyed (take n es)
  keyed_take zero es keyed = tt
  keyed_take (suc n) [] keyed = tt
  keyed_take (suc n) (e ∷ es) keyed = (keyed.0, keyed_take n es keyed.1)

  pub values_take : (n : ℕ) (es : List (K × X)) → values (take n es) ≡ take n (values es)
  values_take zero es = refl
  values_take (suc n) [] = refl
  values_take (suc n) (e ∷ es) = ap (λ (l : List X). e.1 ∷ l) (values_take n es)

  pub keyed_push : (es : List (K × X)) (e : K × X) → AreKeyed es → key e.1 ≡ e.0 → AreKeyed (es ++ e ∷ [])
  keyed_push [] e keyed is = (is, tt)
  keyed_push (f ∷ es) e keyed is = (keyed.0, keyed_push es e keyed.1 is)

  pub values_push : (es : List (K × X)) (e : K × X) → values (es ++ e ∷ []) ≡ values es ++ e.1 ∷ []
  values_push [] e = refl
  values_push (f ∷ es) e = ap (λ (l : List X). f.1 ∷ l) (values_push es e)

  module _ (test : K → Bool) where
    abbrev own : X → Bool
    own x = test (key x)

    pub found : (es : List (K × X)) → AreKeyed es → lookup test es ≡ find own (values es)
    found [] keyed = refl
    found (e ∷ es) keyed =
        ap (λ (b : Bool). cond b (Some e.1) (lookup test es)) (ap test (sym keyed.0))
        ∙ ap (λ (o : Option X). cond (test (key e.1)) (Some e.1) o) (found es keyed.1)

    pub found_entry : (es : List (K × X)) → AreKeyed es
        → option_map (λ (e : K × X). e.1) (lookup_entry test es) ≡ find own (values es)
    found_entry [] keyed = refl
    found_entry (e ∷ es) keyed = (elim (test e.0) as (λ (y : Bool). test e.0 ≡ y
        → option_map (λ (f : K × X). f.1) (cond y (Some e) (lookup_entry test es)) ≡ find own (values (e ∷ es))) [
          | true ↦ λ t. rw (keyed.0, t)
          | false ↦ λ t. rw (keyed.0, t) (found_entry es keyed.1)
        ]) refl

    pub removed : (es : List (K × X)) → AreKeyed es
        → values (remove_entry test es) ≡ without_first own (values es)
    removed [] keyed = refl
    removed (e ∷ es) keyed = (elim (test e.0) as (λ (y : Bool). test e.0 ≡ y
        → values (cond y es (e ∷ remove_entry test es)) ≡ without_first own (values (e ∷ es))) [
          | true ↦ λ t. rw (keyed.0, t)
          | false ↦ λ t. rw (keyed.0, t) (ap (λ (l : List X). e.1 ∷ l) (removed es keyed.1))
        ]) refl

    pub keyed_removed : (es : List (K × X)) → AreKeyed es → AreKeyed (remove_entry test es)
    keyed_removed [] keyed = tt
    keyed_removed (e ∷ es) keyed = elim (test e.0) as (λ (y : Bool). AreKeyed (cond y es (e ∷ remove_entry test es))) [
      | true ↦ keyed.1
      | false ↦ (keyed.0, keyed_removed es keyed.1)
    ]

    pub entry_keyed : (es : List (K × X)) (e : K × X) → AreKeyed es → lookup_entry test es ≡ Some e → key e.1 ≡ e.0
    entry_keyed [] e keyed is = cc
    entry_keyed (f ∷ es) e keyed is = (elim (test f.0) as (λ (y : Bool). cond y (Some f) (lookup_entry test es) ≡ Some e → key e.1 ≡ e.0) [
      | true ↦ λ at. let same : f ≡ e = cc in subst (λ (g : K × X). key g.1 ≡ g.0) same keyed.0
      | false ↦ λ at. entry_keyed es e keyed.1 at
    ]) is

    moved : (es : List (K × X)) → AreKeyed es → (o : Option (K × X)) → lookup_entry test es ≡ o
        → values (option_map_or (λ (e : K × X). e ∷ remove_entry test es) o es) ≡ recent own (values es)
    moved es keyed None is =
        let none : find own (values es) ≡ None = sym (found_entry es keyed) ∙ ap (option_map (λ (e : K × X). e.1)) is in
        rw none
    moved es keyed (Some e) is =
        let some : find own (values es) ≡ Some e.1 = sym (found_entry es keyed) ∙ ap (option_map (λ (f : K × X). f.1)) is in
        rw some (ap (λ (l : List X). e.1 ∷ l) (removed es keyed))

    pub values_promoted : (es : List (K × X)) → AreKeyed es → values (promoted test es) ≡ recent own (values es)
    values_promoted es keyed = moved es keyed (lookup_entry test es) refl

    keyed_moved : (es : List (K × X)) → AreKeyed es → (o : Option (K × X)) → lookup_entry test es ≡ o
        → AreKeyed (option_map_or (λ (e : K × X). e ∷ remove_entry test es) o es)
    keyed_moved es keyed None is = keyed
    keyed_moved es keyed (Some e) is = (entry_keyed es e keyed is, keyed_removed es keyed)

    pub keyed_promoted : (es : List (K × X)) → AreKeyed es → AreKeyed (promoted test es)
    keyed_promoted es keyed = keyed_moved es keyed (lookup_entry test es) refl

  -- what is found passes
  pub found_passes : (test : K → Bool) (es : List (K × X)) (x : X) → AreKeyed es → lookup test es ≡ Some x → test (key x) ≡ true
  found_passes test [] x keyed is = cc
  found_passes test (e ∷ es) x keyed is = (elim (test e.0) as (λ (y : Bool). test e.0 ≡ y → cond y (Some e.1) (lookup test es) ≡ Some x → test (key x) ≡ true) [
    | true ↦ λ t at. let same : e.1 ≡ x = cc in ap test (ap key (sym same) ∙ keyed.0) ∙ t
    | false ↦ λ t at. found_passes test es x keyed.1 at
  ]) refl is

  pub values_length : (es : List (K × X)) → length (values es) ≡ length es
  values_length [] = refl
  values_length (e ∷ es) = ap suc (values_length es)

  -- the values but the last
  pub but_last : (es : List (K × X)) → values (take (length es - 1) es) ≡ take (length (values es) - 1) (values es)
  but_last es = values_take (length es - 1) es ∙ ap (λ (n : ℕ). take (n - 1) (values es)) (sym (values_length es))

  pub some_last : (es : List (K × X)) → IsTrue (is_some (slice_get es (length es - 1))) ↔ (0 < length (values es))
  some_last [] = (λ t. absurd (true≢false (sym t)), λ lt. absurd (omega (arith, lt)))
  some_last (e ∷ es) = (
    λ t. omega arith,
    λ lt. ap is_some (slice_get-get_or (e ∷ es) (length (e ∷ es) - 1) e (omega arith)),
  )

  -- the pair of a value
  pub pair_at : (es : List (K × X)) (i : ℕ) (x : X) → AreKeyed es → slice_get (values es) i ≡ Some x → slice_get es i ≡ Some (key x, x)
  pair_at [] i x keyed is = cc
  pair_at (e ∷ es) zero x keyed is =
      let same : e.1 ≡ x = cc in
      let first : e.0 ≡ key x = sym keyed.0 ∙ ap key same in
      λ k. Some (first k, same k)
  pair_at (e ∷ es) (suc i) x keyed is = pair_at es i x keyed.1 is

both_true : (p q : Bool) → (p && q) ≡ true → (p ≡ true) × (q ≡ true)
both_true true q e = (refl, e)
both_true false q e = absurd (true≢false (sym e))

-- keys that aren't told apart are the same
pub equal_keys : (a b : Key) → same_key a b ≡ true → a ≡ b
equal_keys a b same =
    let both = both_true (bytes_eq a.score.0 b.score.0) (a.kind == b.kind) same in
    let scores : a.score.0 ≡ b.score.0 = (bytes_eq-Decides a.score.0 b.score.0).0 both.0 in
    let kinds : a.kind ≡ b.kind = (Decides-eqb a.kind b.kind).0 both.1 in
    λ i. record { score = record { 0 = scores i }; kind = kinds i }

pub same_as_itself : (a : Key) → same_key a a ≡ true
same_as_itself a =
    rw ((bytes_eq-Decides a.score.0 a.score.0).1 refl, (Decides-eqb a.kind a.kind).1 refl)

pub same_turned : (a b : Key) → same_key a b ≡ same_key b a
same_turned a b = same_from_decides (same_key a b) (same_key b a)
    (equal_keys a b, λ (e : a ≡ b). ap (same_key a) (sym e) ∙ same_as_itself a)
    (λ t. sym (equal_keys b a t), λ (e : a ≡ b). ap (same_key b) e ∙ same_as_itself b)

-- Of pairs with different keys, none before the one at a place has its key.
pub none_before : {X : Type 0} (es : List (Key × X)) (i : ℕ) (k : Key) (x : X)
    → IsDistinct same_key (keys_of es) → slice_get es i ≡ Some (k, x)
    → lookup (same_key k) (take i es) ≡ None
none_before [] i k x distinct at = cc
none_before (e ∷ es) zero k x distinct at = refl
none_before (e ∷ es) (suc i) k x distinct at =
    let ih = none_before es i k x (IsDistinct-tail same_key e.0 (keys_of es) distinct) at in
    let other : same_key k e.0 ≡ false = same_turned k e.0
    ∙ key_at es i k x (λ y. same_key e.0 y ≡ false) (IsDistinct-head same_key e.0 (keys_of es) distinct) at in
    rw other ih
  where
    key_at : {X : Type 0} (es : List (Key × X)) (i : ℕ) (k : Key) (x : X) (P : Key → Type 0)
        → AllByRecursion P (keys_of es) → slice_get es i ≡ Some (k, x) → P k
    key_at [] i k x P all at = cc
    key_at (e ∷ es) zero k x P all at = let same : e ≡ (k, x) = cc in subst (λ (g : Key × _). P g.0) same all.0
    key_at (e ∷ es) (suc i) k x P all at = key_at es i k x P all.1 at

pub from_ok : {T E : Type 0} (r : Result T E) (P : Type 0) → IsOk r → OnOk r P → P
from_ok (Ok x) P ok p = p
from_ok (Err e) P ok p = absurd (true≢false (sym ok))

-- no two dirty entries have one key
module _ {X : Type 0} (key : X → Key) where
  other_than : (k : Key) (es : List (Key × X)) → AreKeyed key es → AllByRecursion (λ (y : Key). same_key k y ≡ false) (keys_of es)
      → (i : ℕ) (d : X) → i < length (values key es) → k ≢ key (get_or (values key es) i d)
  other_than k [] keyed apart i d lt = absurd (omega (arith, lt))
  other_than k (e ∷ es) keyed apart zero d lt = λ is.
      let same : e.0 ≡ k = sym keyed.0 ∙ sym is in
      true≢false (sym (same_as_itself k) ∙ ap (same_key k) (sym same) ∙ apart.0)
  other_than k (e ∷ es) keyed apart (suc i) d lt = other_than k es keyed.1 apart.1 i d (omega (arith, lt))

  pub apart : (es : List (Key × X)) → AreKeyed key es → IsDistinct same_key (keys_of es)
      → AllPairs (λ (a b : X). key a ≢ key b) (values key es)
  apart [] keyed distinct = λ i j d low high. absurd (omega (arith, high))
  apart (e ∷ es) keyed distinct = AllPairs-cons (λ (a b : X). key a ≢ key b) e.1 (values key es)
      (λ i d within is. other_than e.0 es keyed.1 (IsDistinct-head same_key e.0 (keys_of es) distinct) i d within (sym keyed.0 ∙ is))
      (apart es keyed.1 (IsDistinct-tail same_key e.0 (keys_of es) distinct))

  -- the same of the first n
  pub apart_front : (es : List (Key × X)) (n : ℕ) → AreKeyed key es → IsDistinct same_key (keys_of es)
      → AllPairs (λ (a b : X). key a ≢ key b) (take n (values key es))
  apart_front es n keyed distinct = λ i j d low high.
      let len = length-take n (values key es) in
      let here : get_or (take n (values key es)) i d ≡ get_or (values key es) i d = get_or-take n (values key es) i d (omega (arith, low, high, len)) in
      let there : get_or (take n (values key es)) j d ≡ get_or (values key es) j d = get_or-take n (values key es) j d (omega (arith, high, len)) in
      λ is. apart es keyed distinct i j d low (omega (arith, high, len)) (ap key (sym here) ∙ is ∙ ap key there)

module _ {K X : Type 0} (key : X → K) where
  -- the value of the pair at a place
  pub value_at : (es : List (K × X)) (i : ℕ) (e : K × X) → slice_get es i ≡ Some e → slice_get (values key es) i ≡ Some e.1
  value_at [] i e is = cc
  value_at (f ∷ es) zero e is = let same : f ≡ e = cc in ap (λ (g : K × X). Some g.1) same
  value_at (f ∷ es) (suc i) e is = value_at es i e is

pub slice_get_front : {X : Type 0} (xs : List X) (i n : ℕ) → i < n → slice_get (take n xs) i ≡ slice_get xs i
slice_get_front xs i zero lt = absurd (omega (arith, lt))
slice_get_front [] i (suc n) lt = refl
slice_get_front (x ∷ xs) zero (suc n) lt = refl
slice_get_front (x ∷ xs) (suc i) (suc n) lt = slice_get_front xs i n (omega (arith, lt))

-- an entry that is found has the key that was asked for
pub own_key : (key : Key) (es : List (Key × Entry)) → AreKeyed (λ (x : Entry). x.key) es → (o : Option Entry) → o ≡ lookup (same_key key) es
    → IfSome o (λ entry. entry.key ≡ key)
own_key key es keyed None is = tt
own_key key es keyed (Some e) is = sym (equal_keys key e.key (found_passes (λ (x : Entry). x.key) (same_key key) es e keyed (sym is)))

-- ---- facts of each pair

module _ {K X : Type 0} (P : K × X → Type 0) where
  pub all_take : (n : ℕ) (es : List (K × X)) → AllByRecursion P es → AllByRecursion P (take n es)
  all_take zero es all = tt
  all_take (suc n) [] all = tt
  all_take (suc n) (e ∷ es) all = (all.0, all_take n es all.1)

  pub all_push : (es : List (K × X)) (e : K × X) → AllByRecursion P es → P e → AllByRecursion P (es ++ e ∷ [])
  all_push [] e all p = (p, tt)
  all_push (f ∷ es) e all p = (all.0, all_push es e all.1 p)

  pub all_permuted : (xs ys : List (K × X)) → IsPermutation xs ys → AllByRecursion P xs → AllByRecursion P ys
  all_permuted xs ys same all = recursion_from_All P ys (All-permutation P xs ys same (All-from_recursion P xs all))

module _ {K X : Type 0} (P : K × X → Type 0) (test : K → Bool) where
  pub all_removed : (es : List (K × X)) → AllByRecursion P es → AllByRecursion P (remove_entry test es)
  all_removed [] all = tt
  all_removed (e ∷ es) all = elim (test e.0) as (λ (y : Bool). AllByRecursion P (cond y es (e ∷ remove_entry test es))) [
    | true ↦ all.1
    | false ↦ (all.0, all_removed es all.1)
  ]

  pub of_entry : (es : List (K × X)) (e : K × X) → AllByRecursion P es → lookup_entry test es ≡ Some e → P e
  of_entry [] e all is = cc
  of_entry (f ∷ es) e all is = (elim (test f.0) as (λ (y : Bool). cond y (Some f) (lookup_entry test es) ≡ Some e → P e) [
    | true ↦ λ at. let same : f ≡ e = cc in subst P same all.0
    | false ↦ λ at. of_entry es e all.1 at
  ]) is

  moved_all : (es : List (K × X)) → AllByRecursion P es → (o : Option (K × X)) → lookup_entry test es ≡ o
      → AllByRecursion P (option_map_or (λ (e : K × X). e ∷ remove_entry test es) o es)
  moved_all es all None is = all
  moved_all es all (Some e) is = (of_entry es e all is, all_removed es all)

  pub all_promoted : (es : List (K × X)) → AllByRecursion P es → AllByRecursion P (promoted test es)
  all_promoted es all = moved_all es all (lookup_entry test es) refl

  entry_passes : (es : List (K × X)) (e : K × X) → lookup_entry test es ≡ Some e → test e.0 ≡ true
  entry_passes [] e is = cc
  entry_passes (f ∷ es) e is = (elim (test f.0) as (λ (y : Bool). test f.0 ≡ y → cond y (Some f) (lookup_entry test es) ≡ Some e → test e.0 ≡ true) [
    | true ↦ λ t at. let same : f ≡ e = cc in subst (λ (g : K × X). test g.0 ≡ true) same t
    | false ↦ λ t at. entry_passes es e at
  ]) refl is

  -- what `put` leaves
  pub all_put : (es : List (K × X)) (k : K) (v : X) (room : ℕ) → AllByRecursion P es → P (k, v) → ((e : K × X) → test e.0 ≡ true → P (e.0, v))
      → AllByRecursion P (option_map_or (λ (e : K × X). (e.0, v) ∷ remove_entry test es) (lookup_entry test es) ((k, v) ∷ take room es))
  all_put es k v room all new old = by (lookup_entry test es) refl
    where
      by : (o : Option (K × X)) → lookup_entry test es ≡ o
          → AllByRecursion P (option_map_or (λ (e : K × X). (e.0, v) ∷ remove_entry test es) o ((k, v) ∷ take room es))
      by None is = (new, all_take P room es all)
      by (Some e) is = (old e (entry_passes es e is), all_removed es all)

-- the values after `put`
pub values_put : (es : List (Key × Entry)) (v : Entry) (room : ℕ) → AreKeyed (λ (x : Entry). x.key) es
    → values (λ (x : Entry). x.key) (option_map_or (λ (e : Key × Entry). (e.0, v) ∷ remove_entry (same_key v.key) es)
    (lookup_entry (same_key v.key) es) ((v.key, v) ∷ take (room - 1) es))
    ≡ with_clean v room (values (λ (x : Entry). x.key) es)
values_put es v room keyed = by (lookup_entry (same_key v.key) es) refl
  where
    by : (o : Option (Key × Entry)) → lookup_entry (same_key v.key) es ≡ o
        → values (λ (x : Entry). x.key) (option_map_or (λ (e : Key × Entry). (e.0, v) ∷ remove_entry (same_key v.key) es) o
        ((v.key, v) ∷ take (room - 1) es))
        ≡ with_clean v room (values (λ (x : Entry). x.key) es)
    by None is =
        let none : find (is_entry_of v.key) (values (λ (x : Entry). x.key) es) ≡ None =
        sym (found_entry (λ (x : Entry). x.key) (same_key v.key) es keyed) ∙ ap (option_map (λ (e : Key × Entry). e.1)) is in
        rw none (ap (λ (l : List Entry). v ∷ l) (values_take (λ (x : Entry). x.key) (room - 1) es))
    by (Some e) is =
        let some : find (is_entry_of v.key) (values (λ (x : Entry). x.key) es) ≡ Some e.1 =
        sym (found_entry (λ (x : Entry). x.key) (same_key v.key) es keyed) ∙ ap (option_map (λ (f : Key × Entry). f.1)) is in
        rw some (ap (λ (l : List Entry). v ∷ l) (removed (λ (x : Entry). x.key) (same_key v.key) es keyed))

pub last_of : {X : Type 0} (xs : List X) (x d : X) → get_or (xs ++ x ∷ []) (length xs) d ≡ x
last_of [] x d = refl
last_of (y ∷ ys) x d = last_of ys x d
