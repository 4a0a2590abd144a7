-- Dirty entries that were written back become clean.
use Rattle.std.proofs.Common.{◌≡◌, ◌≢◌, ◌⊎◌, inl, inr, ⊎_elim, ℕ, zero, suc, ◌+◌, ◌-◌, ◌<◌, Bool, true, false, cond, List, [], ◌∷◌, ◌++◌, length, get_or, map, take, Option, Some, None, refl, sym, ◌∙◌, ap, subst, arith, true≢false}
use Rattle.std.specs.Prelude.{IsTrue, ◌↔◌}
use Rattle.std.specs.List.{Contains, find}
use Rattle.std.specs.Option.{option_map_or}
use Rattle.std.proofs.lemmas.List.{take_more}
use Rattle.std.proofs.lemmas.List.Elements.{All-nil, All-push, Contains-append_cases, Contains-append_right, Contains-get_or}
use Rattle.std.proofs.lemmas.List.Sorted.{Contains-permutation, IsPermutation-refl, IsPermutation-sym, IsPermutation-pop_more}
use Rattle.lru.proofs.CallerLemmas.{Contains-take}
use Rattle.lru.proofs.Splits.{Contains-head, Contains-tail, Contains-cons, Contains-nil}
use Rattle.vt_base.specs.Key.{same_key}
use Rattle.vt_base.specs.declared.place.Entry.{Entry}
use Rattle.vt_base.specs.declared.place.Info.{Info}
use Rattle.vt_icache.specs.Index.{IndexState, SettlesEntry, dirty_info, entry_of, is_entry_of, is_info_of, with_clean, without_first}
use Rattle.vt_icache.proofs.Found.{find_some, find_none}
use Rattle.vt_icache.proofs.Pairs.{equal_keys, same_as_itself}
use Rattle.vt_shard.specs.Shard.{IsDirtyBelow}
use Rattle.vt_shard.specs.Writeback.{BecomeClean, SettlesAll}
use Rattle.vt_shard.proofs.Lists.{AreApart, apart_permuted, apart_parts, apart_back, one_of_key, from_map, to_map}

-- ---- clean entries

without_from : {X : Type 0} (test : X → Bool) (xs : List X) (x : X) → Contains (without_first test xs) x → Contains xs x
without_from test [] x it = it
without_from test (y ∷ xs) x it = (elim (test y) as (λ (b : Bool). Contains (cond b xs (y ∷ without_first test xs)) x → Contains (y ∷ xs) x) [
  | true ↦ λ at. Contains-tail y xs x at
  | false ↦ λ at. ⊎_elim
      (λ (same : y ≡ x). subst (Contains (y ∷ xs)) same (Contains-head y xs))
      (λ (rest : Contains (without_first test xs) x). Contains-tail y xs x (without_from test xs x rest))
      (Contains-cons y (without_first test xs) x at)
]) it

from_with_clean : (entry : Entry) (room : ℕ) (clean : List Entry) (other : Entry) → Contains (with_clean entry room clean) other
    → (entry ≡ other) ⊎ Contains clean other
from_with_clean entry room clean other = by (find (is_entry_of entry.key) clean)
  where
    by : (o : Option Entry) → Contains (option_map_or (λ _. entry ∷ without_first (is_entry_of entry.key) clean) o (entry ∷ take (room - 1) clean)) other
        → (entry ≡ other) ⊎ Contains clean other
    by None it = ⊎_elim (λ (same : entry ≡ other). inl same)
        (λ (rest : Contains (take (room - 1) clean) other). inr (Contains-take (room - 1) clean other rest))
        (Contains-cons entry (take (room - 1) clean) other it)
    by (Some found) it = ⊎_elim (λ (same : entry ≡ other). inl same)
        (λ (rest : Contains (without_first (is_entry_of entry.key) clean) other). inr (without_from (is_entry_of entry.key) clean other rest))
        (Contains-cons entry (without_first (is_entry_of entry.key) clean) other it)

pub from_clean : (written : List Entry) (room : ℕ) (old new : List Entry) → BecomeClean written room old new
    → (entry : Entry) → Contains new entry → Contains old entry ⊎ Contains written entry
from_clean [] room old new is entry it = inl (subst (λ (l : List Entry). Contains l entry) is it)
from_clean (first ∷ rest) room old new is entry it = ⊎_elim
    (λ (mid : Contains is.0 entry). ⊎_elim
    (λ (put : is.0 ≡ with_clean first room old). ⊎_elim
    (λ (same : first ≡ entry). inr (subst (Contains (first ∷ rest)) same (Contains-head first rest)))
    (λ (was : Contains old entry). inl was)
    (from_with_clean first room old entry (subst (λ (l : List Entry). Contains l entry) put mid)))
    (λ (same : is.0 ≡ old). inl (subst (λ (l : List Entry). Contains l entry) same mid))
    is.1)
    (λ (later : Contains rest entry). inr (Contains-tail first rest entry later))
    (from_clean rest room is.0 new is.2 entry it)

clean_more : (written : List Entry) (entry : Entry) (room : ℕ) (old mid new : List Entry) → BecomeClean written room old mid
    → (new ≡ with_clean entry room mid) ⊎ (new ≡ mid) → BecomeClean (written ++ entry ∷ []) room old new
clean_more [] entry room old mid new is put =
    (new, subst (λ (l : List Entry). (new ≡ with_clean entry room l) ⊎ (new ≡ l)) is put, refl)
clean_more (first ∷ rest) entry room old mid new is put =
    (is.0, is.1, clean_more rest entry room is.0 mid new is.2 put)

-- ---- one after another

pub settles_none : (below : ℕ) (index : IndexState) → SettlesAll below [] index index
settles_none below index = record {
  settled = [];
  are = refl;
  under = All-nil (λ (x : Info). x.number < below);
  dirty = IsPermutation-refl index.dirty;
  clean = refl;
  room = refl;
  clean_room = refl;
}

module _ (below : ℕ) (written : List Entry) (old new : IndexState) (it : SettlesAll below written old new) where
  pub fewer : (info : Info) → Contains new.dirty info → Contains old.dirty info
  fewer info has = Contains-permutation (it.settled ++ new.dirty) old.dirty info (IsPermutation-sym old.dirty (it.settled ++ new.dirty) it.dirty)
      (Contains-append_right it.settled new.dirty info has)

  pub gone : (info : Info) → Contains old.dirty info → Contains new.dirty info ⊎ Contains written (entry_of info)
  gone info has = ⊎_elim
      (λ (went : Contains it.settled info). inr (subst (λ (l : List Entry). Contains l (entry_of info)) it.are (to_map entry_of it.settled info went)))
      (λ (stays : Contains new.dirty info). inl stays)
      (Contains-append_cases it.settled new.dirty info (Contains-permutation old.dirty (it.settled ++ new.dirty) info it.dirty has))

  module _ (keys : AreApart (λ (x : Info). x.key) old.dirty) where
    both : AreApart (λ (x : Info). x.key) (it.settled ++ new.dirty)
    both = apart_permuted (λ (x : Info). x.key) old.dirty (it.settled ++ new.dirty) it.dirty keys

    pub apart_after : AreApart (λ (x : Info). x.key) new.dirty
    apart_after = apart_back (λ (x : Info). x.key) it.settled new.dirty both

    pub went : (info : Info) (entry : Entry) → Contains new.dirty info → Contains written entry → entry.key ≢ info.key
    went info entry has there same =
        let one = from_map entry_of it.settled entry (subst (λ (l : List Entry). Contains l entry) (sym it.are) there) in
        apart_parts (λ (x : Info). x.key) it.settled new.dirty one.0 info both one.1 has
        (ap (λ (e : Entry). e.key) one.2 ∙ same)

  pub clean_from : (entry : Entry) → Contains new.clean entry → Contains old.clean entry ⊎ Contains written entry
  clean_from entry has = from_clean written old.clean_room old.clean new.clean it.clean entry has

find_exists : {X : Type 0} (test : X → Bool) (xs : List X) (x : X) → Contains xs x → test x ≡ true → (y : X) × (find test xs ≡ Some y)
find_exists test xs x it ok = by (find test xs) refl
  where
    by : (o : Option _) → find test xs ≡ o → (y : _) × (find test xs ≡ Some y)
    by None is = absurd (true≢false (sym ok ∙ find_none test xs x is it))
    by (Some y) is = (y, is)

find_passes : {X : Type 0} (test : X → Bool) (xs : List X) (y : X) → find test xs ≡ Some y → test y ≡ true
find_passes test [] y is = cc
find_passes test (x ∷ xs) y is = (elim (test x) as (λ (b : Bool). test x ≡ b → cond b (Some x) (find test xs) ≡ Some y → test y ≡ true) [
  | true ↦ λ t e. let same : x ≡ y = cc in ap test (sym same) ∙ t
  | false ↦ λ t e. find_passes test xs y e
]) refl is

map_push : {X Y : Type 0} (f : X → Y) (xs : List X) (x : X) → map f (xs ++ x ∷ []) ≡ map f xs ++ f x ∷ []
map_push f [] x = refl
map_push f (y ∷ ys) x = ap (λ l. f y ∷ l) (map_push f ys x)

earlier : (entries : List Entry) (i : ℕ) (entry : Entry) → AreApart (λ (x : Entry). x.key) entries → i < length entries
    → get_or entries i entry ≡ entry → Contains (take i entries) entry → ⊥
earlier [] i entry apart lt here it = omega (arith, lt)
earlier (e ∷ es) zero entry apart lt here it = Contains-nil entry it
earlier (e ∷ es) (suc i) entry apart lt here it = ⊎_elim
    (λ (same : e ≡ entry).
    apart 0 (suc i) entry (omega arith) lt (ap (λ (x : Entry). x.key) (same ∙ sym here)))
    (λ (rest : Contains (take i es) entry).
    earlier es i entry (λ j k d low high. apart (suc j) (suc k) d (omega (arith, low)) (omega (arith, high))) (omega (arith, lt)) here rest)
    (Contains-cons e (take i es) entry it)

-- the next one
pub settles_more : (below : ℕ) (entries : List Entry) (i : ℕ) (entry : Entry) (old mid new : IndexState) (done : Bool)
    → i < length entries → get_or entries i entry ≡ entry
    → AreApart (λ (x : Info). x.key) old.dirty → AreApart (λ (x : Entry). x.key) entries
    → ((e : Entry) → Contains entries e → IsDirtyBelow below old.dirty e)
    → SettlesAll below (take i entries) old mid
    → ((info : Info) → done ≡ true → dirty_info entry.key mid ≡ Some info → (info.number < below) × SettlesEntry info mid new)
    → (IsTrue done ↔ ((info : Info) × (dirty_info entry.key mid ≡ Some info) × (info.number < below)))
    → SettlesAll below (take (i + 1) entries) old new
settles_more below entries i entry old mid new done lt here keys apart each it settles found =
    let in_all : Contains entries entry = subst (Contains entries) here (Contains-get_or entries i entry lt) in
    let own = each entry in_all in
    let in_mid : Contains mid.dirty own.0 = ⊎_elim
    (λ (stays : Contains mid.dirty own.0). stays)
    (λ (gone_before : Contains (take i entries) (entry_of own.0)).
    absurd (earlier entries i entry apart lt here (subst (Contains (take i entries)) own.3 gone_before)))
    (gone below (take i entries) old mid it own.0 own.1) in
    let own_is : is_info_of entry.key own.0 ≡ true =
    ap (λ (e : Entry). same_key entry.key e.key) own.3 ∙ same_as_itself entry.key in
    let one = find_exists (is_info_of entry.key) mid.dirty own.0 in_mid own_is in
    let passes = find_passes (is_info_of entry.key) mid.dirty one.0 one.1 in
    let same : one.0 ≡ own.0 =
    one_of_key (λ (x : Info). x.key) mid.dirty one.0 own.0 (apart_after below (take i entries) old mid it keys)
    (find_some (is_info_of entry.key) mid.dirty one.0 one.1) in_mid
    (sym (equal_keys entry.key one.0.key passes) ∙ ap (λ (e : Entry). e.key) (sym own.3)) in
    let lower : one.0.number < below = subst (λ (x : Info). x.number < below) (sym same) own.2 in
    let did = settles one.0 (found.1 (one.0, one.1, lower)) one.1 in
    let is : entry_of one.0 ≡ entry = ap entry_of same ∙ own.3 in
    let step = did.1 in
    record {
      settled = it.settled ++ one.0 ∷ [];
      are = map_push entry_of it.settled one.0
          ∙ ap (λ (l : List Entry). l ++ entry_of one.0 ∷ []) it.are
          ∙ ap (λ (e : Entry). take i entries ++ e ∷ []) (is ∙ sym here)
          ∙ sym (take_more entries i entry lt);
      under = All-push (λ (x : Info). x.number < below) it.settled one.0 it.under lower;
      dirty = IsPermutation-pop_more old.dirty it.settled mid.dirty new.dirty one.0 it.dirty step.dirty;
      clean = subst (λ (l : List Entry). BecomeClean l old.clean_room old.clean new.clean)
          (ap (λ (e : Entry). take i entries ++ e ∷ []) (is ∙ sym here) ∙ sym (take_more entries i entry lt))
          (clean_more (take i entries) (entry_of one.0) old.clean_room old.clean mid.clean new.clean it.clean
          (subst (λ (n : ℕ). (new.clean ≡ with_clean (entry_of one.0) n mid.clean) ⊎ (new.clean ≡ mid.clean)) it.clean_room step.clean));
      room = step.room ∙ it.room;
      clean_room = step.clean_room ∙ it.clean_room;
    }
