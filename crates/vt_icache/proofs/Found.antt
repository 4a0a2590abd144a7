-- What is found among the entries that are kept.
use Rattle.std.proofs.Common.{◌≡◌, inl, inr, ⊎_elim, ℕ, zero, suc, ◌<◌, Bool, true, false, cond, List, [], ◌∷◌, take, Option, None, Some, refl, sym, ap, subst, ◌∙◌, true≢false, arith}
use Rattle.std.specs.List.{AllByRecursion, Contains, find}
use Rattle.std.specs.Option.{option_map, option_or}
use Rattle.std.proofs.lemmas.Bool.Decides.{nat_tests}
use Rattle.lru.proofs.Splits.{Contains-head, Contains-tail, Contains-cons, Contains-nil}
use Rattle.vt_base.specs.Key.{same_key}
use Rattle.vt_base.specs.Kind.{IsKind}
use Rattle.vt_base.specs.declared.key.Key.{Key}
use Rattle.vt_base.specs.declared.place.Entry.{Entry}
use Rattle.vt_base.specs.declared.place.Info.{Info}
use Rattle.vt_icache.specs.Keeping.{IsWell, dirty_infos, clean_entries}
use Rattle.vt_icache.specs.View.{state_of}
use Rattle.vt_icache.specs.declared.cache.IndexCache.TheInside.{Inside}
use Rattle.vt_icache.specs.Index.{IndexState, IsCached, entry_of, cached_entry, is_info_of, is_entry_of, dirty_info, clean_entry}
use Rattle.vt_icache.proofs.Pairs.{AreKeyed, values, same_as_itself}

module _ {X : Type 0} where
  pub contained : (P : X → Type 0) (xs : List X) (x : X) → AllByRecursion P xs → Contains xs x → P x
  contained P [] x all it = absurd (Contains-nil x it)
  contained P (y ∷ ys) x all it = ⊎_elim
      (λ (is : y ≡ x). subst P is all.0)
      (λ (rest : Contains ys x). contained P ys x all.1 rest)
      (Contains-cons y ys x it)

  pub find_some : (test : X → Bool) (xs : List X) (x : X) → find test xs ≡ Some x → Contains xs x
  find_some test [] x is = cc
  find_some test (y ∷ ys) x is = (elim (test y) as (λ (b : Bool). cond b (Some y) (find test ys) ≡ Some x → Contains (y ∷ ys) x) [
    | true ↦ λ e. let same : y ≡ x = cc in subst (Contains (y ∷ ys)) same (Contains-head y ys)
    | false ↦ λ e. Contains-tail y ys x (find_some test ys x e)
  ]) is

  pub find_none : (test : X → Bool) (xs : List X) (x : X) → find test xs ≡ None → Contains xs x → test x ≡ false
  find_none test [] x is it = absurd (Contains-nil x it)
  find_none test (y ∷ ys) x is it = (elim (test y) as (λ (b : Bool). test y ≡ b → cond b (Some y) (find test ys) ≡ None → test x ≡ false) [
    | true ↦ λ t e. cc
    | false ↦ λ t e. ⊎_elim
        (λ (same : y ≡ x). ap test (sym same) ∙ t)
        (λ (rest : Contains ys x). find_none test ys x e rest)
        (Contains-cons y ys x it)
  ]) refl is

module _ {X : Type 0} (key : X → Key) where
  -- the kinds of the first n values
  pub kinds_front : (es : List (Key × X)) (n : ℕ) → AreKeyed key es → AllByRecursion (λ (pair : Key × X). IsKind pair.0.kind) es
      → AllByRecursion (λ (x : X). IsKind (key x).kind) (take n (values key es))
  kinds_front es zero keyed kinds = tt
  kinds_front [] (suc n) keyed kinds = tt
  kinds_front (e ∷ es) (suc n) keyed kinds =
      (subst (λ (k : Key). IsKind k.kind) (sym keyed.0) kinds.0, kinds_front es n keyed.1 kinds.1)

  pub kinds_all : (es : List (Key × X)) → AreKeyed key es → AllByRecursion (λ (pair : Key × X). IsKind pair.0.kind) es
      → AllByRecursion (λ (x : X). IsKind (key x).kind) (values key es)
  kinds_all [] keyed kinds = tt
  kinds_all (e ∷ es) keyed kinds =
      (subst (λ (k : Key). IsKind k.kind) (sym keyed.0) kinds.0, kinds_all es keyed.1 kinds.1)

pub kind_bounds : (n : ℕ) → IsKind n → (0 < n) × (n < 14)
kind_bounds n is = (grind (arith, nat_tests), grind (arith, nat_tests))

-- an entry that is found is kept
pub found_is_kept : (key : Key) (s : IndexState) (entry : Entry) → cached_entry key s ≡ Some entry → IsCached s entry
found_is_kept key s entry is = by (dirty_info key s) refl is
  where
    by : (o : Option Info) → dirty_info key s ≡ o → option_or (option_map entry_of o) (clean_entry key s) ≡ Some entry → IsCached s entry
    by (Some info) at e = inl (info, find_some (is_info_of key) s.dirty info at, (let same : entry_of info ≡ entry = cc in same))
    by None at e = inr (find_some (is_entry_of key) s.clean entry e)

-- and each that is kept is found
pub kept_is_found : (key : Key) (s : IndexState) (entry : Entry) → entry.key ≡ key → IsCached s entry → cached_entry key s ≡ None → ⊥
kept_is_found key s entry own kept is = by (dirty_info key s) refl is
  where
    same : same_key key entry.key ≡ true
    same = ap (same_key key) own ∙ same_as_itself key

    by : (o : Option Info) → dirty_info key s ≡ o → option_or (option_map entry_of o) (clean_entry key s) ≡ None → ⊥
    by (Some info) at e = cc
    by None at e = ⊎_elim
        (λ (it : (info : Info) × Contains s.dirty info × (entry_of info ≡ entry)).
        let none = find_none (is_info_of key) s.dirty it.0 at it.1 in
        true≢false (sym same ∙ ap (λ (x : Entry). same_key key x.key) (sym it.2) ∙ none))
        (λ (it : Contains s.clean entry).
        let none = find_none (is_entry_of key) s.clean entry e it in
        true≢false (sym same ∙ none))
        kept

-- each entry that is kept has one of the types of blocks
pub kept_kind : (s : Inside) → IsWell s.room s.infos s.dirty s.blank s.clean → (entry : Entry)
    → IsCached (state_of s) entry → IsKind entry.key.kind
kept_kind s was entry kept = ⊎_elim
    (λ (it : (info : Info) × Contains (dirty_infos s.infos s.dirty) info × (entry_of info ≡ entry)).
    subst (λ (x : Entry). IsKind x.key.kind) it.2
    (contained (λ (x : Info). IsKind x.key.kind) (dirty_infos s.infos s.dirty) it.0
    (kinds_front (λ (x : Info). x.key) s.infos.entries s.dirty was.info_keys was.info_kinds) it.1))
    (λ (it : Contains (clean_entries s.clean) entry).
    contained (λ (x : Entry). IsKind x.key.kind) (clean_entries s.clean) entry
    (kinds_all (λ (x : Entry). x.key) s.clean.entries was.entry_keys was.entry_kinds) it)
    kept

-- where nothing is kept for a key, nothing is dirty
pub none_dirty : (key : Key) (s : IndexState) → cached_entry key s ≡ None → dirty_info key s ≡ None
none_dirty key s none = by (dirty_info key s) refl none
  where
    by : (o : Option Info) → dirty_info key s ≡ o → option_or (option_map entry_of o) (clean_entry key s) ≡ None → dirty_info key s ≡ None
    by None is e = is
    by (Some info) is e = cc
