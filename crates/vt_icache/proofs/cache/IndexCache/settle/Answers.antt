use Rattle.std.proofs.Common.{◌≡◌, ◌⊎◌, inl, inr, ⊎_elim, zero, suc, true, ◌<◌, ◌≤◌, ◌-◌, ◌∷◌, [], ℕ, List, Option, Result, Ok, Err, None, Some, length, get_or, set, slice_get, take, sym, ap, subst, ◌∙◌, refl, arith, length-take}
use Rattle.std.specs.Prelude.{IsPermutation, OnOk, OnErr}
use Rattle.std.specs.List.{AllByRecursion, find, swap}
use Rattle.std.proofs.lemmas.List.{length-set, get_or-set_same}
use Rattle.std.proofs.lemmas.List.Edits.{swap_is}
use Rattle.std.proofs.lemmas.List.Sorted.{IsPermutation-map}
use Rattle.std.proofs.lemmas.Option.{slice_get_within, slice_get-get_or, get_or_from_slice_get}
use Rattle.lru.specs.LruCache.{LruCache, lru_cache, put_entries}
use Rattle.vt_base.specs.Key.{same_key}
use Rattle.vt_base.specs.Kind.{IsKind}
use Rattle.vt_base.specs.declared.key.Key.{Key}
use Rattle.vt_base.specs.declared.place.Entry.{Entry}
use Rattle.vt_base.specs.declared.place.Info.{Info}
use Rattle.vt_icache.specs.Index.{IndexState, SettlesEntry, entry_of, with_clean}
use Rattle.vt_icache.specs.Keeping.{clean_entries}
use Rattle.vt_icache.specs.View.{state_of}
use Rattle.vt_icache.proofs.Pairs.{AreKeyed, values, values_take, values_put, found, equal_keys, keyed_take, all_permuted, all_put, pair_at, none_before, slice_get_front}
use Rattle.vt_icache.proofs.Fronts.{take_swap_out}
use Rattle.vt_icache.proofs.cache.IndexCache.settle.Goals as goal

-- where the entry that settles stands
at_of : (c : goal.After-put) → (c.in-Some.at < c.self.inside.dirty)
    × (slice_get c.self.inside.infos.entries c.in-Some.at ≡ Some (c.in-Some.info.key, c.in-Some.info))
at_of c =
    let vs = values (λ (x : Info). x.key) c.self.inside.infos.entries in
    let at : slice_get (take c.self.inside.dirty vs) c.in-Some.at ≡ Some c.in-Some.info =
    subst (λ (s : IndexState). slice_get s.dirty c.in-Some.at ≡ Some c.in-Some.info) (sym c.self.view_is) c.in-Some.ensures.place in
    let within = slice_get_within (take c.self.inside.dirty vs) c.in-Some.at c.in-Some.info at in
    let lt : c.in-Some.at < c.self.inside.dirty = omega (arith, within, length-take c.self.inside.dirty vs) in (
      lt,
      pair_at (λ (x : Info). x.key) c.self.inside.infos.entries c.in-Some.at c.in-Some.info c.self.invariant.info_keys
          (sym (slice_get_front vs c.in-Some.at c.self.inside.dirty lt) ∙ at),
    )

-- the clean entries, with or without it
put_or_not : {E : Type 0} (r : Result (Option Entry) E) (old new : LruCache Key Entry) (k : Key) (v : Entry)
    → OnOk r (new ≡ lru_cache (put_entries same_key old k v) old.cap) → OnErr r (new ≡ old)
    → (new ≡ lru_cache (put_entries same_key old k v) old.cap) ⊎ (new ≡ old)
put_or_not (Ok x) old new k v ok err = inl ok
put_or_not (Err x) old new k v ok err = inr err

-- a fact of each pair after it
after_put : (P : Key × Entry → Type 0) (old new : LruCache Key Entry) (k : Key) (v : Entry)
    → (new ≡ lru_cache (put_entries same_key old k v) old.cap) ⊎ (new ≡ old)
    → AllByRecursion P old.entries → P (k, v) → ((e : Key × Entry) → same_key k e.0 ≡ true → P (e.0, v)) → AllByRecursion P new.entries
after_put P old new k v which all own others = ⊎_elim
    (λ (put : new ≡ lru_cache (put_entries same_key old k v) old.cap).
    subst (λ (l : LruCache Key Entry). AllByRecursion P l.entries) (sym put) (all_put P (same_key k) old.entries k v (old.cap - 1) all own others))
    (λ (same : new ≡ old). subst (λ (l : LruCache Key Entry). AllByRecursion P l.entries) (sym same) all)
    which

-- a fact of the pair at a place
of_pair : (P : Key × Info → Type 0) (es : List (Key × Info)) (i : ℕ) (e : Key × Info) → AllByRecursion P es → slice_get es i ≡ Some e → P e
of_pair P [] i e all is = cc
of_pair P (f ∷ es) zero e all is = let same : f ≡ e = cc in subst P same all.0
of_pair P (f ∷ es) (suc i) e all is = of_pair P es i e all.1 is

swapped_last : (es new : List (Key × Info)) (n at : ℕ) (d : Key × Info) → at < n → n ≤ length es → new ≡ swap es at (n - 1)
    → get_or new (n - 1) d ≡ get_or es at d
swapped_last es new n at d lt le is =
    let v = get_or es (n - 1) d in
    let len : length (set es at v) ≡ length es = length-set es at v in
    ap (λ (l : List (Key × Info)). get_or l (n - 1) d) (is ∙ sym (swap_is es at (n - 1) d (omega (arith, lt, le)) (omega (arith, lt, le))))
    ∙ get_or-set_same (set es at v) (n - 1) (get_or es at d) d (omega (arith, len, lt, le))

abbrev state_after : goal.After-put → IndexState
state_after c = state_of (record c.self.inside {
  infos = c.swap_indices.new.self;
  dirty = c.self.inside.dirty - 1;
  clean = c.put.new.self;
})

pub invariant_of-self : goal.invariant_of-self
invariant_of-self c =
    let was = c.self.invariant in
    let at = at_of c in
    let es = c.self.inside.infos.entries in
    let same : length c.swap_indices.new.self.entries ≡ length es = c.swap_indices.ensures.reordered.1 in
    let within : c.self.inside.dirty ≤ length es = was.within in
    let keeps = c.swap_indices.ensures.room.0 in
    let put = put_or_not c.put.result c.self.inside.clean c.put.new.self c.in-Some.info.key c.entry_of.result c.put.ensures.entries c.put.ensures.err in
    let own : c.entry_of.result.key ≡ c.in-Some.info.key = ap (λ (e : Entry). e.key) c.entry_of.ensures in
    let kind : IsKind c.in-Some.info.key.kind =
    of_pair (λ (e : Key × Info). IsKind e.0.kind) es c.in-Some.at (c.in-Some.info.key, c.in-Some.info) was.info_kinds at.1 in
    record {
      info_keys = all_permuted (λ (e : Key × Info). e.1.key ≡ e.0) es c.swap_indices.new.self.entries c.swap_indices.ensures.reordered.0 was.info_keys;
      entry_keys = after_put (λ (e : Key × Entry). e.1.key ≡ e.0) c.self.inside.clean c.put.new.self c.in-Some.info.key c.entry_of.result put was.entry_keys own
          (λ e is. own ∙ equal_keys c.in-Some.info.key e.0 is);
      info_kinds = all_permuted (λ (e : Key × Info). IsKind e.0.kind) es c.swap_indices.new.self.entries c.swap_indices.ensures.reordered.0 was.info_kinds;
      entry_kinds = after_put (λ (e : Key × Entry). IsKind e.0.kind) c.self.inside.clean c.put.new.self c.in-Some.info.key c.entry_of.result put was.entry_kinds kind
          (λ e is. subst (λ (k : Key). IsKind k.kind) (equal_keys c.in-Some.info.key e.0 is) kind);
      within = omega (arith, same, within);
      fits = omega (arith, was.fits);
      room_is = omega (arith, same, keeps, was.room_is);
      blank_empty = was.blank_empty;
      blank_room = was.blank_room;
      unique = c.swap_indices.ensures.unique;
    }

cap_same : (old new : LruCache Key Entry) (k : Key) (v : Entry)
    → (new ≡ lru_cache (put_entries same_key old k v) old.cap) ⊎ (new ≡ old) → new.cap ≡ old.cap
cap_same old new k v which = ⊎_elim
    (λ (put : new ≡ lru_cache (put_entries same_key old k v) old.cap). ap (λ (l : LruCache Key Entry). l.cap) put)
    (λ (same : new ≡ old). ap (λ (l : LruCache Key Entry). l.cap) same)
    which

clean_after : (old new : LruCache Key Entry) (v : Entry) → AreKeyed (λ (x : Entry). x.key) old.entries
    → (new ≡ lru_cache (put_entries same_key old v.key v) old.cap) ⊎ (new ≡ old)
    → (clean_entries new ≡ with_clean v old.cap (clean_entries old)) ⊎ (clean_entries new ≡ clean_entries old)
clean_after old new v keyed which = ⊎_elim
    (λ (put : new ≡ lru_cache (put_entries same_key old v.key v) old.cap).
    inl (ap (λ (l : LruCache Key Entry). values (λ (x : Entry). x.key) l.entries) put ∙ values_put old.entries v old.cap keyed))
    (λ (same : new ≡ old). inr (ap (λ (l : LruCache Key Entry). values (λ (x : Entry). x.key) l.entries) same))
    which

same_info : (o : Option Info) (a b : Info) → Some a ≡ o → o ≡ Some b → a ≡ b
same_info o a b p q = cc

pub returns-clause-settled : goal.returns-clause-settled
returns-clause-settled c = λ info yes found_is.
    let was = c.self.invariant in
    let at = at_of c in
    let n = c.self.inside.dirty in
    let es = c.self.inside.infos.entries in
    let new = c.swap_indices.new.self.entries in
    let key : Info → Key = λ (x : Info). x.key in
    let pair : Key × Info = (c.in-Some.info.key, c.in-Some.info) in
    let within : n ≤ length es = was.within in
    let swapped : new ≡ swap es c.in-Some.at (n - 1) = c.swap_indices.ensures.entries in
    let here : get_or es c.in-Some.at pair ≡ pair = get_or_from_slice_get es c.in-Some.at pair pair at.1 in
    let pairs : IsPermutation (take n es) (pair ∷ take (n - 1) new) =
    subst (λ (l : List (Key × Info)). IsPermutation (take n es) (pair ∷ take (n - 1) l)) (sym swapped)
    (take_swap_out es n c.in-Some.at pair at.0 within (sym here)) in
    let infos : IsPermutation (values key (take n es)) (c.in-Some.info ∷ values key (take (n - 1) new)) =
    IsPermutation-map (λ (e : Key × Info). e.1) (take n es) (pair ∷ take (n - 1) new) pairs in
    let same : length new ≡ length es = c.swap_indices.ensures.reordered.1 in
    let last : slice_get new (n - 1) ≡ Some pair =
    slice_get-get_or new (n - 1) pair (omega (arith, same, within, at.0))
    ∙ ap (λ (e : Key × Info). Some e) (swapped_last es new n c.in-Some.at pair at.0 within swapped ∙ here) in
    let keyed : AreKeyed key new = all_permuted (λ (e : Key × Info). e.1.key ≡ e.0) es new c.swap_indices.ensures.reordered.0 was.info_keys in
    let gone : find (λ (x : Info). same_key c.in-Some.info.key x.key) (take (n - 1) (values key new)) ≡ None =
    ap (find (λ (x : Info). same_key c.in-Some.info.key x.key)) (sym (values_take key (n - 1) new))
    ∙ sym (found key (same_key c.in-Some.info.key) (take (n - 1) new) (keyed_take key (n - 1) new keyed))
    ∙ none_before new (n - 1) c.in-Some.info.key c.in-Some.info c.swap_indices.ensures.unique last in
    let put = put_or_not c.put.result c.self.inside.clean c.put.new.self c.in-Some.info.key c.entry_of.result c.put.ensures.entries c.put.ensures.err in
    let own : c.entry_of.result.key ≡ c.in-Some.info.key = ap (λ (e : Entry). e.key) c.entry_of.ensures in
    let put_own : (c.put.new.self ≡ lru_cache (put_entries same_key c.self.inside.clean (entry_of c.in-Some.info).key (entry_of c.in-Some.info)) c.self.inside.clean.cap)
    ⊎ (c.put.new.self ≡ c.self.inside.clean) =
    subst (λ (e : Entry). (c.put.new.self ≡ lru_cache (put_entries same_key c.self.inside.clean c.in-Some.info.key e) c.self.inside.clean.cap)
    ⊎ (c.put.new.self ≡ c.self.inside.clean)) c.entry_of.ensures put in
    let it : SettlesEntry c.in-Some.info (state_of c.self.inside) (state_after c) = record {
      dirty = subst (λ (l : List Info). IsPermutation l (c.in-Some.info ∷ take (n - 1) (values key new))) (values_take key n es)
          (subst (λ (l : List Info). IsPermutation (values key (take n es)) (c.in-Some.info ∷ l)) (values_take key (n - 1) new) infos);
      gone = gone;
      clean = clean_after c.self.inside.clean c.put.new.self (entry_of c.in-Some.info) was.entry_keys put_own;
      room = refl;
      clean_room = cap_same c.self.inside.clean c.put.new.self c.in-Some.info.key c.entry_of.result put;
    } in
    let is : c.in-Some.info ≡ info = same_info _ c.in-Some.info info c.in-Some.ensures.found found_is in
    subst (λ (x : Info). (x.number < c.args.below) × SettlesEntry x c.args.self.now (state_after c)) is
    (c.if-info-below.false, subst (λ (s : IndexState). SettlesEntry c.in-Some.info s (state_after c)) c.self.view_is it)
