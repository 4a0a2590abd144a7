use Rattle.std.proofs.Common.{◌≡◌, ◌⊎◌, ⊎_elim, ◌<◌, ◌≤◌, ◌+◌, ◌-◌, ◌++◌, ◌∷◌, [], ℕ, List, None, length, get_or, take, sym, ap, subst, ◌∙◌, refl, arith, length-append, length-take}
use Rattle.std.specs.Prelude.{IsOk}
use Rattle.std.specs.List.{AllByRecursion, find, swap}
use Rattle.std.proofs.lemmas.List.{take-append-le}
use Rattle.indexmap.proofs.CallerLemmas.{insert_entry-new}
use Rattle.vt_base.specs.Key.{same_key}
use Rattle.vt_base.specs.Kind.{IsKind}
use Rattle.vt_base.specs.declared.key.Key.{Key}
use Rattle.vt_base.specs.declared.place.Info.{Info}
use Rattle.vt_icache.specs.Index.{IndexState, dirty_info}
use Rattle.vt_icache.specs.View.{state_of}
use Rattle.vt_icache.proofs.Pairs.{values, values_take, values_length, values_push, found, from_ok, keyed_take, keyed_push, all_take, all_push, all_permuted, last_of}
use Rattle.vt_icache.proofs.Fronts.{take_twice, take_swap_behind}
use Rattle.vt_icache.proofs.cache.IndexCache.put_dirty.Goals as goal

pub make_room-requires-clause-absent : goal.make_room-requires-clause-absent
make_room-requires-clause-absent c =
    let es = c.self.inside.infos.entries in
    let n = c.self.inside.dirty in
    found (λ (x : Info). x.key) (same_key c.args.info.key) (take n es) (keyed_take (λ (x : Info). x.key) n es c.self.invariant.info_keys)
    ∙ ap (find (λ (x : Info). same_key c.args.info.key x.key)) (values_take (λ (x : Info). x.key) n es)
    ∙ subst (λ (s : IndexState). dirty_info c.args.info.key s ≡ None) (sym c.self.view_is) c.requires.absent

-- a fact of each pair that was there
kept : (P : Key × Info → Type 0) (es made : List (Key × Info)) (n : ℕ) → (made ≡ es) ⊎ (made ≡ take n es)
    → AllByRecursion P es → AllByRecursion P made
kept P es made n is all = ⊎_elim
    (λ (same : made ≡ es). subst (AllByRecursion P) (sym same) all)
    (λ (front : made ≡ take n es). subst (AllByRecursion P) (sym front) (all_take P n es all))
    is

same_front : (es made : List (Key × Info)) (n : ℕ) → (made ≡ es) ⊎ (made ≡ take n es) → take n made ≡ take n es
same_front es made n is = ⊎_elim
    (λ (same : made ≡ es). ap (take n) same)
    (λ (front : made ≡ take n es). ap (take n) front ∙ take_twice es n)
    is

long : (es made : List (Key × Info)) (n : ℕ) → (made ≡ es) ⊎ (made ≡ take n es) → n ≤ length es → n ≤ length made
long es made n is le = ⊎_elim
    (λ (same : made ≡ es). let e = ap length same in omega (arith, e, le))
    (λ (front : made ≡ take n es). let e = ap length front in omega (arith, e, le, length-take n es))
    is

pub swap_indices-requires-clause-a_in_bounds : goal.swap_indices-requires-clause-a_in_bounds
swap_indices-requires-clause-a_in_bounds c =
    let made = c.make_room.new.infos in
    let ok : IsOk c.insert.result = c.insert.ensures.succeeds c.make_room.ensures.some in
    let ins : c.insert.new.self.entries ≡ made.entries ++ (c.args.info.key, c.args.info) ∷ [] =
    from_ok c.insert.result _ ok c.insert.ensures.entries
    ∙ insert_entry-new same_key made c.args.info.key c.args.info c.make_room.ensures.absent in
    let len : length c.insert.new.self.entries ≡ length made.entries + 1 =
    ap length ins ∙ length-append made.entries ((c.args.info.key, c.args.info) ∷ []) in
    let front : c.self.inside.dirty ≤ length made.entries =
    long c.self.inside.infos.entries made.entries c.self.inside.dirty c.make_room.ensures.entries c.self.invariant.within in
    omega (arith, len, front)

pub invariant_of-self : goal.invariant_of-self
invariant_of-self c =
    let was = c.self.invariant in
    let made = c.make_room.new.infos in
    let ok : IsOk c.insert.result = c.insert.ensures.succeeds c.make_room.ensures.some in
    let ins : c.insert.new.self.entries ≡ made.entries ++ (c.args.info.key, c.args.info) ∷ [] =
    from_ok c.insert.result _ ok c.insert.ensures.entries
    ∙ insert_entry-new same_key made c.args.info.key c.args.info c.make_room.ensures.absent in
    let len : length c.insert.new.self.entries ≡ length made.entries + 1 =
    ap length ins ∙ length-append made.entries ((c.args.info.key, c.args.info) ∷ []) in
    let front : c.self.inside.dirty ≤ length made.entries =
    long c.self.inside.infos.entries made.entries c.self.inside.dirty c.make_room.ensures.entries was.within in
    let swapped : length c.swap_indices.new.self.entries ≡ length c.insert.new.self.entries = c.swap_indices.ensures.reordered.1 in
    let keeps = c.swap_indices.ensures.room.0 in
    let spares = c.insert.ensures.spare in
    let room = c.make_room.ensures.room c.self.inside.room was.room_is was.blank_room in
    let more : length (take c.self.inside.dirty (values (λ (x : Info). x.key) c.self.inside.infos.entries)) < c.self.inside.room =
    subst (λ (s : IndexState). length s.dirty < s.room) (sym c.self.view_is) c.requires.room in
    let many = length-take c.self.inside.dirty (values (λ (x : Info). x.key) c.self.inside.infos.entries) in
    let all_values = values_length (λ (x : Info). x.key) c.self.inside.infos.entries in
    let within : c.self.inside.dirty ≤ length c.self.inside.infos.entries = was.within in
    record {
      info_keys = all_permuted (λ (e : Key × Info). e.1.key ≡ e.0) c.insert.new.self.entries c.swap_indices.new.self.entries c.swap_indices.ensures.reordered.0
          (subst (AllByRecursion (λ (e : Key × Info). e.1.key ≡ e.0)) (sym ins)
          (keyed_push (λ (x : Info). x.key) made.entries (c.args.info.key, c.args.info)
          (kept (λ (e : Key × Info). e.1.key ≡ e.0) c.self.inside.infos.entries made.entries c.self.inside.dirty c.make_room.ensures.entries was.info_keys) refl));
      entry_keys = was.entry_keys;
      info_kinds = all_permuted (λ (e : Key × Info). IsKind e.0.kind) c.insert.new.self.entries c.swap_indices.new.self.entries c.swap_indices.ensures.reordered.0
          (subst (AllByRecursion (λ (e : Key × Info). IsKind e.0.kind)) (sym ins)
          (all_push (λ (e : Key × Info). IsKind e.0.kind) made.entries (c.args.info.key, c.args.info)
          (kept (λ (e : Key × Info). IsKind e.0.kind) c.self.inside.infos.entries made.entries c.self.inside.dirty c.make_room.ensures.entries was.info_kinds)
          (subst IsKind c.type_number.ensures.number c.type_number.ensures.valid)));
      entry_kinds = was.entry_kinds;
      within = omega (arith, swapped, len, front);
      fits = omega (arith, more, many, all_values, within);
      room_is = omega (arith, room, swapped, len, keeps, spares);
      blank_empty = c.make_room.ensures.empty;
      blank_room = room.1;
      unique = c.swap_indices.ensures.unique;
    }

pub returns : goal.returns
returns c =
    let was = c.self.invariant in
    let made = c.make_room.new.infos in
    let n = c.self.inside.dirty in
    let pair : Key × Info = (c.args.info.key, c.args.info) in
    let key : Info → Key = λ (x : Info). x.key in
    let ok : IsOk c.insert.result = c.insert.ensures.succeeds c.make_room.ensures.some in
    let ins : c.insert.new.self.entries ≡ made.entries ++ pair ∷ [] =
    from_ok c.insert.result _ ok c.insert.ensures.entries
    ∙ insert_entry-new same_key made c.args.info.key c.args.info c.make_room.ensures.absent in
    let front : n ≤ length made.entries = long c.self.inside.infos.entries made.entries n c.make_room.ensures.entries was.within in
    let len : length (made.entries ++ pair ∷ []) ≡ length made.entries + 1 = length-append made.entries (pair ∷ []) in
    let len_ins : length c.insert.new.self.entries ≡ length made.entries + 1 = ap length ins ∙ len in
    let last : c.len-last.result - 1 ≡ length made.entries = omega (arith, c.len-last.ensures.len, len_ins) in
    let swapped : c.swap_indices.new.self.entries ≡ swap (made.entries ++ pair ∷ []) n (length made.entries) =
    c.swap_indices.ensures.entries ∙ ap (λ (k : ℕ). swap c.insert.new.self.entries n k) last
    ∙ ap (λ (l : List (Key × Info)). swap l n (length made.entries)) ins in
    let pairs : take (n + 1) c.swap_indices.new.self.entries ≡ take n c.self.inside.infos.entries ++ pair ∷ [] =
    ap (take (n + 1)) swapped
    ∙ take_swap_behind (made.entries ++ pair ∷ []) n (length made.entries) pair front (omega (arith, len))
    ∙ ap (λ (l : List (Key × Info)). l ++ get_or (made.entries ++ pair ∷ []) (length made.entries) pair ∷ [])
    (take-append-le n made.entries (pair ∷ []) front ∙ same_front c.self.inside.infos.entries made.entries n c.make_room.ensures.entries)
    ∙ ap (λ (e : Key × Info). take n c.self.inside.infos.entries ++ e ∷ []) (last_of made.entries pair pair) in
    rw (← c.self.view_is)
    (ap (λ (l : List Info). record (state_of c.self.inside) { dirty = l })
    (sym (values_take key (n + 1) c.swap_indices.new.self.entries) ∙ ap (values key) pairs
    ∙ values_push key (take n c.self.inside.infos.entries) pair
    ∙ ap (λ (l : List Info). l ++ c.args.info ∷ []) (values_take key n c.self.inside.infos.entries)))
