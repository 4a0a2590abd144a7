use Rattle.std.proofs.Common.{◌≡◌, ◌<◌, ◌++◌, ◌∷◌, [], ℕ, zero, suc, List, length, take, slice_get, get_or, None, Some, sym, ap, subst, ◌∙◌, arith}
use Rattle.std.specs.Prelude.{IsOk}
use Rattle.std.specs.List.{IsDistinct}
use Rattle.std.specs.Map.{lookup, keys_of}
use Rattle.std.proofs.lemmas.List.{take_more}
use Rattle.std.proofs.lemmas.Option.{slice_get_within, get_or_from_slice_get}
use Rattle.indexmap.proofs.CallerLemmas.{insert_entry-new}
use Rattle.vt_base.specs.Key.{same_key}
use Rattle.vt_base.specs.declared.key.Key.{Key}
use Rattle.vt_base.specs.declared.place.Info.{Info}
use Rattle.vt_icache.proofs.Pairs.{from_ok, none_before}
use Rattle.vt_icache.proofs.cache.copy_first.Goals as goal
use Rattle.vt_icache.proofs.cache.copy_first.Goals.{in-Some, in_default}

empty_is_distinct : (es : List (Key × Info)) → es ≡ [] → IsDistinct same_key (keys_of es)
unfolding IsDistinct
empty_is_distinct es is = subst (λ (l : List (Key × Info)). IsDistinct same_key (keys_of l)) (sym is) tt

pub loop-i-init : goal.loop-i-init
loop-i-init c = record {
  done = c.requires.empty;
  room = omega arith;
  unique = empty_is_distinct c.args.to.now.entries c.requires.empty;
}

not_within : (es : List (Key × Info)) (i : ℕ) → slice_get es i ≡ None → i < length es → ⊥
not_within [] i none lt = omega (arith, lt)
not_within (e ∷ es) zero none lt = cc
not_within (e ∷ es) (suc i) none lt = not_within es i none (omega (arith, lt))

pub loop-i-preserved : goal.loop-i-preserved
loop-i-preserved c =
    let inv = c.loop-i.invariant in
    elim c.match-get_index.branch [
      | in-Some w ↦
          let key = w.in-Some.key.now in
          let info = w.in-Some.info.now in
          let at : slice_get c.args.from.now.entries c.loop-i.i ≡ Some (key, info) = sym w.in-Some.ensures.entry in
          let before : lookup (same_key key) (take c.loop-i.i c.args.from.now.entries) ≡ None =
          none_before c.args.from.now.entries c.loop-i.i key info c.requires.unique at in
          let absent : lookup (same_key key) c.loop-i.to.entries ≡ None =
          ap (lookup (same_key key)) inv.done ∙ before in
          let ok : IsOk w.insert.result = w.insert.ensures.succeeds (omega (arith, inv.room, c.requires.room)) in
          let pushed : w.insert.new.self.entries ≡ c.loop-i.to.entries ++ (key, info) ∷ [] =
          from_ok w.insert.result _ ok w.insert.ensures.entries ∙ insert_entry-new same_key c.loop-i.to key info absent in
          let here : get_or c.args.from.now.entries c.loop-i.i (key, info) ≡ (key, info) =
          get_or_from_slice_get c.args.from.now.entries c.loop-i.i (key, info) (key, info) at in
          record {
            done = ap (λ m. m.entries) w.to-is ∙ pushed
                ∙ ap (λ (l : List (Key × Info)). l ++ (key, info) ∷ []) inv.done
                ∙ ap (λ (e : Key × Info). take c.loop-i.i c.args.from.now.entries ++ e ∷ []) (sym here)
                ∙ sym (take_more c.args.from.now.entries c.loop-i.i (key, info) (slice_get_within c.args.from.now.entries c.loop-i.i (key, info) at));
            room = rw w.to-is (omega (arith, inv.room, w.insert.ensures.spare));
            unique = rw w.to-is w.insert.ensures.unique;
          }
      | in_default w ↦ absurd (not_within c.args.from.now.entries c.loop-i.i (sym w.in_default.ensures.entry) (omega (arith, c.requires.within)))
    ]
