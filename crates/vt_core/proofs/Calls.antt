-- Which devices were called, and what is counted of them.
use Rattle.std.proofs.Common.{◌≡◌, ◌≢◌, ℕ, zero, suc, ◌<◌, List, [], ◌∷◌, ◌++◌, length, map, Some, refl, sym, ◌∙◌, ap, subst, arith, length-append}
use Rattle.std.specs.Prelude.{slice_get, slice_set}
use Rattle.std.proofs.lemmas.List.{map-append}
use Rattle.std.proofs.lemmas.Option.{same_Some}
use Rattle.vt_disk.specs.Calls.{MadeCalls}
use Rattle.vt_disk.specs.Members.{DiskOf}
use Rattle.vt_log.proofs.Lists.{slice_get_left}
use Rattle.vt_core.specs.Causes.{CallsOne}
use Rattle.vt_core.specs.Files.{PerDevice, all_of}
use Rattle.vt_recover.proofs.Places.{length-set, get_set, get_other, within_get}

-- ---- a place of a list

same_behind : {X : Type 0} (xs ys zs : List X) (i : ℕ) → length ys ≡ length xs → slice_get ys i ≡ slice_get xs i → slice_get (ys ++ zs) i ≡ slice_get (xs ++ zs) i
same_behind [] [] zs i many same = refl
same_behind [] (y ∷ ys) zs i many same = absurd (omega (arith, many))
same_behind (x ∷ xs) [] zs i many same = absurd (omega (arith, many))
same_behind (x ∷ xs) (y ∷ ys) zs zero many same = same
same_behind (x ∷ xs) (y ∷ ys) zs (suc i) many same = same_behind xs ys zs i (omega (arith, many)) same

-- ---- one device called

module _ {D : Type 0} (disk : DiskOf D) where
  pub calls_set : (xs : List D) (i : ℕ) (before after : D) → slice_get xs i ≡ Some before → MadeCalls disk 1 before after → CallsOne disk xs (slice_set xs i after)
  calls_set xs i before after at made = record {
    many = length-set xs i after;
    which = i;
    within = within_get xs i before at;
    one = λ old new was is.
        let here : before ≡ old = same_Some before old (sym at ∙ was) in
        let there : after ≡ new = same_Some after new (sym (get_set xs i after before at) ∙ is) in
        subst (λ (d : D). MadeCalls disk 1 d new) here (subst (λ (d : D). MadeCalls disk 1 before d) there made);
    others = λ j other. get_other xs i j after other;
  }

  pub calls_front : (xs ys zs : List D) → CallsOne disk xs ys → CallsOne disk (xs ++ zs) (ys ++ zs)
  calls_front xs ys zs it =
      let below : it.which < length ys = omega (arith, it.within, it.many) in
      record {
        many = omega (arith, length-append ys zs, length-append xs zs, it.many);
        which = it.which;
        within = omega (arith, length-append xs zs, it.within);
        one = λ old new was is. it.one old new (sym (slice_get_left xs zs it.which it.within) ∙ was) (sym (slice_get_left ys zs it.which below) ∙ is);
        others = λ j other. same_behind xs ys zs j it.many (it.others j other);
      }

  calls_next : (z : D) (xs ys : List D) → CallsOne disk xs ys → CallsOne disk (z ∷ xs) (z ∷ ys)
  calls_next z xs ys it = record {
    many = omega (arith, it.many);
    which = suc it.which;
    within = omega (arith, it.within);
    one = λ old new was is. it.one old new was is;
    others = others_next;
  }
    where
      others_next : (j : ℕ) → j ≢ suc it.which → slice_get (z ∷ ys) j ≡ slice_get (z ∷ xs) j
      others_next zero other = refl
      others_next (suc j) other = it.others j (λ e. other (ap (λ (n : ℕ). suc n) e))

  pub calls_behind : (zs xs ys : List D) → CallsOne disk xs ys → CallsOne disk (zs ++ xs) (zs ++ ys)
  calls_behind [] xs ys it = it
  calls_behind (z ∷ zs) xs ys it = calls_next z (zs ++ xs) (zs ++ ys) (calls_behind zs xs ys it)

-- ---- counts of all devices

-- something of each device, kind by kind
pub map_all : {X Y : Type 0} (f : X → Y) (each : PerDevice X) → map f (all_of each) ≡ (map f each.partitions ++ map f each.sections) ++ map f each.filter
map_all f each = map-append f (each.partitions ++ each.sections) each.filter ∙ ap (λ ys. ys ++ map f each.filter) (map-append f each.partitions each.sections)

-- three lists, one behind another
abbrev pub joined : {X : Type 0} → (xs ys zs : List X) → List X
joined xs ys zs = (xs ++ ys) ++ zs

-- one thing, and two lists behind it
abbrev pub with_ends : {X : Type 0} → X → (ys zs : List X) → List X
with_ends x ys zs = x ∷ (ys ++ zs)
