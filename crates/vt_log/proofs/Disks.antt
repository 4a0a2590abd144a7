-- Lists of disks of which one changes.
use Rattle.std.proofs.Common.{◌≡◌, ◌≢◌, ⊎_elim, ℕ, zero, suc, ◌+◌, ◌≤◌, Bool, true, false, List, [], ◌∷◌, map, set, refl, sym, ◌∙◌, ap, subst, arith, Some, Ok, Err, Result}
use Rattle.std.specs.Prelude.{slice_get, slice_index, sum_by, MatchBool}
use Rattle.std.proofs.lemmas.Bool.{cases_eq}
use Rattle.std.proofs.lemmas.List.{map-set, length-set, length-map, get_or-map, get_or-set_same, get_or-set_other}
use Rattle.std.proofs.lemmas.List.Sums.{sum_by-set}
use Rattle.std.proofs.lemmas.Option.{slice_get_within, get_or_from_slice_get, same_Some}
use Rattle.vt_base.specs.Faults.{HasRisen, TellsFault, CountsFault}
use Rattle.vt_disk.specs.Members.{DiskOf}
use Rattle.vt_disk.specs.Calls.{OnlyReads}
use Rattle.vt_disk.specs.Disk.{AreAmong}
use Rattle.vt_part.specs.declared.part.Part.{Part}
use Rattle.vt_part.specs.Parts.{disk_of, table_of, tables_of}
use Rattle.vt_log.specs.Answers.{Spares, HoldTheSame}
use Rattle.vt_log.specs.Faults.{OneHasRisen}
use Rattle.vt_log.proofs.Lists.{slice_get_set_same, slice_get_set_other}

-- what stays of the elements stays of the list
pub map_same : {X Y : Type 0} (f : X → Y) (xs : List X) (i : ℕ) (x y : X) → slice_get xs i ≡ Some x → f y ≡ f x → map f (set xs i y) ≡ map f xs
map_same {Y = Y} f [] i x y at same = refl
map_same {Y = Y} f (z ∷ xs) zero x y at same =
    let e : z ≡ x = same_Some z x at in
    (λ j. (same ∙ ap f (sym e)) j ∷ map f xs)
map_same {Y = Y} f (z ∷ xs) (suc i) x y at same = ap (λ (zs : List Y). f z ∷ zs) (map_same f xs i x y at same)

pub parts_disks : {D : Type 0} (ps : List (Part D)) (i : ℕ) (p : Part D) (d : D) → map (λ part. disk_of part) (set ps i (record p { disk = d })) ≡ set (map (λ part. disk_of part) ps) i d
parts_disks {D = D} ps i p d = map-set (λ (part : Part D). disk_of part) ps i (record p { disk = d })

pub parts_tables : {D : Type 0} (ps : List (Part D)) (i : ℕ) (p : Part D) (d : D) → slice_get ps i ≡ Some p → tables_of (set ps i (record p { disk = d })) ≡ tables_of ps
parts_tables {D = D} ps i p d at = map_same (λ (part : Part D). table_of part) ps i p (record p { disk = d }) at refl

pub spares_set : {D : Type 0} (ds : List D) (i : ℕ) (d : D) → Spares i ds (set ds i d)
spares_set ds i d = record { many = length-set ds i d; others = λ j other. slice_get_set_other ds i j d other }

pub calls_set : {X : Type 0} (f : X → ℕ) (xs : List X) (i : ℕ) (x y : X) (k : ℕ) → slice_get xs i ≡ Some x → f y ≤ f x + k → sum_by f (set xs i y) ≤ sum_by f xs + k
calls_set f xs i x y k at most =
    omega (arith, sum_by-set f xs i y x (slice_get_within xs i x at), ap f (get_or_from_slice_get xs i x x at), most)

pub risen_set : {X : Type 0} (f : X → ℕ) (xs : List X) (i : ℕ) (x y : X) → slice_get xs i ≡ Some x → HasRisen (f x) (f y)
    → (it : OneHasRisen (map f xs) (map f (set xs i y))) × (it.which ≡ i)
risen_set f xs i x y at risen =
    let below = slice_get_within xs i x at in
    let was : slice_index (map f xs) i ≡ f x = get_or-map f xs i x 0 below ∙ ap f (get_or_from_slice_get xs i x x at) in
    let is : slice_index (map f (set xs i y)) i ≡ f y = ap (λ (zs : List ℕ). slice_index zs i) (map-set f xs i y) ∙ get_or-set_same (map f xs) i (f y) 0 (omega (arith, below, length-map xs f)) in (
      record {
        many = length-map (set xs i y) f ∙ length-set xs i y ∙ sym (length-map xs f);
        which = i;
        within = omega (arith, below, length-map xs f);
        rose = rw (was, is) risen;
        others = λ j other. ap (λ (zs : List ℕ). slice_index zs j) (map-set f xs i y) ∙ get_or-set_other (map f xs) i j (f y) 0 other;
      },
      refl,
    )

pub hold_set : {D : Type 0} (disk : DiskOf D) (most : ℕ) (ds : List D) (i : ℕ) (d e : D) → slice_get ds i ≡ Some d → OnlyReads disk most d e → HoldTheSame disk ds (set ds i e)
hold_set {D = D} disk most ds i d e at reads = record {
  bytes_are = map_same disk.bytes ds i d e at reads.bytes;
  sizes_are = map_same disk.size ds i d e at reads.size;
  images_are = λ j before after was is. ⊎_elim
      (λ (here : j ≡ i).
      let b : d ≡ before = same_Some d before (sym at ∙ sym (ap (slice_get ds) here) ∙ was) in
      let a : e ≡ after = same_Some e after (sym (slice_get_set_same ds i e (slice_get_within ds i d at)) ∙ sym (ap (slice_get (set ds i e)) here) ∙ is) in
      subst (λ (x : D). AreAmong (disk.images after) (disk.images x)) b (subst (λ (x : D). AreAmong (disk.images x) (disk.images d)) a reads.images))
      (λ (other : j ≢ i).
      let same : before ≡ after = same_Some before after (sym was ∙ sym (slice_get_set_other ds i j e other) ∙ is) in
      λ c left. subst (λ (x : D). disk.images x c) (sym same) left)
      (cases_eq j i);
}

-- what tells a fault tells what follows from it
pub tells_as : {T E P Q R S : Type 0} (is_fault : E → Bool) (result : Result T E) → (P → R) → (Q → S) → TellsFault is_fault result P Q → TellsFault is_fault result R S
tells_as is_fault (Ok t) rises stays cause = stays cause
tells_as {P = P} {Q = Q} {R = R} {S = S} is_fault (Err e) rises stays cause = at (is_fault e) cause
  where
    at : (b : Bool) → MatchBool b P Q → MatchBool b R S
    at true cause = rises cause
    at false cause = stays cause

-- the counts of faults after a call of one disk
module _ {X T E : Type 0} (f : X → ℕ) (is_fault : E → Bool) (xs ys : List X) (i : ℕ) (x y : X) (result : Result T E) (at : slice_get xs i ≡ Some x) (is : ys ≡ set xs i y) where
  stayed : f y ≡ f x → map f ys ≡ map f xs
  stayed same = ap (map f) is ∙ map_same f xs i x y at same

  rose : HasRisen (f x) (f y) → OneHasRisen (map f xs) (map f ys)
  rose risen = subst (λ (zs : List X). OneHasRisen (map f xs) (map f zs)) (sym is) (risen_set f xs i x y at risen).0

  pub tells_set : CountsFault is_fault result (f x) (f y) → TellsFault is_fault result (OneHasRisen (map f xs) (map f ys)) (map f ys ≡ map f xs)
  tells_set cause = tells_as is_fault result rose stayed cause
