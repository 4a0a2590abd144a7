-- Devices that hold what they held, and counts of failed calls, some behind others.
use Rattle.std.proofs.Common.{◌≡◌, ◌≢◌, ℕ, zero, suc, List, [], ◌∷◌, ◌++◌, length, map, Some, refl, sym, ◌∙◌, ap, arith}
use Rattle.std.specs.Prelude.{slice_get, slice_index}
use Rattle.std.specs.List.{AllZip}
use Rattle.std.proofs.lemmas.List.{length-map}
use Rattle.vt_base.specs.Faults.{HasRisen}
use Rattle.vt_base.specs.declared.mount.MountBad.{MountBad}
use Rattle.vt_base.specs.declared.mount.MountBad.TheVariants.{Fault, NotFormatted, TooSmall, DuplicateName, Disagree, Damaged, NoMemory}
use Rattle.vt_disk.specs.Disk.{AreAmong}
use Rattle.vt_disk.specs.Calls.{OnlyReads}
use Rattle.vt_disk.specs.Members.{DiskOf}
use Rattle.vt_log.specs.Answers.{HoldTheSame}
use Rattle.vt_log.specs.Faults.{OneHasRisen}
use Rattle.vt_recover.specs.Refusals.{CountsRefusal}
use Rattle.vt_open.proofs.Lists.{zip_append, zip_at}

-- one device holds what it held
pub record IsHeld {D : Type 0} (disk : DiskOf D) (old new : D) : Type 0 where
  pub bytes : disk.bytes new ≡ disk.bytes old
  pub size : disk.size new ≡ disk.size old
  pub images : AreAmong (disk.images new) (disk.images old)

pub zip_same : {X Y Z : Type 0} (f : X → Z) (g : Y → Z) (xs : List X) (ys : List Y) → AllZip (λ x y. g y ≡ f x) xs ys → map g ys ≡ map f xs
zip_same f g [] [] it = refl
zip_same f g [] (y ∷ ys) it = absurd it
zip_same f g (x ∷ xs) [] it = absurd it
zip_same f g (x ∷ xs) (y ∷ ys) it = let here = it.0 in let rest = zip_same f g xs ys it.1 in cc

pub zip_implies : {X Y : Type 0} (R S : X → Y → Type 0) (xs : List X) (ys : List Y) → ((x : X) (y : Y) → R x y → S x y) → AllZip R xs ys → AllZip S xs ys
zip_implies R S [] [] so it = tt
zip_implies R S [] (y ∷ ys) so it = absurd it
zip_implies R S (x ∷ xs) [] so it = absurd it
zip_implies R S (x ∷ xs) (y ∷ ys) so it = (so x y it.0, zip_implies R S xs ys so it.1)

module _ {D : Type 0} (disk : DiskOf D) where
  pub held_reads : (n : ℕ) (old new : D) → OnlyReads disk n old new → IsHeld disk old new
  held_reads n old new reads = record { bytes = reads.bytes; size = reads.size; images = reads.images }

  pub hold_zip : (old new : List D) → AllZip (IsHeld disk) old new → HoldTheSame disk old new
  hold_zip old new it = record {
    bytes_are = zip_same disk.bytes disk.bytes old new (zip_implies (IsHeld disk) (λ x y. disk.bytes y ≡ disk.bytes x) old new (λ x y h. h.bytes) it);
    sizes_are = zip_same disk.size disk.size old new (zip_implies (IsHeld disk) (λ x y. disk.size y ≡ disk.size x) old new (λ x y h. h.size) it);
    images_are = λ i before after here there. (zip_at (IsHeld disk) old new i before after it here there).images;
  }

  pub held_many : (old new : List D) → HoldTheSame disk old new → length new ≡ length old
  held_many old new it = sym (length-map new disk.size) ∙ ap length it.sizes_are ∙ length-map old disk.size

  -- and place by place
  pub zip_hold : (old new : List D) → HoldTheSame disk old new → AllZip (IsHeld disk) old new
  zip_hold old new it = each old new (held_many old new it) it.bytes_are it.sizes_are it.images_are
    where
      each : (old new : List D) → length new ≡ length old → map disk.bytes new ≡ map disk.bytes old → map disk.size new ≡ map disk.size old
          → ((i : ℕ) (before after : D) → slice_get old i ≡ Some before → slice_get new i ≡ Some after → AreAmong (disk.images after) (disk.images before))
          → AllZip (IsHeld disk) old new
      each [] [] many bytes sizes images = tt
      each [] (y ∷ ys) many bytes sizes images = absurd (omega (arith, many))
      each (x ∷ xs) [] many bytes sizes images = absurd (omega (arith, many))
      each (x ∷ xs) (y ∷ ys) many bytes sizes images =
          let few : length ys ≡ length xs = omega (arith, many) in
          let b : disk.bytes y ≡ disk.bytes x = cc in
          let bs : map disk.bytes ys ≡ map disk.bytes xs = cc in
          let s : disk.size y ≡ disk.size x = cc in
          let ss : map disk.size ys ≡ map disk.size xs = cc in
          (record { bytes = b; size = s; images = images 0 x y refl refl }, each xs ys few bs ss (λ i. images (suc i)))

  pub hold_more : (a b c d : List D) → HoldTheSame disk a b → HoldTheSame disk c d → HoldTheSame disk (a ++ c) (b ++ d)
  hold_more a b c d one two = hold_zip (a ++ c) (b ++ d) (zip_append (IsHeld disk) a c b d (zip_hold a b one) (zip_hold c d two))

  pub held_twice : (a b c : List D) → HoldTheSame disk a b → HoldTheSame disk b c → HoldTheSame disk a c
  held_twice a b c one two = hold_zip a c (twice a b c (zip_hold a b one) (zip_hold b c two))
    where
      twice : (a b c : List D) → AllZip (IsHeld disk) a b → AllZip (IsHeld disk) b c → AllZip (IsHeld disk) a c
      twice [] [] [] one two = tt
      twice [] [] (z ∷ c) one two = absurd two
      twice [] (y ∷ b) c one two = absurd one
      twice (x ∷ a) [] c one two = absurd one
      twice (x ∷ a) (y ∷ b) [] one two = absurd two
      twice (x ∷ a) (y ∷ b) (z ∷ c) one two =
          (record { bytes = two.0.bytes ∙ one.0.bytes; size = two.0.size ∙ one.0.size; images = λ f image. one.0.images f (two.0.images f image) }, twice a b c one.1 two.1)

  pub hold_none : HoldTheSame disk [] []
  hold_none = hold_zip [] [] tt

  pub hold_one : (x y : D) → IsHeld disk x y → HoldTheSame disk (x ∷ []) (y ∷ [])
  hold_one x y it = hold_zip (x ∷ []) (y ∷ []) (it, tt)

-- ---- counts of failed calls

pub risen_right : (less old new : List ℕ) → OneHasRisen old new → OneHasRisen (less ++ old) (less ++ new)
risen_right [] old new it = it
risen_right (n ∷ less) old new it =
    let rest = risen_right less old new it in
    record {
      many = omega (arith, rest.many);
      which = suc rest.which;
      within = omega (arith, rest.within);
      rose = rest.rose;
      others = λ i. other_at rest.which (less ++ old) (less ++ new) i rest.others;
    }
  where
    other_at : (w : ℕ) (a b : List ℕ) (i : ℕ) → ((j : ℕ) → j ≢ w → slice_index b j ≡ slice_index a j) → i ≢ suc w → slice_index (n ∷ b) i ≡ slice_index (n ∷ a) i
    other_at w a b zero others other = refl
    other_at w a b (suc i) others other = others i (λ e. other (omega (arith, e)))

pub risen_one : (a b : ℕ) → HasRisen a b → OneHasRisen (a ∷ []) (b ∷ [])
risen_one a b rose = record {
  many = refl;
  which = 0;
  within = omega arith;
  rose = rose;
  others = λ i. other_at i;
}
  where
    other_at : (i : ℕ) → i ≢ 0 → slice_index (b ∷ []) i ≡ slice_index (a ∷ []) i
    other_at zero other = absurd (other refl)
    other_at (suc i) other = refl

-- what holds of both cases holds of what is told
pub counts_by : (bad : MountBad) (old new : List ℕ) → (bad ≡ Fault → OneHasRisen old new) → (bad ≢ Fault → new ≡ old) → CountsRefusal bad old new
counts_by Fault old new risen stays = risen refl
counts_by (NotFormatted part) old new risen stays = stays (λ e. absurd (cc))
counts_by (TooSmall part len need) old new risen stays = stays (λ e. absurd (cc))
counts_by (DuplicateName first second) old new risen stays = stays (λ e. absurd (cc))
counts_by (Disagree part field found want) old new risen stays = stays (λ e. absurd (cc))
counts_by (Damaged site want found) old new risen stays = stays (λ e. absurd (cc))
counts_by NoMemory old new risen stays = stays (λ e. absurd (cc))

-- behind others that stay
pub counts_less : (bad : MountBad) (less old new : List ℕ) → CountsRefusal bad old new → CountsRefusal bad (less ++ old) (less ++ new)
counts_less Fault less old new it = risen_right less old new it
counts_less (NotFormatted part) less old new it = ap (λ (l : List ℕ). less ++ l) it
counts_less (TooSmall part len need) less old new it = ap (λ (l : List ℕ). less ++ l) it
counts_less (DuplicateName first second) less old new it = ap (λ (l : List ℕ). less ++ l) it
counts_less (Disagree part field found want) less old new it = ap (λ (l : List ℕ). less ++ l) it
counts_less (Damaged site want found) less old new it = ap (λ (l : List ℕ). less ++ l) it
counts_less NoMemory less old new it = ap (λ (l : List ℕ). less ++ l) it
