-- What stands in lists, and disks that are only read from.
use Rattle.std.proofs.Common.{◌≡◌, ◌∙◌, ℕ, zero, suc, ◌<◌, List, [], ◌∷◌, Some, length, get_or, map, refl, sym, ap, subst, arith}
use Rattle.std.specs.Prelude.{All, Err, Ok, OnOk, Result, slice_get}
use Rattle.std.specs.List.{AllZip}
use Rattle.std.proofs.lemmas.List.{length-map}
use Rattle.std.proofs.lemmas.Option.{get_or_from_slice_get, same_Some, slice_get-get_or, slice_get_within}
use Rattle.vt_disk.specs.Members.{DiskOf}
use Rattle.vt_log.specs.Answers.{HoldTheSame}

-- what holds of each
pub at_all : {X : Type 0} (P : X → Type 0) (xs : List X) (i : ℕ) (x : X) → All P xs → slice_get xs i ≡ Some x → P x
at_all P xs i x all at = subst P (get_or_from_slice_get xs i x x at) (all i x (slice_get_within xs i x at))

pub some_at : {X : Type 0} (xs : List X) (i : ℕ) → i < length xs → (x : X) × (slice_get xs i ≡ Some x)
some_at [] i below = absurd (omega (arith, below))
some_at (x ∷ xs) zero below = (x, refl)
some_at (x ∷ xs) (suc i) below = some_at xs i (omega (arith, below))

pub hold_none : {D : Type 0} (disk : DiskOf D) (a : List D) → HoldTheSame disk a a
hold_none {D} disk a = record {
  bytes_are = refl;
  sizes_are = refl;
  images_are = λ i x y at there file image. subst (λ (d : D). disk.images d file) (same_Some y x (sym there ∙ at)) image;
}

-- what stands at a place of a list of the same length
beside : {X : Type 0} (a b : List X) (i : ℕ) (x : X) → length a ≡ length b → slice_get a i ≡ Some x → (y : X) × (slice_get b i ≡ Some y)
beside a b i x many at = (get_or b i x, slice_get-get_or b i x (omega (arith, many, slice_get_within a i x at)))

pub hold_then : {D : Type 0} (disk : DiskOf D) (a b c : List D) → HoldTheSame disk a b → HoldTheSame disk b c → HoldTheSame disk a c
hold_then disk a b c one two = record {
  bytes_are = two.bytes_are ∙ one.bytes_are;
  sizes_are = two.sizes_are ∙ one.sizes_are;
  images_are = λ i x z at there.
      let many : length a ≡ length b = sym (length-map a disk.bytes) ∙ ap length (sym one.bytes_are) ∙ length-map b disk.bytes in
      let y = beside a b i x many at in
      λ file image. one.images_are i x y.0 at y.1 file (two.images_are i y.0 z y.1 there file image);
}

-- what a call that went well gives of two facts
pub on_ok : {T E : Type 0} (r : Result T E) (P Q R : Type 0) → OnOk r P → OnOk r Q → (P → Q → R) → OnOk r R
on_ok (Ok x) P Q R p q f = f p q
on_ok (Err e) P Q R p q f = tt

pub ok_of : {T E : Type 0} (r : Result T E) (P : Type 0) → P → OnOk r P
ok_of (Ok x) P p = p
ok_of (Err e) P p = tt

pub zip_many : {X Y : Type 0} (R : X → Y → Type 0) (xs : List X) (ys : List Y) → AllZip R xs ys → length ys ≡ length xs
zip_many R [] [] it = refl
zip_many R [] (y ∷ ys) it = absurd it
zip_many R (x ∷ xs) [] it = absurd it
zip_many R (x ∷ xs) (y ∷ ys) it = ap suc (zip_many R xs ys it.1)
