-- Sections that are open, of which the last was opened last.
use Rattle.std.proofs.Common.{◌≡◌, ℕ, ◌+◌, List, [], ◌∷◌, ◌++◌, Some, Ok, Err, Result, length, take, sym, ◌∙◌, ap, subst, arith, length-append}
use Rattle.std.specs.Prelude.{slice_get}
use Rattle.std.proofs.Math.Seq.{take-append_seam}
use Rattle.std.proofs.lemmas.List.{take-append-le}
use Rattle.std.proofs.lemmas.Option.{same_Some, slice_get_within}
use Rattle.vt_disk.specs.Members.{DiskOf}
use Rattle.vt_isect.specs.Section.{SectionState}
use Rattle.vt_log.proofs.Lists.{slice_get_left, slice_get_right}
use Rattle.vt_format.specs.declared.index.Index.{Index}
use Rattle.vt_format.specs.declared.index.IndexError.{IndexError}
use Rattle.vt_format.specs.declared.index.IndexError.TheVariants.{Fault, Refused, Stopped}
use Rattle.vt_format.specs.Index.{LeavesOpened}
use Rattle.vt_format.specs.Usage.{AreUsed, IsStoppedSection, IsUsed, StopsAtSection, total_buckets, buckets_before}

-- a list with one element more
module _ {X : Type 0} (xs : List X) (x : X) where
  pub last_get : slice_get (xs ++ x ∷ []) (length xs) ≡ Some x
  last_get = ap (slice_get (xs ++ x ∷ [])) (let e : length xs ≡ length xs + 0 = omega arith in e) ∙ slice_get_right xs (x ∷ []) 0

  pub front_get : (i : ℕ) (y : X) → slice_get xs i ≡ Some y → slice_get (xs ++ x ∷ []) i ≡ Some y
  front_get i y at = slice_get_left xs (x ∷ []) i (slice_get_within xs i y at) ∙ at

pub same_fronts : {X : Type 0} (xs ys : List X) (x y : X) → length (ys ++ y ∷ []) ≡ length (xs ++ x ∷ []) → length ys ≡ length xs
same_fronts xs ys x y many = omega (arith, many, length-append xs (x ∷ []), length-append ys (y ∷ []))

pub front_of : {X : Type 0} (xs ys : List X) (x y : X) → ys ++ y ∷ [] ≡ xs ++ x ∷ [] → ys ≡ xs
front_of {X = X} xs ys x y same =
    let many : length ys ≡ length xs = same_fronts xs ys x y (ap (λ (l : List X). length l) same) in
    sym (take-append_seam ys (y ∷ [])) ∙ ap (λ (n : ℕ). take n (ys ++ y ∷ [])) many ∙ ap (λ (l : List X). take (length xs) l) same
    ∙ take-append_seam xs (x ∷ [])

pub last_of : {X : Type 0} (xs ys : List X) (x y : X) → ys ++ y ∷ [] ≡ xs ++ x ∷ [] → y ≡ x
last_of {X = X} xs ys x y same =
    let fronts : ys ≡ xs = front_of xs ys x y same in
    same_Some y x (sym (last_get ys y) ∙ ap (λ (l : List X). slice_get l (length ys)) same
    ∙ ap (λ (l : List X). slice_get (xs ++ x ∷ []) (length l)) fronts ∙ last_get xs x)

-- how one of the open sections is left
abbrev pub LeavesOne : {D : Type 0} → DiskOf D → (number total : ℕ) → Result Index IndexError → (i first : ℕ) → (old new : SectionState D) → Type 0
LeavesOne disk number total (Ok it) i first old new = IsUsed disk first it.buckets old new
LeavesOne disk number total (Err (Fault part)) i first old new = new ≡ old
LeavesOne disk number total (Err (Refused bad)) i first old new = new ≡ old
LeavesOne disk number total (Err (Stopped part)) i first old new = (k : ℕ) × (part ≡ number + k) × IsStoppedSection disk k i first total old new

module _ {D : Type 0} (disk : DiskOf D) (olds news : List (SectionState D)) (old new : SectionState D) where
  first_in_front : (i : ℕ) (x : SectionState D) → slice_get olds i ≡ Some x → buckets_before (olds ++ old ∷ []) i ≡ buckets_before olds i
  first_in_front i x at =
      ap (λ (l : List (SectionState D)). total_buckets l) (take-append-le i olds (old ∷ []) (let below = slice_get_within olds i x at in omega (arith, below)))

  first_of_last : buckets_before (olds ++ old ∷ []) (length olds) ≡ total_buckets olds
  first_of_last = ap (λ (l : List (SectionState D)). total_buckets l) (take-append_seam olds (old ∷ []))

  last_new : length news ≡ length olds → slice_get (news ++ new ∷ []) (length olds) ≡ Some new
  last_new many = ap (slice_get (news ++ new ∷ [])) (sym many) ∙ last_get news new

  used : (total : ℕ) → AreUsed disk total (olds ++ old ∷ []) (news ++ new ∷ [])
      → AreUsed disk total olds news × IsUsed disk (total_buckets olds) total old new
  used total it =
      let many : length news ≡ length olds = same_fronts olds news old new it.many in (
        record {
          many = many;
          each = λ i a b at_a at_b. subst (λ (n : ℕ). IsUsed disk n total a b) (first_in_front i a at_a)
              (it.each i a b (front_get olds old i a at_a) (front_get news new i b at_b));
        },
        subst (λ (n : ℕ). IsUsed disk n total old new) first_of_last (it.each (length olds) old new (last_get olds old) (last_new many)),
      )

  stopped : (k total : ℕ) → StopsAtSection disk k total (olds ++ old ∷ []) (news ++ new ∷ [])
      → StopsAtSection disk k total olds news × IsStoppedSection disk k (length olds) (total_buckets olds) total old new
  stopped k total it =
      let many : length news ≡ length olds = same_fronts olds news old new it.many in (
        record {
          many = many;
          each = λ i a b at_a at_b. subst (λ (n : ℕ). IsStoppedSection disk k i n total a b) (first_in_front i a at_a)
              (it.each i a b (front_get olds old i a at_a) (front_get news new i b at_b));
        },
        subst (λ (n : ℕ). IsStoppedSection disk k (length olds) n total old new) first_of_last
            (it.each (length olds) old new (last_get olds old) (last_new many)),
      )

  pub split : (number total : ℕ) (r : Result Index IndexError) → LeavesOpened disk number total r (olds ++ old ∷ []) (news ++ new ∷ [])
      → LeavesOpened disk number total r olds news × LeavesOne disk number total r (length olds) (total_buckets olds) old new
  split number total (Ok it) left = used it.buckets left
  split number total (Err (Fault part)) left = (front_of olds news old new left, last_of olds news old new left)
  split number total (Err (Refused bad)) left = (front_of olds news old new left, last_of olds news old new left)
  split number total (Err (Stopped part)) left =
      let parts = stopped left.0 total left.2 in ((left.0, left.1, parts.0), (left.0, left.1, parts.1))
