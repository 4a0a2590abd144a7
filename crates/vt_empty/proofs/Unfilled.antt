-- Sections that are made, and put to use.
use Rattle.std.proofs.Common.{◌≡◌, ◌+◌, ◌-◌, ◌*◌, ◌/◌, ◌^◌, ◌<◌, min, ℕ, zero, suc, List, [], ◌∷◌, ◌++◌, length, map, take, drop, replicate, Some, Ok, Err, Result, refl, sym, ◌∙◌, ap, subst, arith}
use Rattle.std.specs.Prelude.{All, IfOk, IsTrue, slice_get}
use Rattle.std.proofs.Math.Nat.{mul-div_cancel_left, suc-mul}
use Rattle.std.proofs.Math.Seq.{take-append_seam}
use Rattle.std.proofs.lemmas.List.{drop_all}
use Rattle.std.proofs.lemmas.List.Elements.{All-head, All-pop, All-tail}
use Rattle.std.proofs.lemmas.List.Sums.{sum_by-cons}
use Rattle.vt_disk.specs.Members.{DiskOf}
use Rattle.vt_isect.specs.declared.TheConstants.{BUCKET_PLACE_LEN, HEAD_PLACE_LEN}
use Rattle.vt_isect.specs.Layout.{IsSection, buckets_in}
use Rattle.vt_isect.specs.Section.{SectionState}
use Rattle.vt_format.specs.Usage.{AreUsed, IsUsed, StopsAtSection, total_buckets, buckets_before, head_in}
use Rattle.vt_empty.specs.Formatted.{AreUnfilled}
use Rattle.vt_empty.specs.Sections.{AreSections, IsSectionOf, len_for}
use Rattle.vt_empty.proofs.Never.{not_risen}

pub if_ok : {T E : Type 0} (r : Result T E) (P Q : T → Type 0) → ((x : T) → P x → Q x) → IfOk r P → IfOk r Q
if_ok (Ok x) P Q so it = so x it
if_ok (Err e) P Q so it = tt

-- a list that was written over by one as long is that one
pub written_back : {X : Type 0} (xs ys : List X) (n : ℕ) → length xs ≡ length ys → n ≡ length ys → take n (xs ++ drop (length xs) ys) ≡ xs
written_back xs ys n same len =
    ap (λ (rest : List _). take n (xs ++ rest)) (drop_all (length xs) ys (omega (arith, same)))
    ∙ ap (λ (k : ℕ). take k (xs ++ [])) (len ∙ sym same) ∙ take-append_seam xs []

pub one_len : (b : ℕ) → b < 2 ^ 32 → buckets_in (len_for b) ≡ b
one_len b fits =
    let behind : len_for b - HEAD_PLACE_LEN ≡ BUCKET_PLACE_LEN * b = omega arith in
    let whole : (len_for b - HEAD_PLACE_LEN) / BUCKET_PLACE_LEN ≡ b = ap (λ (n : ℕ). n / BUCKET_PLACE_LEN) behind ∙ mul-div_cancel_left b (omega arith) in
    let least : min b (2 ^ 32 - 1) ≡ b = omega arith in
    ap (λ (n : ℕ). min n (2 ^ 32 - 1)) whole ∙ least

module _ {D : Type 0} (disk : DiskOf D) where
  pub buckets_all : (b : ℕ) → b < 2 ^ 32 → (ts : List (SectionState D)) → All (IsSectionOf disk (len_for b)) ts → total_buckets ts ≡ length ts * b
  buckets_all b fits [] each = omega arith
  buckets_all b fits (t ∷ ts) each =
      let here : t.buckets ≡ b = (All-head (IsSectionOf disk (len_for b)) t ts each).buckets ∙ one_len b fits in
      let rest = buckets_all b fits ts (All-tail (IsSectionOf disk (len_for b)) t ts each) in
      let sums : total_buckets (t ∷ ts) ≡ t.buckets + total_buckets ts = sum_by-cons (λ (s : SectionState D). s.buckets) t ts in
      let more : length ts + 1 ≡ suc (length ts) = omega arith in
      let product : (length ts + 1) * b ≡ length ts * b + b = ap (λ (n : ℕ). n * b) more ∙ suc-mul (length ts) b in
      omega (arith, here, rest, sums, product)

  unfilled_from : (b : ℕ) → b < 2 ^ 32 → (first total : ℕ) (olds news : List (SectionState D)) → IsTrue disk.tells → length news ≡ length olds
      → ((i : ℕ) (old new : SectionState D) → slice_get olds i ≡ Some old → slice_get news i ≡ Some new → IsUsed disk (first + buckets_before olds i) total old new)
      → All (IsSectionOf disk (len_for b)) olds → total ≡ first + total_buckets olds → AreUnfilled disk first total (map (λ (s : SectionState D). s.disk) news)
  unfilled_from b fits first total [] [] told many each made whole = omega (arith, whole)
  unfilled_from b fits first total [] (n ∷ ns) told many each made whole = absurd (omega (arith, many))
  unfilled_from b fits first total (o ∷ os) [] told many each made whole = absurd (omega (arith, many))
  unfilled_from b fits first total (o ∷ os) (n ∷ ns) told many each made whole =
      let none : first + buckets_before (o ∷ os) 0 ≡ first = omega arith in
      let used : IsUsed disk first total o n = subst (λ (f : ℕ). IsUsed disk f total o n) none (each 0 o n refl refl) in
      let was = All-head (IsSectionOf disk (len_for b)) o os made in
      let size : disk.size n.disk ≡ len_for b = used.size ∙ was.size_is in
      let count : o.buckets ≡ buckets_in (disk.size n.disk) = was.buckets ∙ ap (λ (k : ℕ). buckets_in k) (sym size) in
      let sums : total_buckets (o ∷ os) ≡ o.buckets + total_buckets os = sum_by-cons (λ (s : SectionState D). s.buckets) o os in
      let few : length ns ≡ length os = omega (arith, many) in
      let later : total ≡ (first + buckets_in (disk.size n.disk)) + total_buckets os = omega (arith, whole, sums, count) in (
        record {
          name = o.name;
          images = λ c is. subst (λ (k : ℕ). IsSection o.name (head_in 1 first k total) k (λ m. []) c) count (used.in_use.images told c is);
        },
        unfilled_from b fits (first + buckets_in (disk.size n.disk)) total os ns told few
            (λ i old new at also.
            let cons : total_buckets (o ∷ take i os) ≡ o.buckets + total_buckets (take i os) = sum_by-cons (λ (s : SectionState D). s.buckets) o (take i os) in
            let place : first + buckets_before (o ∷ os) (suc i) ≡ (first + buckets_in (disk.size n.disk)) + buckets_before os i = omega (arith, cons, count) in
            subst (λ (f : ℕ). IsUsed disk f total old new) place (each (suc i) old new at also))
            (All-tail (IsSectionOf disk (len_for b)) o os made) later,
      )

  pub all_unfilled : (b count total : ℕ) → b < 2 ^ 32 → (olds news : List (SectionState D)) → IsTrue disk.tells → AreSections disk count b olds → total ≡ total_buckets olds → AreUsed disk total olds news
      → AreUnfilled disk 0 (count * b) (map (λ (s : SectionState D). s.disk) news)
  all_unfilled b count total fits olds news told made whole used =
      let many = made.many in
      let sums = buckets_all b fits olds made.each in
      let product : length olds * b ≡ count * b = ap (λ (n : ℕ). n * b) many in
      let all : total ≡ count * b = whole ∙ sums ∙ product in
      let begins : total ≡ 0 + total_buckets olds = omega (arith, whole) in
      subst (λ (t : ℕ). AreUnfilled disk 0 t (map (λ (s : SectionState D). s.disk) news)) all
      (unfilled_from b fits 0 total olds news told used.many
      (λ i old new at also. let e : buckets_before olds i ≡ 0 + buckets_before olds i = omega arith in subst (λ (f : ℕ). IsUsed disk f total old new) e (used.each i old new at also))
      made.each begins)

  pub all_counts : (b count : ℕ) → b < 2 ^ 32 → (olds news : List (SectionState D)) → length news ≡ length olds → length olds ≡ count
      → ((i : ℕ) (old new : SectionState D) → slice_get olds i ≡ Some old → slice_get news i ≡ Some new → disk.size new.disk ≡ disk.size old.disk)
      → All (IsSectionOf disk (len_for b)) olds → map (λ (d : D). buckets_in (disk.size d)) (map (λ (s : SectionState D). s.disk) news) ≡ replicate count b
  all_counts b zero fits [] [] many count sizes made = refl
  all_counts b (suc n) fits [] [] many count sizes made = absurd (omega (arith, count))
  all_counts b n fits [] (y ∷ news) many count sizes made = absurd (omega (arith, many))
  all_counts b n fits (x ∷ olds) [] many count sizes made = absurd (omega (arith, many))
  all_counts b zero fits (x ∷ olds) (y ∷ news) many count sizes made = absurd (omega (arith, count))
  all_counts b (suc n) fits (x ∷ olds) (y ∷ news) many count sizes made =
      let was = All-head (IsSectionOf disk (len_for b)) x olds made in
      let here : buckets_in (disk.size y.disk) ≡ b = ap (λ (k : ℕ). buckets_in k) (sizes 0 x y refl refl ∙ was.size_is) ∙ one_len b fits in
      let few : length news ≡ length olds = omega (arith, many) in
      let less : length olds ≡ n = omega (arith, count) in
      let rest = all_counts b n fits olds news few less (λ i. sizes (suc i)) (All-tail (IsSectionOf disk (len_for b)) x olds made) in
      ap (λ (k : ℕ). k ∷ map (λ (d : D). buckets_in (disk.size d)) (map (λ (s : SectionState D). s.disk) news)) here ∙ ap (λ (ks : List ℕ). b ∷ ks) rest

  there_at : {X : Type 0} (xs : List X) (i : ℕ) → i < length xs → (x : X) × (slice_get xs i ≡ Some x)
  there_at [] i within = absurd (omega (arith, within))
  there_at (x ∷ xs) zero within = (x, refl)
  there_at (x ∷ xs) (suc i) within = let less : i < length xs = omega (arith, within) in there_at xs i less

  pub never_stops : ((d : D) → disk.faults d ≡ 0) → (number total : ℕ) (olds news : List (SectionState D)) → number < length olds → StopsAtSection disk number total olds news → ⊥
  never_stops never number total olds news within stops =
      let many = stops.many in
      let old = there_at olds number within in
      let also : number < length news = omega (arith, within, many) in
      let new = there_at news number also in
      not_risen disk never old.0.disk new.0.disk ((stops.each number old.0 new.0 old.1 new.1).rose refl)

-- what holds of each of a list holds of all but the last, and of the last
module _ {X : Type 0} (P : X → Type 0) where
  pub front_all : (xs front : List X) (x : X) → xs ≡ front ++ x ∷ [] → All P xs → All P front
  front_all xs front x is all = (All-pop P xs front (Some x) is all).0

  pub last_is : (xs front : List X) (x : X) → xs ≡ front ++ x ∷ [] → All P xs → P x
  last_is xs front x is all = (All-pop P xs front (Some x) is all).1
