-- The tests of heads and marks, one after another.
use Rattle.std.proofs.Common.{◌≡◌, ◌⊎◌, ⊎_elim, inr, Option, None, Ok, Err, Result, ◌<◌, ◌≤◌, ◌+◌, ℕ, List, length, get_or, Some, refl, sym, ◌∙◌, ap, subst, arith}
use Rattle.std.specs.Prelude.{slice_get, sum, MatchResult}
use Rattle.std.proofs.lemmas.List.Sums.{sum_by_more, sum_by_more_le}
use Rattle.std.proofs.lemmas.Option.{get_or_from_slice_get, same_Some, slice_get_read, slice_get_within}
use Rattle.vt_base.specs.declared.mount.MountBad.{MountBad}
use Rattle.vt_base.specs.declared.mount.MountBad.TheVariants.{Disagree}
use Rattle.vt_base.specs.declared.mount.MountField.TheVariants.{Mark}
use Rattle.vt_bloom.specs.Bloom.{BloomState}
use Rattle.vt_isect.specs.declared.head.Head.{Head}
use Rattle.vt_isect.specs.Section.{SectionState}
use Rattle.vt_model.specs.Places.{first_bucket}
use Rattle.vt_core.specs.Opening.{TestsMarks, TestsParts, buckets_in_each, wrong_at}
use Rattle.vt_core.specs.Refusals.{wrong_head}

-- what was read at a place stands there
pub read_at : {X : Type 0} (xs : List X) (i : ℕ) (x : X) → i < length xs → x ≡ get_or xs i x → slice_get xs i ≡ Some x
read_at xs i x lt is = slice_get_read xs (length xs) i x refl lt is

pub first_next : (xs : List ℕ) (i x : ℕ) → slice_get xs i ≡ Some x → first_bucket xs (i + 1) ≡ first_bucket xs i + x
first_next xs i x at =
    sum_by_more (λ n. n) xs i x (slice_get_within xs i x at) ∙ ap (λ (n : ℕ). first_bucket xs i + n) (get_or_from_slice_get xs i x x at)

pub first_within : (xs : List ℕ) (i x : ℕ) → slice_get xs i ≡ Some x → first_bucket xs i + x ≤ sum xs
first_within xs i x at =
    omega (arith, sum_by_more_le (λ n. n) xs i x (slice_get_within xs i x at), get_or_from_slice_get xs i x x at)

-- what holds of the elements before a place, and of the one there, holds of those before the next
pub each_next : {X : Type 0} (xs : List X) (P : ℕ → X → Type 0) (i : ℕ) (x : X) → slice_get xs i ≡ Some x → P i x
    → ((k : ℕ) (y : X) → k < i → slice_get xs k ≡ Some y → P k y) → (k : ℕ) (y : X) → k < i + 1 → slice_get xs k ≡ Some y → P k y
each_next {X} xs P i x at here before k y lt there = ⊎_elim
    (λ (low : k < i). before k y low there)
    (λ (same : k ≡ i).
    let e : Some x ≡ Some y = sym at ∙ ap (slice_get xs) (sym same) ∙ there in
    let f : x ≡ y = cc in
    subst (λ (n : ℕ). P n y) (sym same) (subst (P i) f here))
    (cases k i lt)
  where
    cases : (a b : ℕ) → a < b + 1 → (a < b) ⊎ (a ≡ b)
    cases a b lt = grind arith

-- what is told of a head by the values as they were read
pub as_wrong : (part first first2 count count2 total total2 : ℕ) (head head2 : Head) (told : Option MountBad) → first ≡ first2 → count ≡ count2 → total ≡ total2 → head ≡ head2
    → wrong_head part first count total head ≡ told → wrong_head part first2 count2 total2 head2 ≡ told
as_wrong part first first2 count count2 total total2 head head2 told f c t h it =
    ap (λ (x : ℕ). wrong_head part x count2 total2 head2) (sym f) ∙ ap (λ (x : ℕ). wrong_head part first x total2 head2) (sym c)
    ∙ ap (λ (x : ℕ). wrong_head part first count x head2) (sym t) ∙ ap (λ (x : Head). wrong_head part first count total x) (sym h) ∙ it

-- the filter's mark is tested last
pub marks_of : {D U : Type 0} (part : ℕ) (sections : List (SectionState D)) (bloom : Option (BloomState D)) (len : ℕ) (b : BloomState D) → bloom ≡ Some b → (mark : ℕ) → mark ≡ b.mark
    → ((i : ℕ) (s : SectionState D) → slice_get sections i ≡ Some s → s.head.mark ≤ len) → (r : Result U MountBad)
    → MatchResult r (λ _. mark ≤ len) (λ bad. (len < mark) × (bad ≡ Disagree (part + length sections) Mark mark len)) → TestsMarks part sections bloom len r
marks_of {D} part sections bloom len b some mark is each (Ok done) it =
    (each, λ other there. let same : b.mark ≡ other.mark = ap (λ (x : BloomState D). x.mark) (same_Some b other (sym some ∙ there)) in omega (arith, same, is, it))
marks_of part sections bloom len b some mark is each (Err bad) it = (part + length sections, mark, inr (b, some, refl, is), it.0, it.1)

-- all of the tests
pub parts_of : {D U : Type 0} (part : ℕ) (sections : List (SectionState D)) (bloom : Option (BloomState D)) (len : ℕ) → sum (buckets_in_each sections) ≤ 1048576
    → ((i : ℕ) (s : SectionState D) → slice_get sections i ≡ Some s → wrong_at part sections i s ≡ None) → (r : Result U MountBad)
    → TestsMarks part sections bloom len r → TestsParts part sections bloom len r
parts_of part sections bloom len few heads (Ok done) it = (few, heads, it)
parts_of part sections bloom len few heads (Err bad) it = inr (inr it)
