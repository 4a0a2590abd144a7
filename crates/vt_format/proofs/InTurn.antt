-- Sections that are put to use in turn.
use Rattle.std.proofs.Common.{◌≡◌, ⊎_elim, ℕ, ◌+◌, ◌<◌, ◌≤◌, List, Some, length, take, set, sym, ◌∙◌, ap, subst, arith}
use Rattle.std.specs.Prelude.{IsTrue, slice_get, slice_index_or, sum_by, Err}
use Rattle.std.proofs.lemmas.Bool.{cases_lt}
use Rattle.std.proofs.lemmas.List.{length-set}
use Rattle.std.proofs.lemmas.List.Sums.{sum_by-take-le, sum_by_more}
use Rattle.std.proofs.lemmas.Option.{get_or_from_slice_get, same_Some, slice_get_within}
use Rattle.vt_base.specs.Faults.{CountsFault, HasRisen}
use Rattle.vt_disk.specs.Members.{DiskOf}
use Rattle.vt_isect.specs.declared.error.ShardErr.{ShardErr}
use Rattle.vt_isect.specs.declared.error.ShardErr.TheVariants.{Fault as fault}
use Rattle.vt_isect.specs.Faults.{is_section_fault}
use Rattle.vt_isect.specs.Section.{SectionState}
use Rattle.vt_log.proofs.Lists.{slice_get_set_other, slice_get_set_same}
use Rattle.vt_format.specs.Usage.{AreUsed, IsMidway, IsUsed, StopsAtSection, total_buckets, buckets_before}

pub record AreUsedTo {D : Type 0} (disk : DiskOf D) (total number first : ℕ) (olds news : List (SectionState D)) : Type 0 where
  pub many : length news ≡ length olds
  pub first_is : first ≡ buckets_before olds number
  pub used : (k : ℕ) (a b : SectionState D) → k < number → slice_get olds k ≡ Some a → slice_get news k ≡ Some b
      → IsUsed disk (buckets_before olds k) total a b
  pub rest : (k : ℕ) → number ≤ k → slice_get news k ≡ slice_get olds k

-- the first so many and one more
pub sum_next : {X : Type 0} (f : X → ℕ) (xs : List X) (i : ℕ) (x : X) → slice_get xs i ≡ Some x
    → sum_by f (take (i + 1) xs) ≡ sum_by f (take i xs) + f x
sum_next f xs i x at =
    sum_by_more f xs i x (slice_get_within xs i x at) ∙ ap (λ (n : ℕ). sum_by f (take i xs) + n) (ap f (get_or_from_slice_get xs i x x at))

module _ {D : Type 0} (disk : DiskOf D) (total number first : ℕ) (olds mids : List (SectionState D)) (old new : SectionState D)
    (it : AreUsedTo disk total number first olds mids) (at : slice_get mids number ≡ Some old) where
  within : number < length mids
  within = slice_get_within mids number old at

  old_at : slice_get olds number ≡ Some old
  old_at = sym (it.rest number (omega arith)) ∙ at

  -- the element at this place, or another one
  here : (a b : SectionState D) → slice_get olds number ≡ Some a → slice_get (set mids number new) number ≡ Some b → (a ≡ old) × (b ≡ new)
  here a b at_a at_b = (
    same_Some a old (sym at_a ∙ old_at),
    same_Some b new (sym at_b ∙ slice_get_set_same mids number new within),
  )

  -- it was there from the first
  pub same_old : (d : SectionState D) → slice_index_or olds number d ≡ old
  same_old d = get_or_from_slice_get olds number old d old_at

  -- its buckets are among those of all
  pub within_all : first + old.buckets ≤ total_buckets olds
  within_all =
      let next : buckets_before olds (number + 1) ≡ buckets_before olds number + old.buckets = sum_next (λ section. section.buckets) olds number old old_at in
      let all : buckets_before olds (number + 1) ≤ total_buckets olds = sum_by-take-le (λ (section : SectionState D). section.buckets) olds (number + 1) in
      omega (arith, next, all, it.first_is)

  pub used_more : IsUsed disk first total old new → AreUsedTo disk total (number + 1) (first + old.buckets) olds (set mids number new)
  used_more used = record {
    many = length-set {A = SectionState D} mids number new ∙ it.many;
    first_is = ap (λ (n : ℕ). n + old.buckets) it.first_is ∙ sym (sum_next (λ section. section.buckets) olds number old old_at);
    used = λ k a b below at_a at_b. ⊎_elim
        (λ (before : k < number).
        it.used k a b before at_a (sym (slice_get_set_other mids number k new (λ same. omega (arith, before, same))) ∙ at_b))
        (λ (behind : number ≤ k).
        let same : number ≡ k = omega (arith, below, behind) in
        let are = here a b (ap (slice_get olds) same ∙ at_a) (ap (slice_get (set mids number new)) same ∙ at_b) in
        subst (λ (n : ℕ). IsUsed disk n total a b) (it.first_is ∙ ap (buckets_before olds) same)
        (subst (λ (x : SectionState D). IsUsed disk first total x b) (sym are.0)
        (subst (λ (y : SectionState D). IsUsed disk first total old y) (sym are.1) used)))
        (cases_lt k number);
    rest = λ k behind. slice_get_set_other mids number k new (λ same. omega (arith, behind, same)) ∙ it.rest k (omega (arith, behind));
  }

  pub stops : HasRisen (disk.faults old.disk) (disk.faults new.disk) → disk.size new.disk ≡ disk.size old.disk
      → (IsTrue disk.tells → IsMidway disk first total old new) → StopsAtSection disk number total olds (set mids number new)
  stops rose size midway = record {
    many = length-set {A = SectionState D} mids number new ∙ it.many;
    each = λ k a b at_a at_b. ⊎_elim
        (λ (before : k < number).
        let used = it.used k a b before at_a (sym (slice_get_set_other mids number k new (λ same. omega (arith, before, same))) ∙ at_b) in
        record {
          size = used.size;
          rose = λ same. absurd (omega (arith, before, same));
          others = λ other. used.faults;
          before = λ is. used;
          midway = λ is. absurd (omega (arith, before, is));
          behind = λ is. absurd (omega (arith, before, is));
        })
        (λ (least : number ≤ k). ⊎_elim
        (λ (behind : number < k).
        let same : b ≡ a = same_Some b a (sym at_b ∙ slice_get_set_other mids number k new (λ same. omega (arith, behind, same))
        ∙ it.rest k (omega (arith, behind)) ∙ at_a) in
        record {
          size = ap (λ (x : SectionState D). disk.size x.disk) same;
          rose = λ is. absurd (omega (arith, behind, is));
          others = λ other. ap (λ (x : SectionState D). disk.faults x.disk) same;
          before = λ is. absurd (omega (arith, behind, is));
          midway = λ is. absurd (omega (arith, behind, is));
          behind = λ is. same;
        })
        (λ (most : k ≤ number).
        let same : number ≡ k = omega (arith, least, most) in
        let are = here a b (ap (slice_get olds) same ∙ at_a) (ap (slice_get (set mids number new)) same ∙ at_b) in
        record {
          size = ap (λ (x : SectionState D). disk.size x.disk) are.1 ∙ size ∙ ap (λ (x : SectionState D). disk.size x.disk) (sym are.0);
          rose = λ is. subst (λ (x : SectionState D). HasRisen (disk.faults x.disk) (disk.faults b.disk)) (sym are.0)
              (subst (λ (x : SectionState D). HasRisen (disk.faults old.disk) (disk.faults x.disk)) (sym are.1) rose);
          others = λ other. absurd (other (sym same));
          before = λ is. absurd (omega (arith, least, is));
          midway = λ is told. subst (λ (n : ℕ). IsMidway disk n total a b) (it.first_is ∙ ap (buckets_before olds) same)
              (subst (λ (x : SectionState D). IsMidway disk first total x b) (sym are.0)
              (subst (λ (y : SectionState D). IsMidway disk first total old y) (sym are.1) (midway told)));
          behind = λ is. absurd (omega (arith, most, is));
        })
        (cases_lt number k))
        (cases_lt k number);
  }

-- no call of a section is refused but for a fault, which is told
pub is_told : (bad : ShardErr) (old new : ℕ) → bad ≡ fault → CountsFault {T = Unit {0}} is_section_fault (Err bad) old new → HasRisen old new
is_told bad old new same told = subst (λ (b : ShardErr). CountsFault {T = Unit {0}} is_section_fault (Err b) old new) same told

-- all are, behind the last
pub all_used : {D : Type 0} (disk : DiskOf D) (total number first : ℕ) (olds news : List (SectionState D)) → AreUsedTo disk total number first olds news
    → length news ≤ number → AreUsed disk total olds news
all_used disk total number first olds news it all = record {
  many = it.many;
  each = λ i a b at_a at_b. it.used i a b (let below = slice_get_within news i b at_b in omega (arith, below, all)) at_a at_b;
}
