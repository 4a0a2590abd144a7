-- Heads of sections that are changed in turn.
use Rattle.std.proofs.Common.{◌≡◌, inr, ℕ, ◌+◌, ◌≤◌, List, [], ◌∷◌, length, map, set, take, Some, refl, sym, ◌∙◌, ap, subst, arith}
use Rattle.std.specs.Prelude.{All, IsTrue, slice_get, sum}
use Rattle.std.proofs.lemmas.List.{length-set}
use Rattle.vt_base.specs.Faults.{HasRisen}
use Rattle.vt_disk.specs.Members.{DiskOf}
use Rattle.vt_isect.specs.Section.{IsAtRest, SectionState}
use Rattle.vt_log.specs.Faults.{OneHasRisen}
use Rattle.vt_model.specs.Places.{first_bucket}
use Rattle.vt_rebuild.specs.Building.{AreBegun, AreHalfBegun, IsBuildBegun, disks_under}
use Rattle.vt_rebuild.specs.Heads.{HasHead, IsSameSection, StopsAtHead, head_in}
use Rattle.vt_rebuild.specs.Rebuilt.{IsOpened, IsUnwrittenSection, counts_of}
use Rattle.vt_rebuild.proofs.Assembling.{at_all, first_behind, within_all}
use Rattle.vt_rebuild.proofs.InTurn.{AreDoneTo, all_done, all_stay, at_here, before, behind, done_more, map_then, none_done, old_at, one_rose, within}

abbrev pub BeginsAt : {D : Type 0} → DiskOf D → (total : ℕ) → (olds : List (SectionState D)) → ℕ → SectionState D → SectionState D → Type 0
BeginsAt disk total olds k a b = IsBuildBegun disk (first_bucket (counts_of olds) k) total a b

-- those before this place say that they are being built
pub record AreBeginning {D : Type 0} (disk : DiskOf D) (total number first : ℕ) (olds news : List (SectionState D)) : Type 0 where
  pub done : AreDoneTo (BeginsAt disk total olds) number olds news
  pub first_is : first ≡ first_bucket (counts_of olds) number
  pub faults : map disk.faults (disks_under news) ≡ map disk.faults (disks_under olds)

first_none : (ns : List ℕ) → 0 ≡ sum (take 0 ns)
first_none [] = refl
first_none (n ∷ ns) = refl

pub begin_beginning : {D : Type 0} (disk : DiskOf D) (total : ℕ) (olds : List (SectionState D)) → AreBeginning disk total 0 0 olds olds
begin_beginning disk total olds = record { done = none_done (BeginsAt disk total olds) olds; first_is = first_none (counts_of olds); faults = refl }

-- the counts of a list of which one section is another
pub counts_set : {D : Type 0} (disk : DiskOf D) (mids : List (SectionState D)) (number : ℕ) (old new : SectionState D) → slice_get mids number ≡ Some old
    → disk.faults new.disk ≡ disk.faults old.disk → map disk.faults (disks_under (set mids number new)) ≡ map disk.faults (disks_under mids)
counts_set {D} disk mids number old new at same =
    let f : SectionState D → ℕ = λ t. disk.faults t.disk in
    map_then (λ (t : SectionState D). t.disk) disk.faults (set mids number new) ∙ all_stay f mids number old new at same
    ∙ sym (map_then (λ (t : SectionState D). t.disk) disk.faults mids)

pub counts_rise : {D : Type 0} (disk : DiskOf D) (mids : List (SectionState D)) (number : ℕ) (old new : SectionState D) → slice_get mids number ≡ Some old
    → HasRisen (disk.faults old.disk) (disk.faults new.disk) → OneHasRisen (map disk.faults (disks_under mids)) (map disk.faults (disks_under (set mids number new)))
counts_rise {D} disk mids number old new at rose =
    let f : SectionState D → ℕ = λ t. disk.faults t.disk in
    subst (λ (ns : List ℕ). OneHasRisen ns (map disk.faults (disks_under (set mids number new)))) (sym (map_then (λ (t : SectionState D). t.disk) disk.faults mids))
    (subst (λ (ns : List ℕ). OneHasRisen (map f mids) ns) (sym (map_then (λ (t : SectionState D). t.disk) disk.faults (set mids number new))) (one_rose f mids number old new at rose))

-- the section that comes next is as it was opened, and its buckets are among all
pub next_rest : {D : Type 0} (disk : DiskOf D) (total number first : ℕ) (olds mids : List (SectionState D)) (old : SectionState D)
    → AreBeginning disk total number first olds mids → All (IsOpened disk) olds → slice_get mids number ≡ Some old → IsAtRest old
next_rest disk total number first olds mids old it opened at =
    (at_all (IsOpened disk) olds number old opened (old_at (BeginsAt disk total olds) number olds mids old old it.done at)).rest

pub next_fits : {D : Type 0} (disk : DiskOf D) (total number first : ℕ) (olds mids : List (SectionState D)) (old : SectionState D)
    → AreBeginning disk total number first olds mids → slice_get mids number ≡ Some old → first + old.buckets ≤ sum (counts_of olds)
next_fits disk total number first olds mids old it at =
    omega (arith, it.first_is, within_all olds number old (old_at (BeginsAt disk total olds) number olds mids old old it.done at))

is_begun : {D : Type 0} (disk : DiskOf D) (total first : ℕ) (old new : SectionState D) → HasHead disk (head_in 2 first old.buckets total 0) old new → IsSameSection disk old new
    → (IsTrue disk.tells → disk.calls new.disk ≤ disk.calls old.disk + 4) → IsBuildBegun disk first total old new
is_begun disk total first old new has same calls = record {
  rest = has.rest;
  built = record { same = same; head = has.head_is; next = has.next_is ∙ sym has.head_is; holds = has.holds };
  calls = calls;
}

module _ {D : Type 0} (disk : DiskOf D) (total number first : ℕ) (olds mids : List (SectionState D)) (old new : SectionState D)
    (it : AreBeginning disk total number first olds mids) (at : slice_get mids number ≡ Some old) (same : IsSameSection disk old new) where
  was_at : slice_get olds number ≡ Some old
  was_at = old_at (BeginsAt disk total olds) number olds mids old old it.done at

  pub begins_more : HasHead disk (head_in 2 first old.buckets total 0) old new → (IsTrue disk.tells → disk.calls new.disk ≤ disk.calls old.disk + 4)
      → disk.faults new.disk ≡ disk.faults old.disk → AreBeginning disk total (number + 1) (first + old.buckets) olds (set mids number new)
  begins_more has calls faults = record {
    done = done_more (BeginsAt disk total olds) number olds mids old new it.done at
        (subst (λ (n : ℕ). IsBuildBegun disk n total old new) it.first_is (is_begun disk total first old new has same calls));
    first_is = ap (λ (n : ℕ). n + old.buckets) it.first_is ∙ sym (first_behind olds number old was_at);
    faults = counts_set disk mids number old new at faults ∙ it.faults;
  }

  pub begins_stop : StopsAtHead disk (head_in 2 first old.buckets total 0) old new → AreHalfBegun disk total olds (set mids number new)
  begins_stop stop =
      let Stopped : ℕ → SectionState D → SectionState D → Type 0 = λ k a b. IsUnwrittenSection disk (first_bucket (counts_of olds) k) total a b in
      let here : Stopped number old new = subst (λ (n : ℕ). IsUnwrittenSection disk n total old new) it.first_is (inr (same, stop)) in
      record {
        at = number;
        within = omega (arith, it.done.many, within (BeginsAt disk total olds) number olds mids old new it.done at);
        many = length-set mids number new ∙ it.done.many;
        before = before (BeginsAt disk total olds) number olds mids old new it.done at;
        here = λ a b at_a at_b. at_here (BeginsAt disk total olds) number olds mids old new it.done at Stopped here number a b refl at_a at_b;
        behind = behind (BeginsAt disk total olds) number olds mids old new it.done at;
      }

  pub begins_rise : HasRisen (disk.faults old.disk) (disk.faults new.disk)
      → OneHasRisen (map disk.faults (disks_under olds)) (map disk.faults (disks_under (set mids number new)))
  begins_rise rose = subst (λ (ns : List ℕ). OneHasRisen ns (map disk.faults (disks_under (set mids number new)))) it.faults (counts_rise disk mids number old new at rose)

pub all_begun : {D : Type 0} (disk : DiskOf D) (total number first : ℕ) (olds news : List (SectionState D)) → AreBeginning disk total number first olds news
    → length news ≤ number → AreBegun disk total olds news
all_begun disk total number first olds news it all = record { many = it.done.many; each = all_done (BeginsAt disk total olds) number olds news it.done all }
