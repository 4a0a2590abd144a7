-- A section that is filled and then put to use.
use Rattle.std.proofs.Common.{◌≡◌, ⊎_elim, inl, inr, ℕ, ◌+◌, ◌*◌, ◌≤◌, List, length, Some, Option, refl, sym, ◌∙◌, ap, subst, arith}
use Rattle.std.specs.Prelude.{IsTrue, IsSome}
use Rattle.std.proofs.lemmas.Bool.Decides.{nat_tests}
use Rattle.std.proofs.lemmas.Option.{same_Some}
use Rattle.vt_base.specs.declared.place.Entry.{Entry}
use Rattle.vt_disk.specs.Members.{DiskOf}
use Rattle.vt_isect.specs.declared.head.Head.{Head}
use Rattle.vt_isect.specs.declared.phase.Phase.{Phase}
use Rattle.vt_isect.specs.declared.phase.Phase.TheVariants.{Rest, ChangeHead}
use Rattle.vt_isect.specs.Agreement.{IsMarkCovered, KnownAgrees, NoOthers}
use Rattle.vt_isect.specs.Filling.{ReadsKnown, with_buckets}
use Rattle.vt_isect.specs.Layout.{InRange}
use Rattle.vt_isect.specs.Section.{IsTodo, PutsEntries, SectionState}
use Rattle.vt_isect.specs.Sound.{DiskHolds, KnownBuckets, nothing_known}
use Rattle.vt_model.specs.History.{History}
use Rattle.vt_model.specs.Places.{Setup, bucket_count}
use Rattle.vt_rebuild.specs.Building.{IsFinished, IsStoppedBuild, IsToFinish, StopsInUse, in_use}
use Rattle.vt_rebuild.specs.Filling.{HasFilled}
use Rattle.vt_rebuild.specs.Gathering.{CanIndex, HasItsBlocks}
use Rattle.vt_rebuild.specs.Heads.{HasHead, IsSameSection}

-- no bucket is among none
pub none_among : (first n : ℕ) (entries : Option (List Entry)) (known : KnownBuckets) → with_buckets first 0 entries known n ≡ known n
none_among first n entries known = grind (arith, nat_tests)

module _ {D : Type 0} (score : List ℕ → List ℕ) (disk : DiskOf D) (c : Setup) (h : History) (t : SectionState D)
    (none_todo : (entry : Entry) → IsTodo t entry → ⊥) (first : t.next.first ≡ t.head.first) (same_total : t.next.total ≡ t.head.total)
    (total : t.head.total ≡ bucket_count c) (filed_mark : t.head.state ≡ 1 → t.head.mark ≡ length h) (coming_mark : t.next.mark ≡ length h)
    (can : CanIndex score c h t.head.total) (known : KnownBuckets)
    (each : (n : ℕ) → InRange t.head t.buckets n → (entries : List Entry) × (known n ≡ Some entries) × HasItsBlocks score c h n entries) where
  its : (n : ℕ) (entries : List Entry) → InRange t.head t.buckets n → known n ≡ Some entries → HasItsBlocks score c h n entries
  its n entries within is =
      let it = each n within in
      subst (λ (es : List Entry). HasItsBlocks score c h n es) (same_Some it.0 entries (sym it.1 ∙ is)) it.2

  covered : (others : Entry → Type 0) → IsMarkCovered score c h t known others (length h)
  covered others = record {
    fits = omega arith;
    has = λ n i entries within is below belongs.
        let it = (its n entries within is).all i belongs in
        (it.0, inl it.1, it.2);
  }

  -- what is known of a section whose buckets have all blocks agrees with the history
  pub agrees : KnownAgrees score c h t known
  agrees = record {
    keys = can.keys;
    total = total;
    same_first = first;
    same_total = same_total;
    whole = λ n within. let it = each n within in subst (λ (o : Option (List Entry)). IsSome o) (sym it.1) refl;
    blocks = λ n entries entry within is has. (its n entries within is).own entry has;
    todo = λ entry todo. absurd (none_todo entry todo);
    filed = λ live. subst (λ (m : ℕ). IsMarkCovered score c h t known NoOthers m) (sym (filed_mark live)) (covered NoOthers);
    coming = λ live. subst (λ (m : ℕ). IsMarkCovered score c h t known (IsTodo t) m) (sym coming_mark) (covered (IsTodo t));
  }

-- nothing is still to be put into a bucket
none_at_rest : {D : Type 0} (t : SectionState D) → t.phase ≡ Rest → (entry : Entry) → IsTodo t entry → ⊥
none_at_rest t rest entry todo = subst (λ (p : Phase). PutsEntries p) rest todo.0

none_at_head : {D : Type 0} (t : SectionState D) → t.phase ≡ ChangeHead → (entry : Entry) → IsTodo t entry → ⊥
none_at_head t change entry todo = subst (λ (p : Phase). PutsEntries p) change todo.0

pub same_then : {D : Type 0} (disk : DiskOf D) (a b c : SectionState D) → IsSameSection disk a b → IsSameSection disk b c → IsSameSection disk a c
same_then disk a b c one two = record { name = two.name ∙ one.name; buckets = two.buckets ∙ one.buckets; size = two.size ∙ one.size }

module _ {D : Type 0} (score : List ℕ → List ℕ) (disk : DiskOf D) (c : Setup) (h : History) (total blocks : ℕ) (old mid new : SectionState D)
    (tells : IsTrue disk.tells) (to : IsToFinish total old) (same : mid ≡ record old { disk = mid.disk })
    (filled : HasFilled score disk c h old.head.first (old.head.first + old.buckets) mid)
    (holds : DiskHolds disk old nothing_known → DiskHolds disk mid nothing_known)
    (can : CanIndex score c h total) (all : blocks ≡ length h)
    (size_mid : disk.size mid.disk ≡ disk.size old.disk) (same_new : IsSameSection disk mid new) where
  mid_head : mid.head ≡ old.head
  mid_head = ap (λ (t : SectionState D). t.head) same

  buckets_are : new.buckets ≡ old.buckets
  buckets_are = same_new.buckets ∙ ap (λ (t : SectionState D). t.buckets) same

  is_same : IsSameSection disk old new
  is_same = record {
    name = same_new.name ∙ ap (λ (t : SectionState D). t.name) same;
    buckets = buckets_are;
    size = same_new.size ∙ size_mid;
  }

  in_use_head : in_use blocks mid.head ≡ in_use (length h) old.head
  in_use_head = ap (λ (n : ℕ). in_use n mid.head) all ∙ ap (λ (x : Head). in_use (length h) x) mid_head

  -- each bucket of the section, whose numbers are as they were
  each_of : new.head.first ≡ old.head.first → (n : ℕ) → InRange new.head new.buckets n
      → (entries : List Entry) × (filled.known n ≡ Some entries) × HasItsBlocks score c h n entries
  each_of first n within = filled.each n (omega (arith, within.0, first)) (omega (arith, within.1, first, buckets_are))

  can_of : (n : ℕ) → n ≡ total → CanIndex score c h n
  can_of n is = record { buckets = can.buckets ∙ sym is; keys = can.keys }

  pub finishes : HasHead disk (in_use blocks mid.head) mid new
      → ((known : KnownBuckets) → IsTrue disk.tells → DiskHolds disk mid nothing_known → ReadsKnown disk mid known → DiskHolds disk new known)
      → disk.calls new.disk ≤ disk.calls old.disk + (2 * old.buckets + 5) → IsFinished score disk c h old new
  finishes head used calls =
      let head_is : new.head ≡ in_use (length h) old.head = head.head_is ∙ in_use_head in
      let next_is : new.next ≡ new.head = head.next_is ∙ sym head.head_is in
      let first : new.head.first ≡ old.head.first = ap (λ (x : Head). x.first) head_is in
      let total_is : new.head.total ≡ total = ap (λ (x : Head). x.total) head_is ∙ to.total_is in
      let mark : new.head.mark ≡ length h = ap (λ (x : Head). x.mark) head_is in
      record {
        same = is_same;
        rest = head.rest;
        head = head_is;
        settled = head.settled;
        calls = calls;
        all = λ was. record {
          known = filled.known;
          holds = used filled.known tells (holds was) filled.reads;
          agrees = agrees score disk c h new (none_at_rest new head.rest) (ap (λ (x : Head). x.first) next_is) (ap (λ (x : Head). x.total) next_is)
              (total_is ∙ sym can.buckets) (λ _. mark) (ap (λ (x : Head). x.mark) next_is ∙ mark) (can_of new.head.total total_is) filled.known (each_of first);
        };
      }

  pub stops : StopsInUse disk (in_use blocks mid.head) mid new → IsStoppedBuild score disk c h old new
  stops stop =
      let head_is : new.head ≡ old.head = stop.head_is ∙ mid_head in
      let first : new.head.first ≡ old.head.first = ap (λ (x : Head). x.first) head_is in
      let total_is : new.head.total ≡ total = ap (λ (x : Head). x.total) head_is ∙ to.total_is in
      record {
        same = is_same;
        head = head_is;
        holds = λ was. stop.holds tells (holds was);
        next = λ was. ⊎_elim
            (λ stays. inl stays)
            (λ coming.
            let next_is : new.next ≡ in_use (length h) old.head = coming.0 ∙ in_use_head in
            let not_live : new.head.state ≡ 1 → ⊥ = λ live. let two : 2 ≡ 1 = sym (ap (λ (x : Head). x.state) head_is ∙ to.state) ∙ live in cc in
            inr (
              next_is,
              record {
                known = filled.known;
                holds = coming.2 filled.known tells (holds was) filled.reads;
                agrees = agrees score disk c h new (none_at_head new coming.1) (ap (λ (x : Head). x.first) next_is ∙ sym first)
                    (ap (λ (x : Head). x.total) next_is ∙ sym (ap (λ (x : Head). x.total) head_is)) (total_is ∙ sym can.buckets)
                    (λ live. absurd (not_live live)) (ap (λ (x : Head). x.mark) next_is) (can_of new.head.total total_is) filled.known (each_of first);
              },
            ))
            stop.next;
      }

-- its buckets weren't all filled
pub unfilled : {D : Type 0} (score : List ℕ → List ℕ) (disk : DiskOf D) (c : Setup) (h : History) (total : ℕ) (old mid : SectionState D) → IsToFinish total old
    → mid ≡ record old { disk = mid.disk } → disk.size mid.disk ≡ disk.size old.disk → (DiskHolds disk old nothing_known → DiskHolds disk mid nothing_known)
    → IsStoppedBuild score disk c h old mid
unfilled {D} score disk c h total old mid to same size holds = record {
  same = record { name = ap (λ (t : SectionState D). t.name) same; buckets = ap (λ (t : SectionState D). t.buckets) same; size = size };
  head = ap (λ (t : SectionState D). t.head) same;
  holds = holds;
  next = λ was. inl (ap (λ (t : SectionState D). t.next) same ∙ to.next ∙ sym (ap (λ (t : SectionState D). t.head) same));
}
