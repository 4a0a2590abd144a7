-- A section that is put to use: its head was changed, its buckets were cleared, and its head was
-- changed again.
use Rattle.std.proofs.Common.{◌≡◌, ◌≢◌, inl, inr, ⊎_elim, ℕ, ◌+◌, ◌<◌, ◌≤◌, List, [], Some, Option, Ok, Err, Result, refl, sym, ◌∙◌, ap, subst, arith}
use Rattle.std.specs.Prelude.{IsSome, IsTrue, OnOk}
use Rattle.std.proofs.lemmas.Bool.Decides.{nat_tests}
use Rattle.vt_base.specs.declared.place.Entry.{Entry}
use Rattle.vt_bucket.specs.Frame.{IsBucketFrame}
use Rattle.vt_disk.specs.Members.{DiskOf}
use Rattle.vt_isect.specs.declared.error.ShardErr.{ShardErr}
use Rattle.vt_isect.specs.declared.head.Head.{Head}
use Rattle.vt_isect.specs.declared.phase.Phase.TheVariants.{Rest, ChangeHead}
use Rattle.vt_isect.specs.declared.TheConstants.{FRAME_LEN}
use Rattle.vt_isect.specs.Head.{IsHeadFrame}
use Rattle.vt_isect.specs.Layout.{InRange, IsSection, head_place}
use Rattle.vt_isect.specs.Section.{SectionState, PutsEntries}
use Rattle.vt_isect.specs.Sound.{DiskHolds, KnowsEachBucket, KnownBuckets, LeavesHead, LeavesSection, nothing_known}
use Rattle.vt_twin.specs.Frames.{current_frame}
use Rattle.vt_format.specs.Usage.{ChangesHead, IsInUse, IsMidway, StopsHead, cleared, head_in}

-- each bucket of the section is known to have no entries
known_there : (first count n : ℕ) → first ≤ n → n < first + count → cleared first count n ≡ Some []
known_there first count n least most = grind (arith, nat_tests)

some_is : {A : Type 0} (o : Option A) (x : A) → o ≡ Some x → IsSome o
some_is {A = A} o x is = subst (λ (p : Option A). IsSome p) (sym is) refl

module _ {D : Type 0} (disk : DiskOf D)
    (crash : (t : SectionState D) (known : KnownBuckets) → DiskHolds disk t known → KnowsEachBucket t known → t.next.first ≡ t.head.first
    → (file : List ℕ) → disk.images t.disk file → LeavesSection t known file)
    (t : SectionState D) (phase : ¬ PutsEntries t.phase) (first : t.next.first ≡ t.head.first) where
  -- what a crash leaves of a section that is known to have no entries
  leaves_empty : DiskHolds disk t (cleared t.head.first t.buckets) → (c : List ℕ) → disk.images t.disk c
      → (head : Head) × LeavesHead t head × IsSection t.name head t.buckets (λ n. []) c
  leaves_empty sound c left =
      let known : KnownBuckets = cleared t.head.first t.buckets in
      let whole : KnowsEachBucket t known = λ n within. some_is (known n) [] (known_there t.head.first t.buckets n within.0 within.1) in
      let it = crash t known sound whole first c left in
      let same : it.0.first ≡ t.head.first = ⊎_elim (λ is. ap (λ h. h.first) is) (λ way. ap (λ h. h.first) way.2 ∙ first) it.3 in (
        it.0,
        it.3,
        record {
          head_frame = it.2.head_frame;
          bucket = λ n within.
              let bucket = it.2.bucket n within in
              let here : InRange t.head t.buckets n =
              (subst (λ (k : ℕ). k ≤ n) same within.0, subst (λ (k : ℕ). n < k + t.buckets) same within.1) in
              let none : it.1 n ≡ [] = ⊎_elim (λ is. is) (λ way. absurd (phase way.0.1.0))
              (it.4 n [] here (known_there t.head.first t.buckets n here.0 here.1)) in
              (bucket.0, bucket.1, subst (λ (entries : List Entry). IsBucketFrame n entries (current_frame bucket.0 FRAME_LEN c)) none bucket.2);
        },
      )

-- a section at rest has its head
head_at_rest : {D : Type 0} (t : SectionState D) → t.phase ≡ Rest → (head : Head) → LeavesHead t head → head ≡ t.head
head_at_rest t rest head it = ⊎_elim (λ is. is) (λ way. let no : Rest ≡ ChangeHead = sym rest ∙ way.0 in absurd (cc)) it

module _ {D : Type 0} (disk : DiskOf D)
    (crash : (t : SectionState D) (known : KnownBuckets) → DiskHolds disk t known → KnowsEachBucket t known → t.next.first ≡ t.head.first
    → (file : List ℕ) → disk.images t.disk file → LeavesSection t known file)
    (t : SectionState D) (rest : t.phase ≡ Rest) (next : t.next ≡ t.head) where
  empty : DiskHolds disk t (cleared t.head.first t.buckets) → (c : List ℕ) → disk.images t.disk c
      → IsSection t.name t.head t.buckets (λ n. []) c
  empty sound c left =
      let it = leaves_empty disk crash t (λ puts. subst PutsEntries rest puts)
      (ap (λ h. h.first) next) sound c left in
      subst (λ (h : Head). IsSection t.name h t.buckets (λ n. []) c) (head_at_rest t rest it.0 it.1) it.2

pub in_use : {D : Type 0} (disk : DiskOf D)
    (crash : (t : SectionState D) (known : KnownBuckets) → DiskHolds disk t known → KnowsEachBucket t known → t.next.first ≡ t.head.first
    → (file : List ℕ) → disk.images t.disk file → LeavesSection t known file)
    (first total : ℕ) (old a b new : SectionState D) (r : Result (Unit {0}) ShardErr) → ChangesHead disk 2 first total old a
    → b ≡ record a { disk = b.disk }
    → (IsTrue disk.tells → DiskHolds disk a nothing_known → DiskHolds disk b (cleared a.head.first a.buckets))
    → OnOk r (ChangesHead disk 1 first total b new)
    → OnOk r ((IsTrue disk.tells → DiskHolds disk old nothing_known) → IsInUse disk first total old new)
in_use disk crash first total old a b new (Err e) one same clears two = tt
in_use {D = D} disk crash first total old a b new (Ok done) one same clears two = λ sound.
    let name : new.name ≡ old.name = two.name ∙ ap (λ (t : SectionState D). t.name) same ∙ one.name in
    let buckets : new.buckets ≡ old.buckets = two.buckets ∙ ap (λ (t : SectionState D). t.buckets) same ∙ one.buckets in
    let count : b.buckets ≡ old.buckets = ap (λ (t : SectionState D). t.buckets) same ∙ one.buckets in
    let head : new.head ≡ head_in 1 first old.buckets total = two.head ∙ ap (λ (n : ℕ). head_in 1 first n total) count in
    let first_a : a.head.first ≡ first = ap (λ (h : Head). h.first) one.head in
    let first_b : b.head.first ≡ first = ap (λ (t : SectionState D). t.head.first) same ∙ first_a in
    let first_new : new.head.first ≡ first = ap (λ (h : Head). h.first) head in
    record {
      rest = two.rest;
      name = name;
      buckets = buckets;
      head = head;
      images = λ told c left.
          let held : DiskHolds disk new (cleared a.head.first a.buckets) =
          two.keeps (cleared a.head.first a.buckets) told (sym first_b) (clears told (one.holds told (sound told))) in
          let here : DiskHolds disk new (cleared new.head.first new.buckets) =
          subst (λ (k : ℕ). DiskHolds disk new (cleared k new.buckets)) (first_a ∙ sym first_new)
          (subst (λ (k : ℕ). DiskHolds disk new (cleared a.head.first k)) (one.buckets ∙ sym buckets) held) in
          let whole = empty disk crash new two.rest two.next here c left in
          subst (λ (k : ℕ). IsSection old.name (head_in 1 first old.buckets total) k (λ n. []) c) buckets
          (subst (λ (h : Head). IsSection old.name h new.buckets (λ n. []) c) head
          (subst (λ (l : List ℕ). IsSection l new.head new.buckets (λ n. []) c) name whole));
      settled = two.settled;
    }

-- ---- where a call fails

-- the head that a crash leaves
abbrev pub HasHeads : {D : Type 0} → DiskOf D → Type 0
HasHeads {D} disk = (t : SectionState D) (known : KnownBuckets) → DiskHolds disk t known → (file : List ℕ) → disk.images t.disk file
    → (head : Head) × LeavesHead t head × IsHeadFrame t.name head (current_frame head_place FRAME_LEN file)

-- of the first change of the head: that is the old one, or the one that says that it is being built
pub first_midway : {D : Type 0} (disk : DiskOf D) (heads : HasHeads disk) (first total : ℕ) (old new : SectionState D)
    → StopsHead disk 2 first total old new → IsTrue disk.tells → DiskHolds disk old nothing_known → IsMidway disk first total old new
first_midway disk heads first total old new it told sound c left =
    let left_head = heads new nothing_known (it.keeps nothing_known told sound) c left in
    let named : IsHeadFrame old.name left_head.0 (current_frame head_place FRAME_LEN c) =
    subst (λ (n : List ℕ). IsHeadFrame n left_head.0 (current_frame head_place FRAME_LEN c)) it.name left_head.2 in
    let from = it.images c left in
    ⊎_elim
    (λ is. inl (subst (λ (h : Head). IsHeadFrame old.name h (current_frame head_place FRAME_LEN c)) (is ∙ it.head) named, from.0, from.1, from.2))
    (λ way. inr (inl (subst (λ (h : Head). IsHeadFrame old.name h (current_frame head_place FRAME_LEN c)) (way.2 ∙ it.next) named)))
    left_head.1

module _ {D : Type 0} (disk : DiskOf D) (first total : ℕ) (old a b : SectionState D) (one : ChangesHead disk 2 first total old a)
    (same : b ≡ record a { disk = b.disk }) where
  name_b : b.name ≡ old.name
  name_b = ap (λ (t : SectionState D). t.name) same ∙ one.name

  head_b : b.head ≡ head_in 2 first old.buckets total
  head_b = ap (λ (t : SectionState D). t.head) same ∙ one.head

  buckets_b : b.buckets ≡ old.buckets
  buckets_b = ap (λ (t : SectionState D). t.buckets) same ∙ one.buckets

  -- while the buckets are cleared: it is being built
  pub clearing_midway : HasHeads disk → DiskHolds disk b nothing_known → IsMidway disk first total old b
  clearing_midway heads sound c left =
      let left_head = heads b nothing_known sound c left in
      let is = head_at_rest b (ap (λ (t : SectionState D). t.phase) same ∙ one.rest) left_head.0 left_head.1 in
      inr (inl (subst (λ (h : Head). IsHeadFrame old.name h (current_frame head_place FRAME_LEN c)) (is ∙ head_b)
      (subst (λ (n : List ℕ). IsHeadFrame n left_head.0 (current_frame head_place FRAME_LEN c)) name_b left_head.2)))

  -- of the second change of the head: it is being built, or in use
  pub last_midway : ((t : SectionState D) (known : KnownBuckets) → DiskHolds disk t known → KnowsEachBucket t known → t.next.first ≡ t.head.first
      → (file : List ℕ) → disk.images t.disk file → LeavesSection t known file)
      → (new : SectionState D) → StopsHead disk 1 first total b new → IsTrue disk.tells
      → DiskHolds disk b (cleared a.head.first a.buckets) → IsMidway disk first total old new
  last_midway crash new it told sound c left =
      let name : new.name ≡ old.name = it.name ∙ name_b in
      let buckets : new.buckets ≡ old.buckets = it.buckets ∙ buckets_b in
      let head : new.head ≡ head_in 2 first old.buckets total = it.head ∙ head_b in
      let next : new.next ≡ head_in 1 first old.buckets total = it.next ∙ ap (λ (n : ℕ). head_in 1 first n total) buckets_b in
      let firsts : a.head.first ≡ new.head.first = ap (λ h. h.first) (one.head ∙ sym head) in
      let held : DiskHolds disk new (cleared new.head.first new.buckets) =
      subst (λ (k : ℕ). DiskHolds disk new (cleared k new.buckets)) firsts
      (subst (λ (k : ℕ). DiskHolds disk new (cleared a.head.first k)) (one.buckets ∙ sym buckets) (it.keeps (cleared a.head.first a.buckets) told sound)) in
      let left_section = leaves_empty disk crash new
      (λ puts. subst PutsEntries it.phase puts)
      (ap (λ h. h.first) next ∙ sym (ap (λ h. h.first) head)) held c left in
      let whole : IsSection old.name left_section.0 old.buckets (λ n. []) c =
      subst (λ (k : ℕ). IsSection old.name left_section.0 k (λ n. []) c) buckets
      (subst (λ (l : List ℕ). IsSection l left_section.0 new.buckets (λ n. []) c) name left_section.2) in
      ⊎_elim
      (λ is. inr (inl (subst (λ (h : Head). IsHeadFrame old.name h (current_frame head_place FRAME_LEN c)) (is ∙ head) whole.head_frame)))
      (λ way. inr (inr (subst (λ (h : Head). IsSection old.name h old.buckets (λ n. []) c) (way.2 ∙ next) whole)))
      left_section.1
