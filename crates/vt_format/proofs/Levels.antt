-- One partition that is opened, while the others behind it are worked on, and taken back.
use Rattle.std.proofs.Common.{◌≡◌, ◌⊎◌, inl, inr, ⊎_elim, ℕ, ◌+◌, ◌<◌, ◌≤◌, List, [], ◌∷◌, Option, Some, None, Ok, Err, Result, length, refl, sym, ◌∙◌, ap, subst, arith}
use Rattle.std.specs.Prelude.{IsTrue}
use Rattle.std.proofs.lemmas.Bool.{cases_lt}
use Rattle.vt_base.specs.Faults.{HasRisen}
use Rattle.vt_base.specs.declared.mount.MountBad.{MountBad}
use Rattle.vt_conf.specs.declared.conf.PartFile.{PartFile}
use Rattle.vt_disk.specs.Calls.{OnlyReads}
use Rattle.vt_disk.specs.Members.{DiskOf}
use Rattle.vt_isect.specs.Section.{SectionState}
use Rattle.vt_partitions.specs.Parts.{Standing, nothing, lent, there, HandsOut, StaysThere}
use Rattle.vt_format.specs.declared.index.Index.{Index}
use Rattle.vt_format.specs.declared.index.IndexError.{IndexError}
use Rattle.vt_format.specs.declared.index.IndexError.TheVariants.{Fault, Refused, Stopped}
use Rattle.vt_format.specs.Index.{AnswersFor, ArePutToUse, FailsAt, IsPartLeft, IsStoppedAmong, StopsSection, StopsSections, StopsIndex, LeavesThere, PutsSectionToUse}
use Rattle.vt_format.specs.Opening.{IsOpenedSection}
use Rattle.vt_format.specs.Usage.{IsUsed, total_buckets}
use Rattle.vt_format.proofs.Failing.{failed_here}
use Rattle.vt_format.proofs.Opened.{LeavesOne}
use Rattle.vt_format.proofs.Rounds.{Becomes}

-- what is handed out without a length to grow to stands there
pub handed_is : {D : Type 0} (disk : DiskOf D) (x : Standing D) (d : D) → HandsOut disk x None d → x ≡ there d
handed_is disk nothing d it = absurd (cc (it.1))
handed_is disk lent d it = absurd it
handed_is disk (there old) d it = ⊎_elim
    (λ same. ap there (sym same.1))
    (λ grown. absurd (cc (grown.1)))
    it

-- a partition that is read stays there
pub stays_read : {D : Type 0} (disk : DiskOf D) (most : ℕ) (d e : D) → OnlyReads disk most d e → StaysThere disk (there d) (there e)
stays_read disk most d e reads = (reads.size, reads.bytes, reads.images)

pub stays_becomes : {D : Type 0} (disk : DiskOf D) → Becomes (StaysThere disk)
stays_becomes disk = record { lent_stays = λ x is. is }

pub leaves_becomes : {D : Type 0} (disk : DiskOf D) (r : Result Index IndexError) → Becomes (LeavesThere disk r)
leaves_becomes disk r = record { lent_stays = λ x is. is }

-- what is answered for less is answered for more
pub answers : (P Q : Option MountBad → Type 0) → ((found : Option MountBad) → P found → Q found) → (r : Result Index IndexError)
    → AnswersFor P r → AnswersFor Q r
answers P Q more (Ok it) found = more None found
answers P Q more (Err (Fault part)) found = found
answers P Q more (Err (Refused bad)) found = ⊎_elim (λ memory. inl memory) (λ refused. inr (more (Some bad) refused)) found
answers P Q more (Err (Stopped part)) found = more None found

-- ---- sections

module _ {D : Type 0} (disk : DiskOf D) (behind total : ℕ) (os : List (SectionState D)) (d : D) (o n : SectionState D)
    (opened : IsOpenedSection disk (total_buckets os) d o) where
  pub left_one : (r : Result Index IndexError) → LeavesOne disk behind total r (length os) (total_buckets os) o n → IsPartLeft disk r d n.disk
  left_one (Ok it) one = record {
    size = one.size ∙ opened.reads.size;
    unwritten = λ no. absurd no;
    quiet = λ yes. one.faults ∙ opened.faults;
  }
  left_one (Err (Fault part)) one = record {
    size = ap (λ (t : SectionState D). disk.size t.disk) one ∙ opened.reads.size;
    unwritten = λ yes. subst (λ (t : SectionState D). StaysThere disk (there d) (there t.disk)) (sym one) (stays_read disk 3 d o.disk opened.reads);
    quiet = λ no. absurd no;
  }
  left_one (Err (Refused bad)) one = record {
    size = ap (λ (t : SectionState D). disk.size t.disk) one ∙ opened.reads.size;
    unwritten = λ yes. subst (λ (t : SectionState D). StaysThere disk (there d) (there t.disk)) (sym one) (stays_read disk 3 d o.disk opened.reads);
    quiet = λ yes. ap (λ (t : SectionState D). disk.faults t.disk) one ∙ opened.faults;
  }
  left_one (Err (Stopped part)) one = record {
    size = one.2.size ∙ opened.reads.size;
    unwritten = λ no. absurd no;
    quiet = λ no. absurd no;
  }

  -- the section is in use
  pub put : (all : ℕ) → IsTrue disk.tells → IsUsed disk (total_buckets os) all o n
      → PutsSectionToUse disk (total_buckets os) o.buckets all (there d) (there n.disk)
  put all told one = record {
    before = d;
    after = n.disk;
    was = refl;
    is = refl;
    buckets = opened.buckets;
    name = o.name;
    head = o.head;
    named = opened.head told;
    images = one.in_use.images told;
    settled = one.in_use.settled told;
    calls = omega (arith, one.calls told, opened.reads.calls told);
  }

  -- a call of a section failed
  pub leaves_section : (part : ℕ) → IsTrue disk.tells → LeavesOne disk behind total (Err (Stopped part)) (length os) (total_buckets os) o n
      → StopsSection disk (total_buckets os) o.buckets total (behind + length os) part (there d) (there n.disk)
  leaves_section part told one = record {
    before = d;
    after = n.disk;
    was = refl;
    is = refl;
    buckets = opened.buckets;
    name = o.name;
    head = o.head;
    named = opened.head told;
    used = λ is. put total told (one.2.before (omega (arith, is, one.1)));
    midway = λ is file left. ⊎_elim
        (λ old. inl (old.0, old.1, opened.reads.images old.1 old.2, old.3))
        (λ new. inr new)
        (one.2.midway (omega (arith, is, one.1)) told file left);
    stays = λ is. subst (λ (t : SectionState D). StaysThere disk (there d) (there t.disk))
        (sym (one.2.behind (omega (arith, is, one.1)))) (stays_read disk 3 d o.disk opened.reads);
  }

  -- a call of it failed
  pub stopped_here : (part : ℕ) (told : Type 0) (file : PartFile) (files : List PartFile) (s0 s3 : List ℕ → Standing D)
      → LeavesOne disk behind total (Err (Stopped part)) (length os) (total_buckets os) o n → part ≡ behind + length os
      → (told → s0 file.name ≡ there d) → (told → s3 file.name ≡ there n.disk)
      → FailsAt disk told (behind + length os) (file ∷ files) s0 s3 part
  stopped_here part told file files s0 s3 one same was is =
      let here : length os ≡ one.0 = omega (arith, same, one.1) in
      failed_here disk told (behind + length os) file files s0 s3 d n.disk
      (subst (λ (k : ℕ). HasRisen k (disk.faults n.disk)) opened.faults (one.2.rose here)) was is part same

-- the rest of the sections, where another partition was handed out meanwhile
pub put_rest : {D : Type 0} (disk : DiskOf D) (s0 s1 s2 s3 : List ℕ → Standing D)
    → ((n : List ℕ) (a : D) → s1 n ≡ there a → s0 n ≡ there a)
    → ((n : List ℕ) (a b : D) → s1 n ≡ there a → s2 n ≡ there b → s3 n ≡ there b)
    → (first total : ℕ) (files : List PartFile) → ArePutToUse disk s1 s2 first total files → ArePutToUse disk s0 s3 first total files
put_rest disk s0 s1 s2 s3 old_is new_is first total [] it = it
put_rest disk s0 s1 s2 s3 old_is new_is first total (file ∷ files) it = (
  it.0,
  record {
    before = it.1.before;
    after = it.1.after;
    was = old_is file.name it.1.before it.1.was;
    is = new_is file.name it.1.before it.1.after it.1.was it.1.is;
    buckets = it.1.buckets;
    name = it.1.name;
    head = it.1.head;
    named = it.1.named;
    images = it.1.images;
    settled = it.1.settled;
    calls = it.1.calls;
  },
  put_rest disk s0 s1 s2 s3 old_is new_is (first + it.0) total files it.2,
)

-- so it is with what stands under each name, of which one was handed out meanwhile
pub stopped_rest : {D : Type 0} (disk : DiskOf D) (s0 s1 s2 s3 : List ℕ → Standing D)
    → ((n : List ℕ) (a : D) → s1 n ≡ there a → s0 n ≡ there a)
    → ((n : List ℕ) (a b : D) → s1 n ≡ there a → s2 n ≡ there b → s3 n ≡ there b)
    → (first total number part : ℕ) (files : List PartFile) → StopsSections disk s1 s2 first total number part files
    → StopsSections disk s0 s3 first total number part files
stopped_rest disk s0 s1 s2 s3 old_is new_is first total number part [] it = it
stopped_rest {D = D} disk s0 s1 s2 s3 old_is new_is first total number part (file ∷ files) it =
    let was : s0 file.name ≡ s1 file.name = old_is file.name it.1.before it.1.was ∙ sym it.1.was in
    let is : s3 file.name ≡ s2 file.name = new_is file.name it.1.before it.1.after it.1.was it.1.is ∙ sym it.1.is in (
      it.0,
      subst (λ (x : Standing D). StopsSection disk first it.0 total number part x (s3 file.name)) (sym was)
          (subst (λ (y : Standing D). StopsSection disk first it.0 total number part (s1 file.name) y) (sym is) it.1),
      stopped_rest disk s0 s1 s2 s3 old_is new_is (first + it.0) total (number + 1) part files it.2,
    )

pub stopped_still : {D : Type 0} (disk : DiskOf D) (s0 s1 s2 s3 : List ℕ → Standing D)
    → ((n : List ℕ) (a : D) → s1 n ≡ there a → s0 n ≡ there a)
    → ((n : List ℕ) (a b : D) → s1 n ≡ there a → s2 n ≡ there b → s3 n ≡ there b)
    → (first total number : ℕ) (files : List PartFile) (bad : IndexError) → StopsIndex disk s1 s2 first total number files bad
    → StopsIndex disk s0 s3 first total number files bad
stopped_still disk s0 s1 s2 s3 old_is new_is first total number files (Fault part) it = tt
stopped_still disk s0 s1 s2 s3 old_is new_is first total number files (Refused bad) it = tt
stopped_still disk s0 s1 s2 s3 old_is new_is first total number files (Stopped part) it =
    stopped_rest disk s0 s1 s2 s3 old_is new_is first total number part files it

-- which partition is stopped: one that was opened before, this one, or one behind it
pub stopped_among : (behind count : ℕ) (bad : IndexError) → IsStoppedAmong behind (count + 1) bad
    → IsStoppedAmong behind count bad ⊎ ((part : ℕ) × (bad ≡ Stopped part) × (part ≡ behind + count))
stopped_among behind count (Fault part) it = absurd it
stopped_among behind count (Refused bad) it = absurd it
stopped_among behind count (Stopped part) it = ⊎_elim
    (λ (before : part < behind + count). inl (it.0, before))
    (λ (least : behind + count ≤ part). inr (part, refl, omega (arith, least, it.1)))
    (cases_lt part (behind + count))
