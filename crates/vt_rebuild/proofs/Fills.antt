-- Buckets of a section that are filled one behind the other.
use Rattle.std.proofs.Common.{◌≡◌, ◌≢◌, ◌⊎◌, ⊎_elim, ℕ, ◌+◌, ◌*◌, ◌<◌, ◌≤◌, List, map, None, Some, refl, sym, ◌∙◌, ap, subst, arith, cond}
use Rattle.std.specs.Prelude.{Bool, IsTrue, MatchBool}
use Rattle.std.proofs.lemmas.Bool.{cases_lt}
use Rattle.std.proofs.lemmas.Bool.Decides.{eqb_tells}
use Rattle.vt_base.specs.Faults.{HasRisen}
use Rattle.vt_base.specs.declared.place.Entry.{Entry}
use Rattle.vt_disk.specs.Members.{DiskOf}
use Rattle.vt_isect.specs.Filling.{ReadsKnown}
use Rattle.vt_isect.specs.Section.{SectionState}
use Rattle.vt_isect.specs.Sound.{DiskHolds, KnownBuckets, nothing_known, with_bucket}
use Rattle.vt_log.specs.Faults.{OneHasRisen}
use Rattle.vt_log.specs.Log.{LogState}
use Rattle.vt_model.specs.History.{History}
use Rattle.vt_model.specs.Places.{Setup}
use Rattle.vt_rebuild.specs.declared.error.RebuildBad.{RebuildBad}
use Rattle.vt_rebuild.specs.declared.gathering.Gathered.{Gathered}
use Rattle.vt_rebuild.specs.Filling.{CanFill, HasFilled, PutsBucket}
use Rattle.vt_rebuild.specs.Gathering.{HasItsBlocks, IsGathered, IsInOrder}
use Rattle.vt_rebuild.specs.Rebuilt.{HasHistory}
use Rattle.vt_rebuild.specs.Walking.{KeepsLog, is_rebuild_fault}
use Rattle.vt_rebuild.proofs.Walks.{keeps_none, keeps_then, versions_stay}

-- what is filled, gathered and kept
pub record Round (D : Type 0) : Type 0 where
  pub log : LogState D
  pub section : SectionState D
  pub gathered : Gathered

abbrev pub round : {D : Type 0} → LogState D → SectionState D → Gathered → Round D
round log section gathered = record { log = log; section = section; gathered = gathered }

abbrev pub CanFillIn : {D : Type 0} → (List ℕ → List ℕ) → DiskOf D → Setup → History → Round D → Type 0
CanFillIn score disk c h r = CanFill score disk c h r.log r.gathered

-- the log is the same for what is indexed
pub log_stays : {D : Type 0} (score : List ℕ → List ℕ) (disk : DiskOf D) (a b : LogState D) (h : History) → KeepsLog score disk a b → HasHistory score disk a h → HasHistory score disk b h
log_stays score disk a b h keeps it = record { tells = it.tells; sound = keeps.sound h it.sound; keys = it.keys }

-- so many buckets, from the section's first on, are filled
pub record IsFilling {D : Type 0} (score : List ℕ → List ℕ) (disk : DiskOf D) (i : ℕ) (old now : Round D) : Type 0 where
  pub keeps : KeepsLog score disk old.log now.log
  pub log_faults : map disk.faults now.log.disks ≡ map disk.faults old.log.disks
  pub same : now.section ≡ record old.section { disk = now.section.disk }
  pub faults : disk.faults now.section.disk ≡ disk.faults old.section.disk
  pub size : disk.size now.section.disk ≡ disk.size old.section.disk
  pub calls : IsTrue disk.tells → disk.calls now.section.disk ≤ disk.calls old.section.disk + 2 * i
  pub holds : IsTrue disk.tells → DiskHolds disk old.section nothing_known → DiskHolds disk now.section nothing_known
  pub order : IsInOrder now.gathered
  pub total : now.gathered.total ≡ old.gathered.total
  pub gathers : (c : Setup) (h : History) → CanFillIn score disk c h old → IsGathered score c h now.gathered
  pub known : KnownBuckets
  pub reads : IsTrue disk.tells → ReadsKnown disk now.section known
  pub each : (c : Setup) (h : History) → CanFillIn score disk c h old → (n : ℕ) → old.section.head.first ≤ n → n < old.section.head.first + i
      → (entries : List Entry) × (known n ≡ Some entries) × HasItsBlocks score c h n entries

pub begin_filling : {D : Type 0} (score : List ℕ → List ℕ) (disk : DiskOf D) (old : Round D) → IsInOrder old.gathered → IsFilling score disk 0 old old
begin_filling score disk old order = record {
  keeps = keeps_none score disk old.log;
  log_faults = refl;
  same = refl;
  faults = refl;
  size = refl;
  calls = λ tells. omega arith;
  holds = λ tells sound. sound;
  order = order;
  total = refl;
  gathers = λ c h it. it.gathered;
  known = nothing_known;
  reads = λ tells n entries within is. absurd (cc);
  each = λ c h it n least below. absurd (omega (arith, least, below));
}

-- a bucket was filled
pub record Fills {D : Type 0} (score : List ℕ → List ℕ) (disk : DiskOf D) (number : ℕ) (old new : Round D) : Type 0 where
  pub keeps : KeepsLog score disk old.log new.log
  pub log_faults : map disk.faults new.log.disks ≡ map disk.faults old.log.disks
  pub same : new.section ≡ record old.section { disk = new.section.disk }
  pub faults : disk.faults new.section.disk ≡ disk.faults old.section.disk
  pub size : disk.size new.section.disk ≡ disk.size old.section.disk
  pub calls : IsTrue disk.tells → disk.calls new.section.disk ≤ disk.calls old.section.disk + 2
  pub holds : IsTrue disk.tells → DiskHolds disk old.section nothing_known → DiskHolds disk new.section nothing_known
  pub order : IsInOrder new.gathered
  pub total : new.gathered.total ≡ old.gathered.total
  pub gathers : (c : Setup) (h : History) → CanFillIn score disk c h old → IsGathered score c h new.gathered
  pub filled : (entries : List Entry) × PutsBucket disk number entries old.section new.section
      × ((c : Setup) (h : History) → CanFillIn score disk c h old → HasItsBlocks score c h number entries)

-- what is known with a bucket more
with_here : (number : ℕ) (entries : List Entry) (known : KnownBuckets) → with_bucket number (Some entries) known number ≡ Some entries
with_here number entries known = ⊎_elim
    (λ yes. ap (λ (b : Bool). cond b (Some entries) (known number)) yes.0)
    (λ no. absurd (no.1 refl))
    (eqb_tells number number)

with_other : (number n : ℕ) (entries : List Entry) (known : KnownBuckets) → n ≢ number → with_bucket number (Some entries) known n ≡ known n
with_other number n entries known other = ⊎_elim
    (λ yes. absurd (other yes.1))
    (λ no. ap (λ (b : Bool). cond b (Some entries) (known n)) no.0)
    (eqb_tells n number)

module _ {D : Type 0} (score : List ℕ → List ℕ) (disk : DiskOf D) (i : ℕ) (old now : Round D) (it : IsFilling score disk i old now) where
  -- what was so at first is so now
  pub can_fill : (c : Setup) (h : History) → CanFillIn score disk c h old → CanFillIn score disk c h now
  can_fill c h can = record {
    log = log_stays score disk old.log now.log h it.keeps can.log;
    versions = versions_stay score disk c old.log now.log it.keeps can.versions;
    index = record { buckets = can.index.buckets ∙ sym it.total; keys = can.index.keys };
    gathered = it.gathers c h can;
  }

  pub fills_on : (new : Round D) → Fills score disk (old.section.head.first + i) now new → IsFilling score disk (i + 1) old new
  fills_on new next = record {
    keeps = keeps_then score disk old.log now.log new.log it.keeps next.keeps;
    log_faults = next.log_faults ∙ it.log_faults;
    same = next.same ∙ ap (λ (s : SectionState D). record s { disk = new.section.disk }) it.same;
    faults = next.faults ∙ it.faults;
    size = next.size ∙ it.size;
    calls = λ tells. omega (arith, it.calls tells, next.calls tells);
    holds = λ tells sound. next.holds tells (it.holds tells sound);
    order = next.order;
    total = next.total ∙ it.total;
    gathers = λ c h can. next.gathers c h (can_fill c h can);
    known = with_bucket (old.section.head.first + i) (Some next.filled.0) it.known;
    reads = λ tells. next.filled.1 it.known tells (it.reads tells);
    each = λ c h can n least below. ⊎_elim
        (λ (before : n < old.section.head.first + i).
        let was = it.each c h can n least before in
        (was.0, with_other (old.section.head.first + i) n next.filled.0 it.known (λ same. omega (arith, before, same)) ∙ was.1, was.2))
        (λ (behind : old.section.head.first + i ≤ n).
        let here : old.section.head.first + i ≡ n = omega (arith, below, behind) in (
          next.filled.0,
          subst (λ (k : ℕ). with_bucket (old.section.head.first + i) (Some next.filled.0) it.known k ≡ Some next.filled.0) here
              (with_here (old.section.head.first + i) next.filled.0 it.known),
          subst (λ (k : ℕ). HasItsBlocks score c h k next.filled.0) here (next.filled.2 c h (can_fill c h can)),
        ))
        (cases_lt n (old.section.head.first + i));
  }

  pub has_filled : (c : Setup) (h : History) → CanFillIn score disk c h old → HasFilled score disk c h old.section.head.first (old.section.head.first + i) now.section
  has_filled c h can = record { known = it.known; reads = it.reads can.log.tells; each = it.each c h can }

  -- what a bucket's answer says, seen from the first
  pub counts_from : (bad : RebuildBad) (new : Round D)
      → MatchBool (is_rebuild_fault bad)
      ((OneHasRisen (map disk.faults now.log.disks) (map disk.faults new.log.disks) × (disk.faults new.section.disk ≡ disk.faults now.section.disk))
      ⊎ ((map disk.faults new.log.disks ≡ map disk.faults now.log.disks) × HasRisen (disk.faults now.section.disk) (disk.faults new.section.disk)))
      ((map disk.faults new.log.disks ≡ map disk.faults now.log.disks) × (disk.faults new.section.disk ≡ disk.faults now.section.disk))
      → MatchBool (is_rebuild_fault bad)
      ((OneHasRisen (map disk.faults old.log.disks) (map disk.faults new.log.disks) × (disk.faults new.section.disk ≡ disk.faults old.section.disk))
      ⊎ ((map disk.faults new.log.disks ≡ map disk.faults old.log.disks) × HasRisen (disk.faults old.section.disk) (disk.faults new.section.disk)))
      ((map disk.faults new.log.disks ≡ map disk.faults old.log.disks) × (disk.faults new.section.disk ≡ disk.faults old.section.disk))
  counts_from bad new counts =
      let first = subst (λ (ns : List ℕ). MatchBool (is_rebuild_fault bad)
      ((OneHasRisen ns (map disk.faults new.log.disks) × (disk.faults new.section.disk ≡ disk.faults now.section.disk))
      ⊎ ((map disk.faults new.log.disks ≡ ns) × HasRisen (disk.faults now.section.disk) (disk.faults new.section.disk)))
      ((map disk.faults new.log.disks ≡ ns) × (disk.faults new.section.disk ≡ disk.faults now.section.disk))) it.log_faults counts in
      subst (λ (n : ℕ). MatchBool (is_rebuild_fault bad)
      ((OneHasRisen (map disk.faults old.log.disks) (map disk.faults new.log.disks) × (disk.faults new.section.disk ≡ n))
      ⊎ ((map disk.faults new.log.disks ≡ map disk.faults old.log.disks) × HasRisen n (disk.faults new.section.disk)))
      ((map disk.faults new.log.disks ≡ map disk.faults old.log.disks) × (disk.faults new.section.disk ≡ n))) it.faults first

-- ---- one bucket

-- nothing that was known is lost by what is written of a bucket
pub holds_nothing : {D : Type 0} (disk : DiskOf D) (old new : SectionState D) (n : ℕ)
    → ((t : SectionState D) (known knows : KnownBuckets) → ((m : ℕ) (entries : List Entry) → knows m ≡ Some entries → known m ≡ Some entries) → DiskHolds disk t known → DiskHolds disk t knows)
    → ((known : KnownBuckets) → IsTrue disk.tells → DiskHolds disk old known → DiskHolds disk new (with_bucket n None known))
    → IsTrue disk.tells → DiskHolds disk old nothing_known → DiskHolds disk new nothing_known
holds_nothing disk old new n forget others tells was =
    forget new (with_bucket n None nothing_known) nothing_known (λ m entries is. absurd (cc)) (others nothing_known tells was)

-- the bucket that is written has this number
pub puts_bucket : {D : Type 0} (disk : DiskOf D) (old new : SectionState D) (n number : ℕ) (entries : List Entry) → n ≡ number
    → ((known : KnownBuckets) → IsTrue disk.tells → ReadsKnown disk old known → ReadsKnown disk new (with_bucket n (Some entries) known)) → PutsBucket disk number entries old new
puts_bucket disk old new n number entries is read = subst (λ (m : ℕ). PutsBucket disk m entries old new) is read
