-- Sections that are finished in turn.
use Rattle.std.proofs.Common.{◌≡◌, ◌⊎◌, ⊎_elim, inl, inr, ℕ, ◌+◌, ◌≤◌, List, length, map, set, Some, true, false, refl, sym, ◌∙◌, subst, arith}
use Rattle.std.specs.Prelude.{All, Bool, MatchBool, slice_get}
use Rattle.std.proofs.lemmas.List.{length-set}
use Rattle.vt_base.specs.Faults.{HasRisen}
use Rattle.vt_disk.specs.Members.{DiskOf}
use Rattle.vt_isect.specs.Section.{SectionState}
use Rattle.vt_log.proofs.Lists.{slice_get_set_other}
use Rattle.vt_log.specs.Faults.{OneHasRisen}
use Rattle.vt_log.specs.Log.{LogState}
use Rattle.vt_model.specs.History.{History}
use Rattle.vt_model.specs.Places.{Setup}
use Rattle.vt_rebuild.specs.declared.error.RebuildBad.{RebuildBad}
use Rattle.vt_rebuild.specs.declared.gathering.Gathered.{Gathered}
use Rattle.vt_rebuild.specs.Building.{AreFinished, AreHalfFinished, IsFinished, IsStoppedBuild, IsToFinish, disks_under}
use Rattle.vt_rebuild.specs.Filling.{CanFill}
use Rattle.vt_rebuild.specs.Gathering.{IsGathered, IsInOrder}
use Rattle.vt_rebuild.specs.Walking.{KeepsLog, is_rebuild_fault}
use Rattle.vt_rebuild.proofs.Assembling.{at_all}
use Rattle.vt_rebuild.proofs.Beginning.{counts_rise, counts_set}
use Rattle.vt_rebuild.proofs.Fills.{log_stays}
use Rattle.vt_rebuild.proofs.InTurn.{AreDoneTo, all_done, at_here, before, behind, done_more, none_done, within}
use Rattle.vt_rebuild.proofs.Walks.{keeps_none, keeps_then, versions_stay}

-- what is finished, and from what
pub record Work (D : Type 0) : Type 0 where
  pub log : LogState D
  pub sections : List (SectionState D)
  pub gathered : Gathered

abbrev pub work : {D : Type 0} → LogState D → List (SectionState D) → Gathered → Work D
work log sections gathered = record { log = log; sections = sections; gathered = gathered }

abbrev pub EndsAt : {D : Type 0} → (List ℕ → List ℕ) → DiskOf D → Setup → History → ℕ → SectionState D → SectionState D → Type 0
EndsAt score disk c h k a b = IsFinished score disk c h a b

-- those before this place are finished
pub record AreEnding {D : Type 0} (score : List ℕ → List ℕ) (disk : DiskOf D) (blocks number : ℕ) (old now : Work D) : Type 0 where
  pub keeps : KeepsLog score disk old.log now.log
  pub log_faults : map disk.faults now.log.disks ≡ map disk.faults old.log.disks
  pub faults : map disk.faults (disks_under now.sections) ≡ map disk.faults (disks_under old.sections)
  pub many : length now.sections ≡ length old.sections
  pub rest : (k : ℕ) → number ≤ k → slice_get now.sections k ≡ slice_get old.sections k
  pub order : IsInOrder now.gathered
  pub total : now.gathered.total ≡ old.gathered.total
  pub gathers : (c : Setup) (h : History) → CanFill score disk c h old.log old.gathered → IsGathered score c h now.gathered
  pub done : (c : Setup) (h : History) → CanFill score disk c h old.log old.gathered → blocks ≡ length h
      → AreDoneTo (EndsAt score disk c h) number old.sections now.sections

pub begin_ending : {D : Type 0} (score : List ℕ → List ℕ) (disk : DiskOf D) (blocks : ℕ) (old : Work D) → IsInOrder old.gathered → AreEnding score disk blocks 0 old old
begin_ending score disk blocks old order = record {
  keeps = keeps_none score disk old.log;
  log_faults = refl;
  faults = refl;
  many = refl;
  rest = λ k least. refl;
  order = order;
  total = refl;
  gathers = λ c h can. can.gathered;
  done = λ c h can all. none_done (EndsAt score disk c h) old.sections;
}

-- the section that comes next is as it was begun
pub next_begun : {D : Type 0} (score : List ℕ → List ℕ) (disk : DiskOf D) (blocks number : ℕ) (old now : Work D) (mid : SectionState D)
    → AreEnding score disk blocks number old now → All (IsToFinish old.gathered.total) old.sections → slice_get now.sections number ≡ Some mid
    → IsToFinish now.gathered.total mid
next_begun score disk blocks number old now mid it begun at =
    subst (λ (n : ℕ). IsToFinish n mid) (sym it.total)
    (at_all (IsToFinish old.gathered.total) old.sections number mid begun (sym (it.rest number (omega arith)) ∙ at))

module _ {D : Type 0} (score : List ℕ → List ℕ) (disk : DiskOf D) (blocks number : ℕ) (old now : Work D) (it : AreEnding score disk blocks number old now) where
  pub can_fill : (c : Setup) (h : History) → CanFill score disk c h old.log old.gathered → CanFill score disk c h now.log now.gathered
  can_fill c h can = record {
    log = log_stays score disk old.log now.log h it.keeps can.log;
    versions = versions_stay score disk c old.log now.log it.keeps can.versions;
    index = record { buckets = can.index.buckets ∙ sym it.total; keys = can.index.keys };
    gathered = it.gathers c h can;
  }

  module _ (mid new : SectionState D) (at : slice_get now.sections number ≡ Some mid) (log : LogState D) (gathered : Gathered) (keeps : KeepsLog score disk now.log log) where
    pub ends_more : map disk.faults log.disks ≡ map disk.faults now.log.disks → disk.faults new.disk ≡ disk.faults mid.disk
        → IsInOrder gathered → gathered.total ≡ now.gathered.total
        → ((c : Setup) (h : History) → CanFill score disk c h now.log now.gathered → IsGathered score c h gathered)
        → ((c : Setup) (h : History) → CanFill score disk c h now.log now.gathered → blocks ≡ length h → IsFinished score disk c h mid new)
        → AreEnding score disk blocks (number + 1) old (work log (set now.sections number new) gathered)
    ends_more log_faults faults order total gathers finished = record {
      keeps = keeps_then score disk old.log now.log log it.keeps keeps;
      log_faults = log_faults ∙ it.log_faults;
      faults = counts_set disk now.sections number mid new at faults ∙ it.faults;
      many = length-set now.sections number new ∙ it.many;
      rest = λ k least. slice_get_set_other now.sections number k new (λ same. omega (arith, least, same)) ∙ it.rest k (omega (arith, least));
      order = order;
      total = total ∙ it.total;
      gathers = λ c h can. gathers c h (can_fill c h can);
      done = λ c h can all. done_more (EndsAt score disk c h) number old.sections now.sections mid new (it.done c h can all) at (finished c h (can_fill c h can) all);
    }

    pub ends_stopped : (c : Setup) (h : History) → CanFill score disk c h old.log old.gathered → blocks ≡ length h → IsStoppedBuild score disk c h mid new
        → AreHalfFinished score disk c h old.sections (set now.sections number new)
    ends_stopped c h can all stop =
        let done = it.done c h can all in
        record {
          at = number;
          within = omega (arith, it.many, within (EndsAt score disk c h) number old.sections now.sections mid new done at);
          many = length-set now.sections number new ∙ it.many;
          before = before (EndsAt score disk c h) number old.sections now.sections mid new done at;
          here = λ a b at_a at_b. at_here (EndsAt score disk c h) number old.sections now.sections mid new done at (λ k a b. IsStoppedBuild score disk c h a b) stop number a b refl at_a at_b;
          behind = behind (EndsAt score disk c h) number old.sections now.sections mid new done at;
        }

    pub ends_counts : (bad : RebuildBad)
        → MatchBool (is_rebuild_fault bad)
        ((OneHasRisen (map disk.faults now.log.disks) (map disk.faults log.disks) × (disk.faults new.disk ≡ disk.faults mid.disk))
        ⊎ ((map disk.faults log.disks ≡ map disk.faults now.log.disks) × HasRisen (disk.faults mid.disk) (disk.faults new.disk)))
        ((map disk.faults log.disks ≡ map disk.faults now.log.disks) × (disk.faults new.disk ≡ disk.faults mid.disk))
        → MatchBool (is_rebuild_fault bad)
        ((OneHasRisen (map disk.faults old.log.disks) (map disk.faults log.disks)
        × (map disk.faults (disks_under (set now.sections number new)) ≡ map disk.faults (disks_under old.sections)))
        ⊎ ((map disk.faults log.disks ≡ map disk.faults old.log.disks)
        × OneHasRisen (map disk.faults (disks_under old.sections)) (map disk.faults (disks_under (set now.sections number new)))))
        ((map disk.faults log.disks ≡ map disk.faults old.log.disks)
        × (map disk.faults (disks_under (set now.sections number new)) ≡ map disk.faults (disks_under old.sections)))
    ends_counts bad counts = by_fault (is_rebuild_fault bad) counts
      where
        log_rose : OneHasRisen (map disk.faults now.log.disks) (map disk.faults log.disks) → OneHasRisen (map disk.faults old.log.disks) (map disk.faults log.disks)
        log_rose rose = subst (λ (ns : List ℕ). OneHasRisen ns (map disk.faults log.disks)) it.log_faults rose

        stay : disk.faults new.disk ≡ disk.faults mid.disk → map disk.faults (disks_under (set now.sections number new)) ≡ map disk.faults (disks_under old.sections)
        stay same = counts_set disk now.sections number mid new at same ∙ it.faults

        rise : HasRisen (disk.faults mid.disk) (disk.faults new.disk)
            → OneHasRisen (map disk.faults (disks_under old.sections)) (map disk.faults (disks_under (set now.sections number new)))
        rise rose = subst (λ (ns : List ℕ). OneHasRisen ns (map disk.faults (disks_under (set now.sections number new)))) it.faults (counts_rise disk now.sections number mid new at rose)

        by_fault : (b : Bool) → MatchBool b
            ((OneHasRisen (map disk.faults now.log.disks) (map disk.faults log.disks) × (disk.faults new.disk ≡ disk.faults mid.disk))
            ⊎ ((map disk.faults log.disks ≡ map disk.faults now.log.disks) × HasRisen (disk.faults mid.disk) (disk.faults new.disk)))
            ((map disk.faults log.disks ≡ map disk.faults now.log.disks) × (disk.faults new.disk ≡ disk.faults mid.disk))
            → MatchBool b
            ((OneHasRisen (map disk.faults old.log.disks) (map disk.faults log.disks)
            × (map disk.faults (disks_under (set now.sections number new)) ≡ map disk.faults (disks_under old.sections)))
            ⊎ ((map disk.faults log.disks ≡ map disk.faults old.log.disks)
            × OneHasRisen (map disk.faults (disks_under old.sections)) (map disk.faults (disks_under (set now.sections number new)))))
            ((map disk.faults log.disks ≡ map disk.faults old.log.disks)
            × (map disk.faults (disks_under (set now.sections number new)) ≡ map disk.faults (disks_under old.sections)))
        by_fault true counts = ⊎_elim (λ one. inl (log_rose one.0, stay one.1)) (λ one. inr (one.0 ∙ it.log_faults, rise one.1)) counts
        by_fault false counts = (counts.0 ∙ it.log_faults, stay counts.1)

pub all_ended : {D : Type 0} (score : List ℕ → List ℕ) (disk : DiskOf D) (blocks number : ℕ) (old now : Work D) → AreEnding score disk blocks number old now
    → length now.sections ≤ number → (c : Setup) (h : History) → CanFill score disk c h old.log old.gathered → blocks ≡ length h
    → AreFinished score disk c h old.sections now.sections
all_ended score disk blocks number old now it past c h can all =
    record { many = it.many; each = all_done (EndsAt score disk c h) number old.sections now.sections (it.done c h can all) past }
