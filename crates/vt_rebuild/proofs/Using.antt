-- A section whose buckets are settled by a sync, and whose head then says that it is in use.
use Rattle.std.proofs.Common.{◌≡◌, inl, inr, ℕ, [], None, Some, sym, ◌∙◌, ap, subst}
use Rattle.std.specs.Prelude.{IsTrue}
use Rattle.vt_disk.specs.Calls.{IsSynced}
use Rattle.vt_disk.specs.Members.{DiskOf}
use Rattle.vt_isect.specs.declared.head.Head.{Head}
use Rattle.vt_isect.specs.Filling.{ReadsKnown, with_buckets}
use Rattle.vt_isect.specs.Section.{IsAtRest, PutsEntries, SectionState}
use Rattle.vt_isect.specs.Sound.{DiskHolds, KnownBuckets, nothing_known}
use Rattle.vt_rebuild.specs.Building.{StopsInUse}
use Rattle.vt_rebuild.specs.Heads.{HasHead, StopsAtHead}
use Rattle.vt_rebuild.proofs.Finishing.{none_among}
use Rattle.vt_rebuild.proofs.HeadWork.{Forgets}

-- behind a sync what is read is known
abbrev pub Settles : {D : Type 0} → DiskOf D → Type 0
Settles {D} disk = (t : SectionState D) (known knows : KnownBuckets) → ¬ PutsEntries t.phase → IsTrue disk.tells → IsSynced disk t.disk
    → DiskHolds disk t known → ReadsKnown disk t knows → DiskHolds disk t knows

module _ {D : Type 0} (disk : DiskOf D) (forget : Forgets disk) (first : ℕ) (old mid : SectionState D) (rest : IsAtRest old)
    (same : mid ≡ record old { disk = mid.disk })
    (others : (known : KnownBuckets) → IsTrue disk.tells → DiskHolds disk old known → DiskHolds disk mid (with_buckets first 0 None known)) where
  head_stays : mid.head ≡ old.head
  head_stays = ap (λ (t : SectionState D). t.head) same

  -- what was known still is
  pub still_holds : (known : KnownBuckets) → IsTrue disk.tells → DiskHolds disk old known → DiskHolds disk mid known
  still_holds known tells was = forget mid (with_buckets first 0 None known) known (λ n entries is. none_among first n None known ∙ is) (others known tells was)

  -- the sync failed
  pub stops_at_sync : (head : Head) → old.next ≡ old.head → StopsInUse disk head old mid
  stops_at_sync head next = record {
    head_is = head_stays;
    holds = still_holds nothing_known;
    next = inl (ap (λ (t : SectionState D). t.next) same ∙ next ∙ sym head_stays);
  }

  module _ (settle : Settles disk) (settled : IsSynced disk mid.disk)
      (read : (known : KnownBuckets) → IsTrue disk.tells → ReadsKnown disk old known → ReadsKnown disk mid (with_buckets first 0 (Some []) known)) where
    pub knows : (known : KnownBuckets) → IsTrue disk.tells → DiskHolds disk old nothing_known → ReadsKnown disk old known → DiskHolds disk mid known
    knows known tells was reads =
        settle mid nothing_known known (λ puts. subst PutsEntries (ap (λ (t : SectionState D). t.phase) same ∙ rest) puts) tells settled
        (still_holds nothing_known tells was)
        (λ n entries within is. read known tells reads n entries within (none_among first n (Some []) known ∙ is))

    pub has_head : (head : Head) (new : SectionState D) → HasHead disk head mid new → HasHead disk head old new
    has_head head new it = record {
      rest = it.rest;
      head_is = it.head_is;
      next_is = it.next_is;
      settled = it.settled;
      holds = λ tells was. it.holds tells (still_holds nothing_known tells was);
      keeps = λ known tells first_is was. it.keeps known tells (first_is ∙ sym (ap (λ (x : Head). x.first) head_stays)) (still_holds known tells was);
    }

    pub stops_at_head : (head : Head) (new : SectionState D) → StopsAtHead disk head mid new → StopsInUse disk head old new
    stops_at_head head new stop = record {
      head_is = stop.head_is ∙ head_stays;
      holds = λ tells was. stop.keeps nothing_known tells (still_holds nothing_known tells was);
      next = inr (stop.next_is, stop.phase, λ known tells was reads. stop.keeps known tells (knows known tells was reads));
    }

    pub holds_in_use : (head : Head) (new : SectionState D) → head.first ≡ old.head.first → HasHead disk head mid new → (known : KnownBuckets) → IsTrue disk.tells
        → DiskHolds disk old nothing_known → ReadsKnown disk old known → DiskHolds disk new known
    holds_in_use head new first_is it known tells was reads =
        it.keeps known tells (first_is ∙ sym (ap (λ (x : Head). x.first) head_stays)) (knows known tells was reads)
