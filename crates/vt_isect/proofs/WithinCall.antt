-- What a crash within a step leaves.
use Rattle.std.proofs.Common.{◌≡◌, ◌≢◌, ◌⊎◌, inl, inr, ⊎_elim, ℕ, ◌+◌, ◌<◌, ◌≤◌, List, Option, Some, None, Result, Ok, Err, refl, sym, ◌∙◌, ap, subst}
use Rattle.std.specs.Prelude.{IsSome}
use Rattle.std.proofs.lemmas.Bool.{false≢true}
use Rattle.vt_base.specs.declared.place.Entry.{Entry}
use Rattle.vt_disk.specs.Disk.{WithinCall}
use Rattle.vt_model.specs.History.{History}
use Rattle.vt_model.specs.Places.{Setup}
use Rattle.vt_twin.specs.declared.step.Step.{Step}
use Rattle.vt_twin.specs.declared.step.Step.TheVariants.{More, Done}
use Rattle.vt_isect.specs.declared.error.ShardErr.{ShardErr}
use Rattle.vt_isect.specs.declared.error.ShardErr.TheVariants.{Fault, Damaged, Stopped}
use Rattle.vt_isect.specs.declared.head.Head.{Head}
use Rattle.vt_isect.specs.declared.phase.Phase.{Phase}
use Rattle.vt_isect.specs.declared.phase.Phase.TheVariants.{Rest, ReadSelector, ReadFrame, WriteFrame, SyncFrames, WriteSelector, SyncSelectors, ChangeHead}
use Rattle.vt_isect.specs.Agreement.{KnownAgrees, LeavesAgreeing}
use Rattle.vt_isect.specs.Layout.{InRange}
use Rattle.vt_isect.specs.Section.{SectionState, IsChanging}
use Rattle.vt_isect.specs.Sound.{KnownBuckets, KnowsEachBucket, IsSoundSection, LeavesSection}
use Rattle.vt_isect.specs.Writeback.{SectionAdvances, Completes, EndsWith, Follows, SectionGoesOn}
use Rattle.vt_isect.proofs.AgreesWith.{leaves_agree}
use Rattle.vt_isect.proofs.Follows.{KeepsAt}
use Rattle.vt_isect.proofs.LeavesSection.{leaves, changing}

-- what a step leaves of where the section stands
pub record Stands {D : Type 0} (t u : SectionState D) : Type 0 where
  pub first : u.head.first ≡ t.head.first
  pub next : u.next.first ≡ u.head.first
  pub buckets : u.buckets ≡ t.buckets
  pub name : u.name ≡ t.name

ends : {D : Type 0} (t u : SectionState D) (head : Head) → head.first ≡ t.head.first → EndsWith head t u → Stands t u
ends t u head first it = record {
  first = ap (λ (x : Head). x.first) it.head_is ∙ first;
  next = ap (λ (x : Head). x.first) (it.next_is ∙ sym it.head_is);
  buckets = it.section.buckets;
  name = it.section.name;
}

goes : {D : Type 0} (t u : SectionState D) → t.next.first ≡ t.head.first → SectionGoesOn t u → Stands t u
goes t u first it = record {
  first = ap (λ (x : Head). x.first) it.head_is;
  next = ap (λ (x : Head). x.first) it.next_is ∙ first ∙ sym (ap (λ (x : Head). x.first) it.head_is);
  buckets = it.section.buckets;
  name = it.section.name;
}

pub stands : {D : Type 0} (result : Result Step ShardErr) (t u : SectionState D) → t.next.first ≡ t.head.first → SectionAdvances result t u → Stands t u
stands (Ok More) t u first it = goes t u first it.0
stands (Ok Done) t u first it = ends t u t.next first it.2
stands (Err Fault) t u first it = ⊎_elim (λ end. ends t u t.head refl end.1) (λ stop. goes t u first stop.1) it
stands (Err (Damaged b w f)) t u first it = ends t u t.head refl it.1
stands (Err (Stopped n)) t u first it = record {
  first = ap (λ x. x.head.first) it.1;
  next = ap (λ x. x.next.first) it.1 ∙ first ∙ sym (ap (λ x. x.head.first) it.1);
  buckets = ap (λ x. x.buckets) it.1;
  name = ap (λ x. x.name) it.1;
}

is_more : (result : Result Step ShardErr) → (result ≡ Ok More) ⊎ (result ≢ Ok More)
is_more (Ok More) = inl refl
is_more (Ok Done) = inr (λ e. cc)
is_more (Err e) = inr (λ q. cc)

is_selector_sync : (p : Phase) → (p ≡ SyncSelectors) ⊎ (p ≢ SyncSelectors)
is_selector_sync Rest = inr (λ e. cc)
is_selector_sync ReadSelector = inr (λ e. cc)
is_selector_sync (ReadFrame s) = inr (λ e. cc)
is_selector_sync (WriteFrame s) = inr (λ e. cc)
is_selector_sync SyncFrames = inr (λ e. cc)
is_selector_sync (WriteSelector j) = inr (λ e. cc)
is_selector_sync SyncSelectors = inl refl
is_selector_sync ChangeHead = inr (λ e. cc)

pub completes_or : {D : Type 0} (result : Result Step ShardErr) (t : SectionState D) (n : ℕ) → Completes result t n ⊎ ¬ Completes result t n
completes_or result t n = ⊎_elim
    (λ (a : result ≡ Ok More). ⊎_elim
    (λ (b : t.phase ≡ SyncSelectors). ⊎_elim
    (λ (way : IsChanging t n). inl (a, b, way))
    (λ (still : ¬ IsChanging t n). inr (λ it. still it.2))
    (changing t n))
    (λ (b : t.phase ≢ SyncSelectors). inr (λ it. b it.1))
    (is_selector_sync t.phase))
    (λ (a : result ≢ Ok More). inr (λ it. a it.0))
    (is_more result)

module _ {D : Type 0} (result : Result Step ShardErr) (t u : SectionState D) (read reads : List ℕ) (images after : List ℕ → Type 0)
    (keeps : KeepsAt result t u read images reads after) (steps : SectionAdvances result t u) where
  still_whole : (known knows : KnownBuckets) → Stands t u → Follows result t u known knows → KnowsEachBucket t known → KnowsEachBucket u knows
  still_whole known knows at follows whole n within =
      let here : InRange t.head t.buckets n = subst (λ (b : ℕ). (t.head.first ≤ n) × (n < t.head.first + b)) at.buckets
      (subst (λ (k : ℕ). (k ≤ n) × (n < k + u.buckets)) at.first within) in
      ⊎_elim
      (λ (done : Completes result t n). by (known n) refl (whole n here) done)
      (λ (other : ¬ Completes result t n). subst (λ (o : Option (List Entry)). IsSome o) (sym (follows.kept n at.first other)) (whole n here))
      (completes_or result t n)
    where
      by : (o : Option (List Entry)) → known n ≡ o → IsSome o → Completes result t n → IsSome (knows n)
      by None is some done = absurd (false≢true some)
      by (Some old) is some done =
          let it = follows.merged n old at.first done is in
          subst (λ (o : Option (List Entry)). IsSome o) (sym it.1) refl

  pub crash_within : (known : KnownBuckets) → IsSoundSection t known read images → KnowsEachBucket t known → t.next.first ≡ t.head.first
      → (knows : KnownBuckets) × Follows result t u known knows
      × ((file : List ℕ) → WithinCall images after file → LeavesSection t known file ⊎ LeavesSection u knows file)
  crash_within known sound whole first =
      let at = stands result t u first steps in
      let it = keeps known sound in (
        it.0,
        it.1,
        λ file within. ⊎_elim
            (λ (was : images file). inl (leaves t known read images sound file was whole first))
            (λ (is : after file). inr (leaves u it.0 reads after it.2 file is (still_whole known it.0 at it.1 whole) at.next))
            within,
      )

  pub agrees_within : (score : List ℕ → List ℕ) (c : Setup) (h : History) (known : KnownBuckets) → IsSoundSection t known read images → KnownAgrees score c h t known
      → (knows : KnownBuckets) × Follows result t u known knows
      × ((file : List ℕ) → WithinCall images after file → LeavesAgreeing score c h t known file ⊎ LeavesAgreeing score c h u knows file)
  agrees_within score c h known sound agrees =
      let it = keeps known sound in
      let later = it.3 score c h agrees in (
        it.0,
        it.1,
        λ file within. ⊎_elim
            (λ (was : images file).
            let left = leaves t known read images sound file was agrees.whole agrees.same_first in
            inl (left, leaves_agree score c h t known agrees file left))
            (λ (is : after file).
            let left = leaves u it.0 reads after it.2 file is later.whole later.same_first in
            inr (left, leaves_agree score c h u it.0 later file left))
            within,
      )
