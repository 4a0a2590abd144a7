-- What the images of a sound section are.
use Rattle.std.proofs.Common.{◌≡◌, ◌≢◌, ◌⊎◌, inl, inr, ⊎_elim, ℕ, ◌+◌, ◌-◌, ◌<◌, ◌≤◌, List, [], Option, Some, None, refl, sym, ◌∙◌, ap, subst, arith}
use Rattle.std.proofs.lemmas.Option.{same_Some}
use Rattle.std.specs.Prelude.{IsSome}
use Rattle.std.proofs.lemmas.Bool.{cases_lt, false≢true}
use Rattle.vt_base.specs.declared.place.Entry.{Entry}
use Rattle.vt_bucket.specs.Frame.{IsBucketFrame}
use Rattle.vt_disk.specs.declared.region.Region.{Region}
use Rattle.vt_twin.specs.Frames.{current_frame}
use Rattle.vt_twin.specs.Twin.{next_frame}
use Rattle.vt_twin.specs.Sound.{TwinHasBegunSelector}
use Rattle.vt_twin.proofs.Steps.{sound_gives}
use Rattle.vt_isect.specs.declared.head.Head.{Head}
use Rattle.vt_isect.specs.declared.phase.Phase.{Phase}
use Rattle.vt_isect.specs.declared.phase.Phase.TheVariants.{Rest, ReadSelector, ReadFrame, WriteFrame, SyncFrames, WriteSelector, SyncSelectors, ChangeHead}
use Rattle.vt_isect.specs.Head.{IsHeadFrame}
use Rattle.vt_isect.specs.Layout.{head_place, IsBucketPlace, InRange}
use Rattle.vt_isect.specs.Merging.{Merges}
use Rattle.vt_isect.specs.Section.{SectionState, IsChanging, IsOfGroup}
use Rattle.vt_isect.specs.Sound.{KnownBuckets, KnowsEachBucket, HoldsBucket, IsSoundSection, LeavesHead, LeavesSection}
use Rattle.vt_twin.proofs.Changes.{begun_bound, none_made}
use Rattle.vt_isect.proofs.Members.{Stands, standing}

is_head_phase : (p : Phase) → (p ≡ ChangeHead) ⊎ (p ≢ ChangeHead)
is_head_phase Rest = inr (λ e. cc)
is_head_phase ReadSelector = inr (λ e. cc)
is_head_phase (ReadFrame s) = inr (λ e. cc)
is_head_phase (WriteFrame s) = inr (λ e. cc)
is_head_phase SyncFrames = inr (λ e. cc)
is_head_phase (WriteSelector j) = inr (λ e. cc)
is_head_phase SyncSelectors = inr (λ e. cc)
is_head_phase ChangeHead = inl refl

pub changing : {D : Type 0} (t : SectionState D) (n : ℕ) → IsChanging t n ⊎ ¬ IsChanging t n
changing t n = ⊎_elim (λ (it : Stands t n). inl (it.1, it.3)) (λ still. inr still) (standing t n)

-- the section has a bucket of this number, or hasn't
pub in_range : (head : Head) (buckets n : ℕ) → InRange head buckets n ⊎ ¬ InRange head buckets n
in_range head buckets n = ⊎_elim
    (λ (low : n < head.first). inr (λ both. omega (arith, both.0, low)))
    (λ (from : head.first ≤ n). ⊎_elim
    (λ (below : n < head.first + buckets). inl (from, below))
    (λ (past : head.first + buckets ≤ n). inr (λ both. omega (arith, both.1, past)))
    (cases_lt n (head.first + buckets)))
    (cases_lt n head.first)

module _ {D : Type 0} (t : SectionState D) (known : KnownBuckets) (read : List ℕ) (images : List ℕ → Type 0)
    (sound : IsSoundSection t known read images) (c : List ℕ) (left : images c) where
  -- what stands in a bucket of an image
  abbrev InBucket : ℕ → List Entry → Type 0
  InBucket n es = ((region : Region) × IsBucketPlace (n - t.head.first) region × IsBucketFrame n es (current_frame region 8192 c))
      × ((old : List Entry) → known n ≡ Some old → (es ≡ old) ⊎ (IsChanging t n × Merges old (IsOfGroup t n) es))

  holds : (n : ℕ) (old : List Entry) → known n ≡ Some old → HoldsBucket t n old read images → (es : List Entry) × InBucket n es
  holds n old is it =
      let gives = sound_gives it.twin it.region it.frame read images it.sound c left in
      let at : (f : List ℕ) → current_frame it.region it.twin.frame_len c ≡ f → current_frame it.region 8192 c ≡ f =
      λ f e. sym (ap (λ (k : ℕ). current_frame it.region k c) it.frame_len) ∙ e in
      ⊎_elim
      (λ (same : current_frame it.region it.twin.frame_len c ≡ it.frame). (
        old,
        (
          (it.region, it.place, subst (λ (f : List ℕ). IsBucketFrame n old f) (sym (at it.frame same)) it.spelled),
          λ other e. inl (same_Some old other (sym is ∙ e)),
        ),
      ))
      (λ (new : TwinHasBegunSelector it.twin × (current_frame it.region it.twin.frame_len c ≡ next_frame it.twin)).
      ⊎_elim
      (λ (way : Stands t n).
      let come = it.changing way.0 way.1 way.3 way.2 in (
        come.new,
        (
          (it.region, it.place, subst (λ (f : List ℕ). IsBucketFrame n come.new f) (sym (at (next_frame it.twin) new.1)) come.spelled),
          λ other e. inr ((way.1, way.3), subst (λ (o : List Entry). Merges o (IsOfGroup t n) come.new) (same_Some old other (sym is ∙ e)) come.merges),
        ),
      ))
      (λ (no : ¬ IsChanging t n). absurd (omega (arith, new.0, begun_bound it.twin, none_made it.twin (it.rest no))))
      (standing t n))
      gives

  in_bucket : (n : ℕ) (k : Option (List Entry)) → known n ≡ k → IsSome k → InRange t.head t.buckets n → (es : List Entry) × InBucket n es
  in_bucket n None is some within = absurd (false≢true some)
  in_bucket n (Some old) is some within = holds n old is (sound.bucket n old within is)

  -- what there is for each bucket of the section
  abbrev pick : (n : ℕ) → ((n : ℕ) → InRange t.head t.buckets n → (es : List Entry) × InBucket n es) → InRange t.head t.buckets n ⊎ ¬ InRange t.head t.buckets n → List Entry
  pick n has (inl within) = (has n within).0
  pick n has (inr outside) = []

  picked : (n : ℕ) (has : (n : ℕ) → InRange t.head t.buckets n → (es : List Entry) × InBucket n es) (side : InRange t.head t.buckets n ⊎ ¬ InRange t.head t.buckets n)
      → InRange t.head t.buckets n → InBucket n (pick n has side)
  picked n has (inl within) in_it = (has n within).1
  picked n has (inr outside) in_it = absurd (outside in_it)

  pub head_gives : (h : Head) × LeavesHead t h × IsHeadFrame t.name h (current_frame head_place 8192 c)
  head_gives =
      let gives = sound_gives t.head_twin head_place sound.head_frame read images sound.head_twin c left in
      let at : (f : List ℕ) → current_frame head_place t.head_twin.frame_len c ≡ f → current_frame head_place 8192 c ≡ f =
      λ f e. sym (ap (λ (k : ℕ). current_frame head_place k c) sound.head_len) ∙ e in
      ⊎_elim
      (λ (same : current_frame head_place t.head_twin.frame_len c ≡ sound.head_frame).
      (t.head, inl refl, subst (λ (f : List ℕ). IsHeadFrame t.name t.head f) (sym (at sound.head_frame same)) sound.head))
      (λ (new : TwinHasBegunSelector t.head_twin × (current_frame head_place t.head_twin.frame_len c ≡ next_frame t.head_twin)).
      ⊎_elim
      (λ (way : t.phase ≡ ChangeHead).
      (t.next, inr (way, new.0, refl), subst (λ (f : List ℕ). IsHeadFrame t.name t.next f) (sym (at (next_frame t.head_twin) new.1)) (sound.head_changing way)))
      (λ (no : t.phase ≢ ChangeHead). absurd (omega (arith, new.0, begun_bound t.head_twin, none_made t.head_twin (sound.head_rest no))))
      (is_head_phase t.phase))
      gives

  -- An image has the old head or the next, and of each bucket what is known or that with the group.
  pub leaves : KnowsEachBucket t known → t.next.first ≡ t.head.first → LeavesSection t known c
  leaves whole first =
      let h = head_gives in
      let has : (n : ℕ) → InRange t.head t.buckets n → (es : List Entry) × InBucket n es =
      λ n within. in_bucket n (known n) refl (whole n within) within in
      let all : ℕ → List Entry = λ n. pick n has (in_range t.head t.buckets n) in
      let all_is : (n : ℕ) → InRange t.head t.buckets n → InBucket n (all n) = λ n within. picked n has (in_range t.head t.buckets n) within in
      let same_first : h.0.first ≡ t.head.first = ⊎_elim (λ (e : h.0 ≡ t.head). ap (λ (x : Head). x.first) e)
      (λ (e : (t.phase ≡ ChangeHead) × TwinHasBegunSelector t.head_twin × (h.0 ≡ t.next)). ap (λ (x : Head). x.first) e.2 ∙ first) h.1 in (
        h.0,
        all,
        record {
          head_frame = h.2;
          bucket = λ n within.
              let here : InRange t.head t.buckets n = subst (λ (k : ℕ). (k ≤ n) × (n < k + t.buckets)) same_first within in
              let it = (all_is n here).0 in
              (it.0, subst (λ (k : ℕ). IsBucketPlace (n - k) it.0) (sym same_first) it.1, it.2);
        },
        h.1,
        λ n old within is. (all_is n within).1 old is,
      )
