-- The steps of a writeback keep what is known, and those of a change of the head do.
use Rattle.std.proofs.Common.{◌≡◌, ◌≢◌, ◌⊎◌, inl, inr, ⊎_elim, ℕ, ◌+◌, ◌-◌, ◌*◌, ◌%◌, ◌<◌, ◌≤◌, List, [], length, drop, take, Option, Some, None, Ok, IsTrue, refl, sym, ◌∙◌, ap, subst, arith}
use Rattle.std.specs.List.{Contains}
use Rattle.std.proofs.lemmas.Bool.{cases_eq}
use Rattle.vt_base.specs.declared.place.Entry.{Entry}
use Rattle.vt_bucket.specs.Frame.{IsBucketFrame}
use Rattle.vt_bucket.proofs.Frames.{one_frame}
use Rattle.vt_disk.specs.declared.region.Region.{Region}
use Rattle.vt_disk.specs.Disk.{AreAmong, Only, SameBut}
use Rattle.vt_disk.specs.Members.{DiskOf}
use Rattle.vt_disk.specs.Region.{Inside, ChangesWithin}
use Rattle.vt_model.specs.History.{History}
use Rattle.vt_model.specs.Places.{Setup}
use Rattle.vt_twin.specs.Frames.{frame_of}
use Rattle.vt_twin.specs.Twin.{TwinState, next_frame, with_change}
use Rattle.vt_twin.specs.declared.step.Step.TheVariants.{More, Done}
use Rattle.vt_twin.specs.Sound.{IsSoundTwin}
use Rattle.vt_isect.specs.declared.head.Head.{Head}
use Rattle.vt_isect.specs.declared.phase.Phase.{Phase}
use Rattle.vt_isect.specs.declared.phase.Phase.TheVariants.{Rest, ReadFrame, WriteFrame, SyncSelectors, ChangeHead}
use Rattle.vt_isect.specs.Agreement.{IsMarkCovered, NoOthers, KnownAgrees}
use Rattle.vt_isect.specs.Entries.{EntriesState, listed_entries}
use Rattle.vt_isect.specs.Head.{IsHead, IsHeadFrame, encoded}
use Rattle.vt_isect.specs.Layout.{head_place, IsBucketPlace, InRange}
use Rattle.vt_isect.specs.Merging.{IsMerged, Merges}
use Rattle.vt_isect.specs.Section.{SectionState, HasBucket, HasGroup, IsChanging, IsGroup, IsOfGroup, IsTodo, PutsEntries, bucket_number, entering, entries_of}
use Rattle.vt_isect.specs.Sound.{KnownBuckets, IsFrameMade, IsSoundSection, StillNames, nothing_known}
use Rattle.vt_isect.specs.Writeback.{BeginsBehind, BeginsGroup, BeginsHead, ComesNext, NextCallReads, NextPhase}
use Rattle.vt_isect.proofs.AreNext.{behind, group_or_behind, none_behind}
use Rattle.vt_isect.proofs.Follows.{KeepsAt}
use Rattle.vt_isect.proofs.Heads.{frame_has}
use Rattle.vt_isect.proofs.IsRead.{read_apart, read_puts}
use Rattle.vt_isect.proofs.IsSoundSection.{Passes, bucket_begins, bucket_passes, head_begins, others_pass}
use Rattle.vt_isect.proofs.Joining.{names_current}
use Rattle.vt_isect.proofs.Places.{apart_from_head, one_place, place_room}
use Rattle.vt_isect.proofs.Settling.{knows, settled_agrees, settled_follows, settled_sound}

-- ---- a bucket is read

-- the frame that was read of the bucket under way is its own, and so the new one has its entries
pub read_made : {D : Type 0} (t : SectionState D) (s : ℕ) (region : Region) (known : KnownBuckets) (read frame : List ℕ) (images : List ℕ → Type 0)
    → t.phase ≡ ReadFrame s → IsGroup t → images read → IsBucketPlace (t.bucket - t.head.first) region
    → IsMerged t.bucket (entering t) (frame_of region 8192 (s % 2) read) frame
    → IsSoundSection t known read images → (entries : List Entry) → known t.bucket ≡ Some entries
    → IsFrameMade (record t { frame = frame }) entries
read_made t s region known read frame images phase group is_image place merged sound entries is =
    let has : HasBucket t.phase = subst HasBucket (sym phase) tt in
    let it = sound.bucket t.bucket entries (group.bucket has) is in
    let current = (names_current t (s % 2) entries read images group has is_image (sound.selector s phase) it).1 in
    let here : it.region ≡ region = one_place (t.bucket - t.head.first) it.region region it.place place in
    let at : frame_of it.region it.twin.frame_len it.twin.current read ≡ frame_of region 8192 (s % 2) read = λ i. frame_of (here i) (it.frame_len i) (current i) read in
    let kept : frame_of region 8192 (s % 2) read ≡ it.frame = sym at ∙ it.sound.kept read is_image in
    let same : merged.old ≡ entries =
    (one_frame t.bucket t.bucket merged.old entries it.frame (subst (λ (f : List ℕ). IsBucketFrame t.bucket merged.old f) kept merged.was) it.spelled).1 in (
      merged.new,
      merged.is,
      subst (λ (l : List Entry). Merges l (Contains (entering t)) merged.new) same merged.merges,
    )

-- ---- a group is done

-- the section behind its last call, with nothing under way
abbrev pub ended : {D : Type 0} → SectionState D → SectionState D
ended t = record t { next = t.head; phase = Rest; group = [] }

-- what is under way then: the next group, or the head
abbrev pub GoesTo : {D : Type 0} → (t v : SectionState D) → Type 0
GoesTo t v = (NextCallReads v.phase × (v ≡ record (ended t) { next = t.next; phase = v.phase; written = t.begun; framed = t.begun; begun = v.begun; bucket = v.bucket }))
    ⊎ (v ≡ record (ended t) { next = t.next; phase = ChangeHead; written = t.begun; head_twin = with_change (encoded t.name t.next) t.head_twin })

pub goes_next : {D : Type 0} (disk : DiskOf D) (t v : SectionState D) → t.phase ≡ SyncSelectors → BeginsBehind t.begun v → GoesTo t v → (v.phase ≡ ChangeHead → IsHead t.next)
    → ((s : ℕ) → IsTrue disk.tells → v.phase ≡ ReadFrame s → StillNames v (s % 2) (disk.bytes v.disk)) → ComesNext disk t v
goes_next disk t v is begins (inl to) fits named = record {
  section = record { buckets = ap (λ x. x.buckets) to.1; name = ap (λ x. x.name) to.1; entries = ap (λ x. x.entries) to.1; most = ap (λ x. x.most) to.1 };
  disk_is = ap (λ x. x.disk) to.1;
  head_is = ap (λ x. x.head) to.1;
  next_is = ap (λ x. x.next) to.1;
  calls = ap (λ x. x.calls) to.1;
  stopped = ap (λ x. x.stopped) to.1;
  phase = subst (λ (p : Phase). NextPhase p t v) (sym is) begins;
  group_twin = λ other. ap (λ x. x.head_twin) to.1;
  head_twin = λ e. absurd (read_apart v.phase to.0 e);
  named = named;
}
goes_next disk t v is begins (inr to) fits named = record {
  section = record { buckets = ap (λ x. x.buckets) to; name = ap (λ x. x.name) to; entries = ap (λ x. x.entries) to; most = ap (λ x. x.most) to };
  disk_is = ap (λ x. x.disk) to;
  head_is = ap (λ x. x.head) to;
  next_is = ap (λ x. x.next) to;
  calls = ap (λ x. x.calls) to;
  stopped = ap (λ x. x.stopped) to;
  phase = subst (λ (p : Phase). NextPhase p t v) (sym is) begins;
  group_twin = λ other. absurd (other (ap (λ x. x.phase) to));
  head_twin = λ e. (ap (λ x. x.head_twin) to, fits e);
  named = named;
}

module _ {D : Type 0} (disk : DiskOf D) (t v : SectionState D) (d : D) (calls : ℕ) (stopped : Option ℕ) (read reads : List ℕ) (images after : List ℕ → Type 0)
    (phase : t.phase ≡ SyncSelectors) (goes : t.stopped ≡ None) (group : IsGroup t) (same : reads ≡ read) (among : AreAmong after images) (settled : Only read after)
    (name_len : length t.name ≡ 64) (next : ComesNext disk (record t { disk = d; calls = calls; stopped = stopped }) v) (named : (s : ℕ) → v.phase ≡ ReadFrame s → StillNames v (s % 2) reads) where
  no_head : t.phase ≢ ChangeHead
  no_head e = let no : SyncSelectors ≡ ChangeHead = sym phase ∙ e in cc

  begins : BeginsBehind t.begun v
  begins = subst (λ (p : Phase). NextPhase p (record t { disk = d; calls = calls; stopped = stopped }) v) phase next.phase

  framed_is : t.framed ≡ t.begun
  framed_is = (group.whole (subst HasGroup (sym phase) tt)).1

  goes_sound : (knows : KnownBuckets) → IsSoundSection (ended t) knows reads after → IsSoundSection v knows reads after
  goes_sound knows sound = ⊎_elim
      (λ (here : BeginsGroup t.begun v). bucket_begins (ended t) v knows reads after next.section.name next.head_is next.section.buckets (next.group_twin (read_apart v.phase here.0.0))
      refl here.0.0 here.2 (λ none. goes) named sound)
      (λ (there : BeginsHead t.begun v).
      let twin = next.head_twin there.0 in
      head_begins (ended t) v (encoded t.name t.next) knows reads after next.section.name next.head_is next.section.buckets twin.0 refl there.0
      (subst (λ (h : Head). IsHeadFrame t.name h (encoded t.name t.next)) (sym next.next_is) (frame_has t.name t.next twin.1 name_len)) (λ none. goes) sound)
      begins

  listed : entries_of v ≡ entries_of t
  listed = ap (λ (o : Option EntriesState). listed_entries o) next.section.entries

  written_is : v.written ≡ t.begun
  written_is = ⊎_elim (λ here. here.1) (λ there. there.1) begins

  back : (entry : Entry) → IsTodo v entry → IsTodo t entry
  back entry way = (
    subst PutsEntries (sym phase) tt,
    behind t.written t.framed (entries_of t) group.order.0 (omega (arith, group.order)) entry
        (subst (λ (k : ℕ). Contains (drop k (entries_of t)) entry) (written_is ∙ sym framed_is)
        (subst (λ (l : List Entry). Contains (drop v.written l) entry) listed way.1)),
  )

  forth : (entry : Entry) → IsTodo t entry → IsOfGroup t (bucket_number t entry) entry ⊎ IsTodo v entry
  forth entry way = ⊎_elim
      (λ (of : Contains (drop t.written (take t.framed (entries_of t))) entry). inl (of, refl))
      (λ (rest : Contains (drop t.framed (entries_of t)) entry).
      let has : Contains (drop v.written (entries_of v)) entry =
      subst (λ (l : List Entry). Contains (drop v.written l) entry) (sym listed)
      (subst (λ (k : ℕ). Contains (drop k (entries_of t)) entry) (framed_is ∙ sym written_is) rest) in
      ⊎_elim
      (λ (here : BeginsGroup t.begun v). inr (read_puts v.phase here.0.0, has))
      (λ (there : BeginsHead t.begun v). absurd (none_behind v.written (entries_of v) (omega (arith, there.1, there.3)) entry has))
      begins)
      (group_or_behind t.written t.framed (entries_of t) group.order.0 (omega (arith, group.order)) entry way.1)

  pub keeps_settled : KeepsAt (Ok More) t v read images reads after
  keeps_settled known sound =
      let u = ended t in (
        knows t u known read reads images after refl refl refl refl refl goes no_head same among sound phase group settled,
        settled_follows t u known read reads images after refl refl refl refl refl goes no_head same among sound phase group settled v,
        goes_sound _ (settled_sound t u known read reads images after refl refl refl refl refl goes no_head same among sound phase group settled),
        λ score c h agrees. settled_agrees t u known read reads images after refl refl refl refl refl goes no_head same among sound phase group settled v
            next.head_is next.section.buckets next.next_is back forth score c h agrees,
      )

-- ---- the head

module _ {D : Type 0} (t : SectionState D) (size : ℕ) (read reads : List ℕ) (images after : List ℕ → Type 0)
    (phase : t.phase ≡ ChangeHead) (room : 24576 + 16896 * t.buckets ≤ size)
    (same : SameBut (Inside head_place) read reads) (changes : ChangesWithin head_place images after) where
  no_member : (x : SectionState D) → x.phase ≡ ChangeHead → (n : ℕ) → ¬ IsChanging x n
  no_member x is n way = subst PutsEntries is way.1.0

  pub buckets_stay : (n : ℕ) → InRange t.head t.buckets n → (r : Region) → IsBucketPlace (n - t.head.first) r → Passes r read reads images after
  buckets_stay n within r here = others_pass r (Inside head_place) size read reads images after (place_room 8192 size t.buckets t.head n r refl room within here)
      (apart_from_head (n - t.head.first) r here) same changes

  pub head_goes : (d : D) (w : TwinState) (calls : ℕ) (stopped : Option ℕ) (known : KnownBuckets) → (stopped ≡ None → t.stopped ≡ None) → w.frame_len ≡ 8192 → next_frame w ≡ next_frame t.head_twin
      → ((old : List ℕ) → IsSoundTwin t.head_twin head_place old read images → IsSoundTwin w head_place old reads after)
      → IsSoundSection t known read images
      → IsSoundSection (record t { disk = d; head_twin = w; calls = calls; stopped = stopped }) known reads after
  head_goes d w calls stopped known goes len next step sound =
      let u = record t { disk = d; head_twin = w; calls = calls; stopped = stopped } in
      record {
        head_frame = sound.head_frame;
        head_len = len;
        head_twin = step sound.head_frame sound.head_twin;
        head = sound.head;
        head_rest = λ no. absurd (no phase);
        head_changing = λ way. subst (λ (f : List ℕ). IsHeadFrame t.name t.next f) (sym next) (sound.head_changing way);
        selector = λ k way. absurd (cc);
        current = λ k way. absurd (cc);
        made = λ k entries way. absurd (cc);
        bucket = λ n entries within is. bucket_passes t u n entries read reads images after (no_member t phase n) (no_member u phase n) refl goes
            (buckets_stay n within) (sound.bucket n entries within is);
      }

  head_done : (d : D) (w : TwinState) (calls : ℕ) (stopped : Option ℕ) (known : KnownBuckets) → (stopped ≡ None → t.stopped ≡ None) → w.frame_len ≡ 8192 → w.change ≡ None
      → ((old : List ℕ) → IsSoundTwin t.head_twin head_place old read images → IsSoundTwin w head_place (next_frame t.head_twin) reads after)
      → ((n : ℕ) (entries : List Entry) → known n ≡ Some entries → t.next.first ≡ t.head.first)
      → IsSoundSection t known read images
      → IsSoundSection (record t { disk = d; head = t.next; phase = Rest; head_twin = w; calls = calls; stopped = stopped }) known reads after
  head_done d w calls stopped known starts len none step first sound =
      let u = record t { disk = d; head = t.next; phase = Rest; head_twin = w; calls = calls; stopped = stopped } in
      record {
        head_frame = next_frame t.head_twin;
        head_len = len;
        head_twin = step sound.head_frame sound.head_twin;
        head = sound.head_changing phase;
        head_rest = λ no. none;
        head_changing = λ way. absurd (cc);
        selector = λ k way. absurd (cc);
        current = λ k way. absurd (cc);
        made = λ k entries way. absurd (cc);
        bucket = λ n entries within is.
            let here : InRange t.head t.buckets n = subst (λ (k : ℕ). (k ≤ n) × (n < k + t.buckets)) (first n entries is) within in
            bucket_passes t u n entries read reads images after (no_member t phase n) (λ way. way.1.0) (first n entries is) starts
            (buckets_stay n here) (sound.bucket n entries here is);
      }

  -- what is known agrees with the head that it gets
  agrees_head : (d : D) (w : TwinState) (calls : ℕ) (stopped : Option ℕ) (score : List ℕ → List ℕ) (c : Setup) (h : History) (known : KnownBuckets) → KnownAgrees score c h t known
      → KnownAgrees score c h (record t { disk = d; head = t.next; phase = Rest; head_twin = w; calls = calls; stopped = stopped }) known
  agrees_head d w calls stopped score c h known agrees = record {
    keys = agrees.keys;
    total = agrees.same_total ∙ agrees.total;
    same_first = refl;
    same_total = refl;
    whole = λ n within. agrees.whole n (here n within);
    blocks = λ n entries entry within is has. agrees.blocks n entries entry (here n within) is has;
    todo = λ entry way. absurd way.0;
    filed = λ live. covered NoOthers (agrees.coming live);
    coming = λ live. covered (IsTodo (record t { disk = d; head = t.next; phase = Rest; head_twin = w; calls = calls; stopped = stopped })) (agrees.coming live);
  }
    where
      here : (n : ℕ) → InRange t.next t.buckets n → InRange t.head t.buckets n
      here n within = subst (λ (k : ℕ). (k ≤ n) × (n < k + t.buckets)) agrees.same_first within

      none_left : (entry : Entry) → IsTodo t entry → ⊥
      none_left entry way = subst PutsEntries phase way.0

      covered : (more : Entry → Type 0) → IsMarkCovered score c h t known (IsTodo t) t.next.mark
          → IsMarkCovered score c h (record t { disk = d; head = t.next; phase = Rest; head_twin = w; calls = calls; stopped = stopped }) known more t.next.mark
      covered more cover = record {
        fits = cover.fits;
        has = λ n i entries within is below at.
            let it = cover.has n i entries (here n within) is below at in
            (it.0, ⊎_elim (λ (has : Contains entries it.0). inl has) (λ (way : IsTodo t it.0). absurd (none_left it.0 way)) it.1, it.2);
      }

  -- the step that completes the head
  pub keeps_head : (d : D) (w : TwinState) (calls : ℕ) (stopped : Option ℕ) → (stopped ≡ None → t.stopped ≡ None) → w.frame_len ≡ 8192 → w.change ≡ None
      → ((old : List ℕ) → IsSoundTwin t.head_twin head_place old read images → IsSoundTwin w head_place (next_frame t.head_twin) reads after)
      → KeepsAt (Ok Done) t (record t { disk = d; head = t.next; phase = Rest; head_twin = w; calls = calls; stopped = stopped }) read images reads after
  keeps_head d w calls stopped starts len none step known sound = ⊎_elim
      (λ (same_first : t.next.first ≡ t.head.first). (
        known,
        record { kept = λ n first no. refl; merged = λ n entries first done. absurd (let e = done.1 in cc) },
        head_done d w calls stopped known starts len none step (λ n entries is. same_first) sound,
        λ score c h agrees. agrees_head d w calls stopped score c h known agrees,
      ))
      (λ (other : t.next.first ≢ t.head.first). (
        nothing_known,
        record { kept = λ n first no. absurd (other first); merged = λ n entries first done. absurd (other first) },
        head_done d w calls stopped nothing_known starts len none step (λ n entries is. absurd (cc)) (forgets sound),
        λ score c h agrees. absurd (other agrees.same_first),
      ))
      (cases_eq t.next.first t.head.first)
    where
      forgets : IsSoundSection t known read images → IsSoundSection t nothing_known read images
      forgets it = record {
        head_frame = it.head_frame;
        head_len = it.head_len;
        head_twin = it.head_twin;
        head = it.head;
        head_rest = it.head_rest;
        head_changing = it.head_changing;
        selector = it.selector;
        current = it.current;
        made = λ s entries way. absurd (let no : ChangeHead ≡ WriteFrame s = sym phase ∙ way in cc);
        bucket = λ n entries within is. absurd (cc);
      }
