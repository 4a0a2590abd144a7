-- What a step does to the disk.
use Rattle.std.proofs.Common.{◌≡◌, ⊎_elim, ℕ, ◌+◌, ◌-◌, ◌*◌, ◌≤◌, List, length, Option, Some, refl, sym, ap, subst}
use Rattle.std.specs.Prelude.{slice_get}
use Rattle.std.proofs.lemmas.Option.{slice_get-get_or}
use Rattle.vt_disk.specs.declared.region.Region.{Region}
use Rattle.vt_disk.specs.DeviceCalls.{DeviceCall, TouchedBy, bytes_after}
use Rattle.vt_disk.specs.DeviceCalls.DeviceCall.{sync}
use Rattle.vt_disk.specs.Disk.{Touches}
use Rattle.vt_disk.specs.Region.{Inside}
use Rattle.vt_twin.specs.Calls.{call_at}
use Rattle.vt_twin.specs.Frames.{FitsTwin, selector_start, with_frame, with_selector}
use Rattle.vt_twin.specs.Twin.{twin_calls_made, next_frame}
use Rattle.vt_twin.specs.declared.calls.Stage.TheVariants.{WriteFrame as FrameWrite}
use Rattle.vt_twin.proofs.Places.{selector_length, selector_within, touched_inside}
use Rattle.vt_isect.specs.declared.groups.Member.{Member}
use Rattle.vt_isect.specs.declared.phase.Phase.{Phase}
use Rattle.vt_isect.specs.declared.phase.Phase.TheVariants.{Rest, ReadSelector, ReadFrame, WriteFrame, SyncFrames, WriteSelector, SyncSelectors, ChangeHead}
use Rattle.vt_isect.specs.Layout.{head_place, bucket_place}
use Rattle.vt_isect.specs.Section.{SectionState, ChangesGroup, HasBucket, IsGroup}
use Rattle.vt_isect.specs.Writeback.{NextCallReads, MayWrite, NextCallSyncs, NextCallWrites, next_section_call, selector_write}
use Rattle.vt_isect.proofs.IsRead.{changes_phase, read_phase}
use Rattle.vt_isect.proofs.Members.{at_member}
use Rattle.vt_isect.proofs.Places.{is_place, place_is, place_room}

module _ {D : Type 0} (t : SectionState D) (size : ℕ) (room : 24576 + 16896 * t.buckets ≤ size) (group : IsGroup t) where
  -- the write of an idle frame, and that of a selector, lie in their bucket's place
  pub frame_inside : (s : ℕ) → t.phase ≡ WriteFrame s → length t.frame ≡ 8192 → (i : ℕ) → TouchedBy (next_section_call (WriteFrame s) t) i → Inside (bucket_place (t.bucket - t.head.first)) i
  frame_inside s phase whole i touched =
      touched_inside (bucket_place (t.bucket - t.head.first)) 8192 size
      (place_room 8192 size t.buckets t.head t.bucket (bucket_place (t.bucket - t.head.first)) refl room (group.bucket (subst HasBucket (sym phase) tt)) (is_place (t.bucket - t.head.first)))
      s (group.current s phase) t.frame whole FrameWrite i touched

  pub selector_inside : (j : ℕ) (m : Member) → slice_get t.group j ≡ Some m → (i : ℕ) → TouchedBy (selector_write t (Some m)) i → Inside (bucket_place (m.bucket - t.head.first)) i
  selector_inside j m at i touched =
      let region = bucket_place (m.bucket - t.head.first) in
      let has_room : FitsTwin region 8192 size =
      place_room 8192 size t.buckets t.head m.bucket region refl room (group.members m (at_member t.group j m at)).0 (is_place (m.bucket - t.head.first)) in
      selector_within region 8192 size has_room i
      (subst (λ (n : ℕ). Touches (selector_start region 8192) n i) (selector_length region 8192 size has_room (1 - m.current)) touched)

  -- the member whose selector is written
  pub member_at : (j : ℕ) → t.phase ≡ WriteSelector j → (m : Member) × (slice_get t.group j ≡ Some m)
  member_at j phase = (_, slice_get-get_or t.group j (record { bucket = 0; current = 0 }) (group.selector j phase))

  -- what is written for the group is what may be
  pub may_write : length t.frame ≡ 8192 → (p : Phase) → ChangesGroup p → t.phase ≡ p → (i : ℕ) → TouchedBy (next_section_call p t) i → MayWrite p t i
  may_write whole = changes_phase (λ p. t.phase ≡ p → (i : ℕ) → TouchedBy (next_section_call p t) i → MayWrite p t i)
      (λ s phase i touched. (bucket_place (t.bucket - t.head.first), is_place (t.bucket - t.head.first), frame_inside s phase whole i touched))
      (λ phase i touched. touched)
      (λ j phase i touched.
      let at = member_at j phase in
      (at.0, at.1, (bucket_place (at.0.bucket - t.head.first), is_place (at.0.bucket - t.head.first), selector_inside j at.0 at.1 i (subst (λ (o : Option Member). TouchedBy (selector_write t o) i) at.1 touched))))
      (λ phase i touched. touched)

module _ {D : Type 0} (t : SectionState D) (read reads : List ℕ) where
  -- and what a read gives behind it
  pub next_writes : (p : Phase) → ChangesGroup p → reads ≡ bytes_after (next_section_call p t) read → NextCallWrites p t read reads
  next_writes = changes_phase (λ p. reads ≡ bytes_after (next_section_call p t) read → NextCallWrites p t read reads)
      (λ s bytes region here. subst (λ (r : Region). reads ≡ with_frame r 8192 (1 - s) t.frame read) (sym (place_is (t.bucket - t.head.first) region here)) bytes)
      (λ bytes. bytes)
      (λ j bytes m region at here.
      subst (λ (r : Region). reads ≡ with_selector r 8192 (1 - m.current) read) (sym (place_is (m.bucket - t.head.first) region here))
      (subst (λ (o : Option Member). reads ≡ bytes_after (selector_write t o) read) at bytes))
      (λ bytes. bytes)

  pub head_writes : t.head_twin.frame_len ≡ 8192 → reads ≡ bytes_after (next_section_call ChangeHead t) read → NextCallWrites ChangeHead t read reads
  head_writes len written = subst (λ (n : ℕ). reads ≡ bytes_after (call_at (twin_calls_made t.head_twin) head_place n t.head_twin.current (next_frame t.head_twin)) read) len written

-- what is called a sync is one
pub syncs_next : {D : Type 0} (t : SectionState D) (p : Phase) → NextCallSyncs p t → next_section_call p t ≡ sync
syncs_next t Rest syncs = absurd syncs
syncs_next t ReadSelector syncs = absurd syncs
syncs_next t (ReadFrame s) syncs = absurd syncs
syncs_next t (WriteFrame s) syncs = absurd syncs
syncs_next t SyncFrames syncs = refl
syncs_next t (WriteSelector j) syncs = absurd syncs
syncs_next t SyncSelectors syncs = refl
syncs_next t ChangeHead syncs =
    let at : (n : ℕ) → DeviceCall = λ n. call_at n head_place t.head_twin.frame_len t.head_twin.current (next_frame t.head_twin) in
    ⊎_elim (λ (one : twin_calls_made t.head_twin ≡ 1). ap at one) (λ (three : twin_calls_made t.head_twin ≡ 3). ap at three) syncs

-- a read writes nothing, and is no sync
pub read_writes : {D : Type 0} (t : SectionState D) (read reads : List ℕ) → reads ≡ read → NextCallReads t.phase → NextCallWrites t.phase t read reads
read_writes t read reads same = read_phase (λ p. NextCallWrites p t read reads) same (λ s. same) t.phase

pub read_syncs : {D : Type 0} (t : SectionState D) → NextCallReads t.phase → ¬ NextCallSyncs t.phase t
read_syncs t = read_phase (λ p. ¬ NextCallSyncs p t) (λ no. no) (λ s no. no) t.phase
