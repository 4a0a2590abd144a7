-- The syncs of a group, and the writes of its selectors.
use Rattle.std.proofs.Common.{◌≡◌, ◌≢◌, ◌⊎◌, inl, inr, ⊎_elim, ℕ, ◌+◌, ◌-◌, ◌*◌, ◌<◌, ◌≤◌, Bool, if◌then◌else◌, List, length, Option, Some, None, refl, sym, ◌∙◌, ap, subst, arith}
use Rattle.std.specs.Prelude.{slice_get, nat_lt, IsSome}
use Rattle.std.proofs.lemmas.Bool.{cases_eq, cases_lt}
use Rattle.std.proofs.lemmas.Option.{same_Some, slice_get_within}
use borrow.Author.Tests.{lt-ltb, le-ltb}
use Rattle.vt_base.specs.declared.place.Entry.{Entry}
use Rattle.vt_bucket.specs.Frame.{IsBucketFrame}
use Rattle.vt_disk.specs.Disk.{SameBut, ChangesAt, Only}
use Rattle.vt_disk.specs.DeviceCalls.{DeviceCall, TouchedBy, bytes_after}
use Rattle.vt_disk.specs.DeviceCalls.DeviceCall.{write, sync}
use Rattle.vt_disk.specs.Members.{DiskOf}
use Rattle.vt_disk.specs.Region.{Inside}
use Rattle.vt_twin.specs.Calls.{call_at, stage_number}
use Rattle.vt_twin.specs.Frames.{FitsTwin, selector_start, selector_len, selector_bytes}
use Rattle.vt_twin.specs.Twin.{TwinState, after_call, twin_after_fault, twin_calls_made, next_frame}
use Rattle.vt_twin.specs.declared.calls.Stage.{Stage}
use Rattle.vt_twin.specs.declared.calls.Stage.TheVariants.{SyncFrame, WriteSelector as SelectorWrite}
use Rattle.vt_twin.specs.Sound.{IsSoundTwin}
use Rattle.vt_isect.specs.declared.groups.Member.{Member}
use Rattle.vt_isect.specs.declared.head.Head.{Head}
use Rattle.vt_isect.specs.declared.phase.Phase.{Phase}
use Rattle.vt_isect.specs.declared.phase.Phase.TheVariants.{SyncFrames, WriteSelector, SyncSelectors}
use Rattle.vt_isect.specs.Layout.{bucket_place, IsBucketPlace, InRange}
use Rattle.vt_isect.specs.Section.{SectionState, HasGroup, IsChanging, IsGroup, IsOfGroup, IsWell}
use Rattle.vt_isect.specs.Sound.{KnownBuckets, HasCome, HoldsBucket, IsSoundSection, made_of}
use Rattle.vt_isect.specs.Writeback.{ComesNext, NextPhase, selector_write}
use Rattle.vt_isect.proofs.IsSoundSection.{KeepsGroup, group_stands, same_group, still_at, still_member, still_of, then_member, then_of, whole_goes}
use Rattle.vt_isect.proofs.IsRead.{whole_bucket, whole_puts}
use Rattle.vt_isect.proofs.Members.{Stands, at_member, one_member, standing, well_moves}
use Rattle.vt_isect.proofs.Places.{place_is, place_room, spares_bucket, spares_head}
use Rattle.vt_isect.proofs.Twins.{own_fails, own_goes}
use Rattle.vt_isect.proofs.Writes.{selector_inside}

module _ {D : Type 0} (t u : SectionState D) (keeps : KeepsGroup t u) (group : IsGroup t) (size : ℕ) (room : 24576 + 16896 * t.buckets ≤ size)
    (read reads : List ℕ) (images after : List ℕ → Type 0) where
  -- a call of a member's change, which then has come further or failed
  module _ (n : ℕ) (entries : List Entry) (within : InRange t.head t.buckets n) (it : HoldsBucket t n entries read images) (at : Stands t n)
      (stage : Stage) (made : made_of t.phase at.0 ≡ stage_number stage) (call : DeviceCall)
      (own : call_at (stage_number stage) it.region it.twin.frame_len it.twin.current (next_frame it.twin) ≡ call)
      (same : SameBut (TouchedBy call) read reads) (changes : ChangesAt (TouchedBy call) images after) where
    come : HasCome t n entries it.twin at.0 at.1
    come = it.changing at.0 at.1 at.3 at.2

    its_room : FitsTwin it.region it.twin.frame_len size
    its_room = place_room it.twin.frame_len size t.buckets t.head n it.region it.frame_len room within it.place

    comes : (next : TwinState) → next.current ≡ it.twin.current → next_frame next ≡ next_frame it.twin → next.frame_len ≡ it.twin.frame_len
        → twin_calls_made next ≡ made_of u.phase at.0 → (u.stopped ≡ None → next.failed ≡ it.twin.failed)
        → IsSoundTwin next it.region it.frame reads after → HoldsBucket u n entries reads after
    comes next current frame len now goes sound = record {
      region = it.region;
      place = subst (λ (h : Head). IsBucketPlace (n - h.first) it.region) (sym keeps.section.head) it.place;
      twin = next;
      frame = it.frame;
      frame_len = len ∙ it.frame_len;
      sound = sound;
      spelled = it.spelled;
      rest = λ still. absurd (still (at.1, then_member t u keeps n at.1 at.3));
      changing = λ j m of is.
          let here : j ≡ at.0 = one_member t.group group.apart j at.0 m at.1 (still_at t u keeps j m is) at.2 (of.2 ∙ sym at.3.2) in
          let was = it.changing j m (still_member t u keeps n m of) (still_at t u keeps j m is) in
          record {
            current = current ∙ was.current;
            made = now ∙ ap (λ (k : ℕ). made_of u.phase k) (sym here);
            goes = λ none. goes none ∙ was.goes keeps.goes;
            whole = ap (λ (l : List ℕ). length l) frame ∙ was.whole;
            new = was.new;
            spelled = subst (λ (f : List ℕ). IsBucketFrame n was.new f) (sym frame) was.spelled;
            merges = same_group entries was.new (IsOfGroup t n) (IsOfGroup u n) (then_of t u keeps n) (still_of t u keeps n) was.merges;
          };
    }

    pub member_stops : u.phase ≡ t.phase → IsSome u.stopped → HoldsBucket u n entries reads after
    member_stops is stopped = comes (twin_after_fault it.twin) refl refl refl (come.made ∙ ap (λ (p : Phase). made_of p at.0) (sym is)) (λ none. absurd (cc))
        (own_fails it.twin it.region size its_room stage (come.made ∙ made) (come.whole ∙ sym it.frame_len) call own it.frame read reads images after same changes it.sound)

    pub member_goes : made_of u.phase at.0 ≡ stage_number stage + 1 → length read ≡ size → reads ≡ bytes_after call read → (call ≡ sync → Only reads after)
        → HoldsBucket u n entries reads after
    member_goes now fits bytes settled = comes (after_call it.twin) refl refl refl (omega (arith, come.made, made, now)) (λ none. refl)
        (own_goes it.twin it.region size its_room stage (come.made ∙ made) (come.whole ∙ sym it.frame_len) call own it.frame read reads images after same changes it.sound fits bytes settled)

  module _ (known : KnownBuckets) (whole : HasGroup u.phase) (sound : IsSoundSection t known read images) where
    -- ---- a sync

    module _ (same : SameBut (TouchedBy sync) read reads) (changes : ChangesAt (TouchedBy sync) images after) where
      pub sync_stops : u.phase ≡ t.phase → IsSoundSection u known reads after
      sync_stops is = whole_goes t u known size (TouchedBy sync) read reads images after keeps.section room same changes (λ i no. absurd no) sound
          (λ n entries within has. inl (group_stands t u keeps n (λ j m of at. ap (λ (p : Phase). made_of p j) is), λ region place i no. absurd no)) whole

      -- that of the frames
      pub frames_sound : t.phase ≡ SyncFrames → u.phase ≡ WriteSelector 0 → length read ≡ size → reads ≡ read → Only reads after → IsSoundSection u known reads after
      frames_sound phase next fits bytes settled =
          whole_goes t u known size (TouchedBy sync) read reads images after keeps.section room same changes (λ i no. absurd no) sound
          (λ n entries within has. ⊎_elim
          (λ (at : Stands t n). inr (λ it. member_goes n entries within it at SyncFrame (ap (λ (p : Phase). made_of p at.0) phase) sync refl same changes
          (ap (λ (p : Phase). made_of p at.0) next ∙ ap (λ (b : Bool). if b then 3 else 2) (le-ltb at.0 0 (omega arith))) fits bytes (λ e. settled)))
          (λ (still : ¬ IsChanging t n). inl (group_stands t u keeps n (λ j m of at. absurd (still (m, of))), λ region place i no. absurd no))
          (standing t n)) whole

    -- ---- the write of a selector

    module _ (j : ℕ) (m : Member) (phase : t.phase ≡ WriteSelector j) (at : slice_get t.group j ≡ Some m)
        (same : SameBut (TouchedBy (selector_write t (Some m))) read reads) (changes : ChangesAt (TouchedBy (selector_write t (Some m))) images after)
        (theirs : (i : ℕ) → i < length t.group → i ≢ j → made_of u.phase i ≡ made_of t.phase i) where
      its : Stands t m.bucket
      its = (j, m, at, (keeps.section.puts, at_member t.group j m at, refl))

      in_it : InRange t.head t.buckets m.bucket
      in_it = (group.members m (at_member t.group j m at)).0

      inside : (i : ℕ) → TouchedBy (selector_write t (Some m)) i → Inside (bucket_place (m.bucket - t.head.first)) i
      inside = selector_inside t size room group j m at

      own : (entries : List Entry) (it : HoldsBucket t m.bucket entries read images)
          → call_at 2 it.region it.twin.frame_len it.twin.current (next_frame it.twin) ≡ selector_write t (Some m)
      unfolding its
      own entries it =
          let here = place_is (m.bucket - t.head.first) it.region it.place in
          let come = it.changing j m its.3 at in
          λ i. write (selector_start (here i) (it.frame_len i)) (selector_bytes (1 - come.current i) (selector_len (here i) (it.frame_len i)))

      two : made_of t.phase j ≡ 2
      two = ap (λ (p : Phase). made_of p j) phase ∙ ap (λ (b : Bool). if b then 3 else 2) (le-ltb j j (omega arith))

      written : ((entries : List Entry) → HoldsBucket t m.bucket entries read images → HoldsBucket u m.bucket entries reads after) → IsSoundSection u known reads after
      written holds = whole_goes t u known size (TouchedBy (selector_write t (Some m))) read reads images after keeps.section room same changes
          (spares_head t.head t.buckets m.bucket in_it (TouchedBy (selector_write t (Some m))) inside) sound
          (λ n entries within has. ⊎_elim
          (λ (here : n ≡ m.bucket). inr (subst (λ (k : ℕ). HoldsBucket t k entries read images → HoldsBucket u k entries reads after) (sym here) (holds entries)))
          (λ (there : n ≢ m.bucket). inl (
            group_stands t u keeps n (λ i k of is. theirs i (slice_get_within t.group i k is) (λ e. there (sym of.2 ∙ ap (λ (x : Member). x.bucket) (same_there i k is e)))),
            spares_bucket t.head t.buckets m.bucket in_it (TouchedBy (selector_write t (Some m))) inside n within there,
          ))
          (cases_eq n m.bucket)) whole
        where
          same_there : (i : ℕ) (k : Member) → slice_get t.group i ≡ Some k → i ≡ j → k ≡ m
          same_there i k is e = same_Some k m (sym is ∙ ap (λ (x : ℕ). slice_get t.group x) e ∙ at)

      pub selector_sound : made_of u.phase j ≡ 3 → length read ≡ size → reads ≡ bytes_after (selector_write t (Some m)) read → IsSoundSection u known reads after
      unfolding its
      selector_sound three fits bytes =
          written (λ entries it. member_goes m.bucket entries in_it it its SelectorWrite two (selector_write t (Some m)) (own entries it) same changes three fits bytes (λ e. absurd (cc)))

      pub selector_stops : u.phase ≡ t.phase → IsSome u.stopped → IsSoundSection u known reads after
      unfolding its
      selector_stops is stopped =
          written (λ entries it. member_stops m.bucket entries in_it it its SelectorWrite two (selector_write t (Some m)) (own entries it) same changes is stopped)

-- ---- what is next behind a selector

-- the next selector, or behind the last the sync
abbrev pub IsBehind : (j many : ℕ) → Phase → Type 0
IsBehind j many p = ((j + 1 < many) × (p ≡ WriteSelector (j + 1))) ⊎ ((j + 1 ≡ many) × (p ≡ SyncSelectors))

abbrev pub made_if : (i j : ℕ) → ℕ
made_if i j = if nat_lt i j then 3 else 2

if_lt : (i j : ℕ) → i < j → made_if i j ≡ 3
if_lt i j low = ap (λ (b : Bool). if b then 3 else 2) (lt-ltb i j low)

if_le : (i j : ℕ) → j ≤ i → made_if i j ≡ 2
if_le i j high = ap (λ (b : Bool). if b then 3 else 2) (le-ltb i j high)

pub three_made : (j many : ℕ) (p : Phase) → IsBehind j many p → made_of p j ≡ 3
three_made j many p (inl on) = ap (λ (q : Phase). made_of q j) on.1 ∙ if_lt j (j + 1) (omega arith)
three_made j many p (inr last) = ap (λ (q : Phase). made_of q j) last.1

pub others_made : (j many : ℕ) (p : Phase) → IsBehind j many p → (i : ℕ) → i < many → i ≢ j → made_of p i ≡ made_if i j
others_made j many p (inl on) i within other = ap (λ (q : Phase). made_of q i) on.1 ∙ ⊎_elim
    (λ (low : i < j). if_lt i (j + 1) (omega (arith, low)) ∙ sym (if_lt i j low))
    (λ (high : j ≤ i). if_le i (j + 1) (omega (arith, high, other)) ∙ sym (if_le i j high))
    (cases_lt i j)
others_made j many p (inr last) i within other = ap (λ (q : Phase). made_of q i) last.1 ∙ sym (if_lt i j (omega (arith, within, last.0, other)))

pub behind_whole : (j many : ℕ) (p : Phase) → IsBehind j many p → HasGroup p
behind_whole j many p (inl on) = subst HasGroup (sym on.1) tt
behind_whole j many p (inr last) = subst HasGroup (sym last.1) tt

pub behind_within : (j many : ℕ) (p : Phase) → IsBehind j many p → (k : ℕ) → p ≡ WriteSelector k → k < many
behind_within j many p (inl on) k e = let same : k ≡ j + 1 = cc in omega (arith, on.0, same)
behind_within j many p (inr last) k e = let no : SyncSelectors ≡ WriteSelector k = sym last.1 ∙ e in absurd (cc)

-- the group is whole, and stays
pub comes_whole : {D : Type 0} (disk : DiskOf D) (t : SectionState D) (q p : Phase) → t.phase ≡ q → HasGroup p → NextPhase q t (record t { phase = p }) → ComesNext disk t (record t { phase = p })
comes_whole disk t q p is whole next = record {
  section = record { buckets = refl; name = refl; entries = refl; most = refl };
  disk_is = refl;
  head_is = refl;
  next_is = refl;
  calls = refl;
  stopped = refl;
  phase = subst (λ (x : Phase). NextPhase x t (record t { phase = p })) (sym is) next;
  group_twin = λ other. refl;
  head_twin = λ e. absurd (subst HasGroup e whole);
  named = λ k told e. absurd (subst HasGroup e whole);
}

pub well_whole : {D : Type 0} {size capacity : ℕ} {buffer : Option (List ℕ)} {frames : List (Option ℕ)} {p : Phase} (disk : DiskOf D) (t : SectionState D) → HasGroup t.phase → HasGroup p
    → ((j : ℕ) → p ≡ WriteSelector j → j < length t.group) → t.stopped ≡ None → IsWell disk size t buffer capacity frames → IsWell disk size (record t { phase = p }) buffer capacity frames
well_whole {p} disk t was whole within goes well =
    well_moves disk t (whole_puts t.phase was) (whole_puts p whole) (λ has. absurd (whole_bucket p whole has)) (λ has. was) (λ k e. absurd (subst HasGroup e whole)) within goes well.frame_len well.remembers well
