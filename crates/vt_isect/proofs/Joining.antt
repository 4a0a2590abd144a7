-- The steps of a group of buckets.
use Rattle.std.proofs.Common.{◌≡◌, ◌≢◌, ◌⊎◌, inl, inr, ⊎_elim, ℕ, ◌+◌, ◌-◌, ◌*◌, ◌%◌, ◌<◌, ◌≤◌, List, [], ◌∷◌, ◌++◌, length, length-append, length-take, get_or, take, drop, Option, Some, None, IsTrue, refl, sym, ◌∙◌, ap, subst, arith}
use Rattle.std.specs.Prelude.{slice_get}
use Rattle.std.specs.List.{AllPairs, Contains}
use Rattle.std.proofs.lemmas.Bool.{cases_eq}
use Rattle.std.proofs.lemmas.List.{take-take}
use Rattle.std.proofs.lemmas.List.Quantifiers.{all_pairs_push}
use Rattle.std.proofs.lemmas.List.Elements.{Contains-append_left, Contains-get_or, Contains-push, Contains-push_cases}
use Rattle.vt_base.specs.declared.place.Entry.{Entry}
use Rattle.vt_disk.specs.declared.region.Region.{Region}
use Rattle.vt_disk.specs.Disk.{SameBut, ChangesAt}
use Rattle.vt_disk.specs.DeviceCalls.{TouchedBy, bytes_after}
use Rattle.vt_disk.specs.DeviceCalls.DeviceCall.{write}
use Rattle.vt_disk.specs.Members.{DiskOf}
use Rattle.vt_disk.specs.Region.{Inside}
use Rattle.vt_model.specs.Places.{bucket_of}
use Rattle.vt_twin.specs.Calls.{call_at}
use Rattle.vt_twin.specs.Frames.{FitsTwin, frame_start, named_number}
use Rattle.vt_twin.specs.Twin.{TwinState, fresh, with_change, after_call, twin_after_fault}
use Rattle.vt_twin.specs.declared.calls.Stage.TheVariants.{WriteFrame as FrameWrite}
use Rattle.vt_twin.specs.Sound.{IsSoundTwin}
use Rattle.vt_twin.proofs.Changes.{begun_bound, none_made}
use Rattle.vt_twin.proofs.Places.{named_same, selector_free}
use Rattle.vt_twin.proofs.Sound.{rests_fresh, begins_sound}
use Rattle.vt_isect.specs.declared.TheConstants.{GROUP_MAX}
use Rattle.vt_isect.specs.declared.groups.Member.{Member}
use Rattle.vt_isect.specs.declared.head.Head.{Head}
use Rattle.vt_isect.specs.declared.phase.Phase.{Phase}
use Rattle.vt_isect.specs.declared.phase.Phase.TheVariants.{ReadFrame, WriteFrame, SyncFrames, WriteSelector, ChangeHead}
use Rattle.vt_isect.specs.Entries.{EntriesState, IsOrdered, listed_entries}
use Rattle.vt_isect.specs.Layout.{bucket_place, IsBucketPlace, InRange}
use Rattle.vt_isect.specs.Section.{SectionState, AreNext, HasBucket, HasGroup, IsChanging, IsGroup, IsOfGroup, IsWell, PutsEntries, bucket_number, entering, entries_of}
use Rattle.vt_isect.specs.Sound.{KnownBuckets, HoldsBucket, IsSoundSection, StillNames, made_of}
use Rattle.vt_isect.specs.Writeback.{BeginsBucket, ComesNext, IsFull, NextCallReads, NextPhase, next_section_call}
use Rattle.vt_isect.proofs.AreNext.{behind, group_or_behind, of_group}
use Rattle.vt_isect.proofs.IsRead.{read_apart, read_frame, read_made, read_puts, read_selector}
use Rattle.vt_isect.proofs.IsSoundSection.{KeepsGroup, SameSection, SameStanding, group_stands, same_group, section_goes}
use Rattle.vt_isect.proofs.Members.{joined_cases, at_member, under_way_apart, well_on}
use Rattle.vt_isect.proofs.Twins.{given_up, own_fails, own_goes}
use Rattle.vt_isect.proofs.Places.{is_place, place_is, place_room, spares_bucket, spares_head}
use Rattle.vt_isect.proofs.Writes.{frame_inside}

-- the entries between two counts
module _ (w f b : ℕ) (xs : List Entry) (one : w ≤ f) (two : f ≤ b) (within : b ≤ length xs) (e : Entry) where
  front_of : take f (take b xs) ≡ take f xs
  front_of = take-take f b xs two

  pub framed_or_entering : Contains (drop w (take b xs)) e → Contains (drop w (take f xs)) e ⊎ Contains (drop f (take b xs)) e
  framed_or_entering has = ⊎_elim
      (λ (first : Contains (drop w (take f (take b xs))) e). inl (subst (λ (l : List Entry). Contains (drop w l) e) front_of first))
      (λ (second : Contains (drop f (take b xs)) e). inr second)
      (group_or_behind w f (take b xs) one (omega (arith, two, within, length-take b xs)) e has)

  pub framed_still : Contains (drop w (take f xs)) e → Contains (drop w (take b xs)) e
  framed_still has = of_group w f (take b xs) e (subst (λ (l : List Entry). Contains (drop w l) e) (sym front_of) has)

  pub entering_then : Contains (drop f (take b xs)) e → Contains (drop w (take b xs)) e
  entering_then has = behind w f (take b xs) one (omega (arith, two, within, length-take b xs)) e has

-- ---- the idle frame of the bucket under way is written

-- the section after that, with the bucket in the group
pub record HasJoined {D : Type 0} (s : ℕ) (t u : SectionState D) : Type 0 where
  pub section : SameSection t u
  pub group : u.group ≡ t.group ++ record { bucket = t.bucket; current = s } ∷ []
  pub framed : u.framed ≡ t.begun
  pub phase : NextCallReads u.phase ⊎ (u.phase ≡ SyncFrames)

module _ {D : Type 0} (t u : SectionState D) (s : ℕ) (phase : t.phase ≡ WriteFrame s) (group : IsGroup t) (joined : HasJoined s t u) where
  has : HasBucket t.phase
  has = subst HasBucket (sym phase) tt

  made_on : (j : ℕ) → made_of u.phase j ≡ 1
  made_on j = ⊎_elim (λ reads. read_made j u.phase reads) (λ (e : u.phase ≡ SyncFrames). ap (λ (p : Phase). made_of p j) e) joined.phase

  -- an entry of the bucket under way stands behind those that are framed
  pub joins_apart : ¬ IsChanging t t.bucket
  joins_apart = under_way_apart t group has

  to_u : (e : Entry) → Contains (drop t.written (take t.begun (entries_of t))) e → Contains (drop u.written (take u.framed (entries_of u))) e
  to_u e it =
      subst (λ (k : ℕ). Contains (drop k (take u.framed (listed_entries u.entries))) e) (sym joined.section.written)
      (subst (λ (k : ℕ). Contains (drop t.written (take k (listed_entries u.entries))) e) (sym joined.framed)
      (subst (λ (o : Option EntriesState). Contains (drop t.written (take t.begun (listed_entries o))) e) (sym joined.section.entries) it))

  from_u : (e : Entry) → Contains (drop u.written (take u.framed (entries_of u))) e → Contains (drop t.written (take t.begun (entries_of t))) e
  from_u e it =
      subst (λ (o : Option EntriesState). Contains (drop t.written (take t.begun (listed_entries o))) e) joined.section.entries
      (subst (λ (k : ℕ). Contains (drop t.written (take k (listed_entries u.entries))) e) joined.framed
      (subst (λ (k : ℕ). Contains (drop k (take u.framed (listed_entries u.entries))) e) joined.section.written it))

  number_is : (e : Entry) → bucket_number u e ≡ bucket_number t e
  number_is e = ap (λ (h : Head). bucket_of h.total e.key.score.0) joined.section.head

  of_then : (n : ℕ) (entry : Entry) → IsOfGroup t n entry → IsOfGroup u n entry
  of_then n entry of = (
    to_u entry (framed_still t.written t.framed t.begun (entries_of t) group.order.0 group.order.1 group.order.2 entry of.0),
    number_is entry ∙ of.1,
  )

  of_before : (n : ℕ) (entry : Entry) → IsOfGroup u n entry → IsOfGroup t n entry ⊎ (Contains (entering t) entry × (n ≡ t.bucket))
  of_before n entry of = ⊎_elim
      (λ (was : Contains (drop t.written (take t.framed (entries_of t))) entry). inl (was, sym (number_is entry) ∙ of.1))
      (λ (new : Contains (entering t) entry). inr (new, sym of.1 ∙ number_is entry ∙ (group.next has).2.own entry new))
      (framed_or_entering t.written t.framed t.begun (entries_of t) group.order.0 group.order.1 group.order.2 entry (from_u entry of.0))

  others_joined : t.stopped ≡ None → (n : ℕ) → n ≢ t.bucket → SameStanding t u n
  others_joined goes n other = record {
    first = ap (λ (h : Head). h.first) joined.section.head;
    forth = λ way. (way.0, (joined.section.puts_on, subst (λ (l : List Member). Contains l way.0) (sym joined.group) (Contains-append_left t.group (record { bucket = t.bucket; current = s } ∷ []) way.0 way.1.1), way.1.2));
    back = λ j m of at. ⊎_elim
        (λ (was : slice_get t.group j ≡ Some m). ((joined.section.puts, at_member t.group j m was, of.2), was, made_on j ∙ sym (ap (λ (p : Phase). made_of p j) phase)))
        (λ last. absurd (other (sym of.2 ∙ ap (λ (x : Member). x.bucket) last.1)))
        (joined_cases t.group (record { bucket = t.bucket; current = s }) j m (ap (λ (l : List Member). slice_get l j) (sym joined.group) ∙ at));
    same = λ way entry of. of_then n entry of;
    same_back = λ way entry of. ⊎_elim (λ (was : IsOfGroup t n entry). was) (λ new. absurd (other new.1)) (of_before n entry of);
    goes = λ none. goes;
  }

-- ---- the write of an idle frame

-- a bucket that is read and then written: while its selector still names this frame, that is its current one
pub names_current : {D : Type 0} (t : SectionState D) (number : ℕ) (entries : List Entry) (read : List ℕ) (images : List ℕ → Type 0) → IsGroup t → HasBucket t.phase → images read
    → StillNames t number read → (it : HoldsBucket t t.bucket entries read images) → (it.twin.change ≡ None) × (it.twin.current ≡ number)
names_current t number entries read images group has is_image names it =
    let none = it.rest (under_way_apart t group has) in (
      none,
      sym (ap (λ (k : ℕ). named_number it.region k read) (sym it.frame_len) ∙ it.sound.named (λ begun. omega (arith, begun, begun_bound it.twin, none_made it.twin none)) read is_image)
          ∙ names it.region it.place,
    )

module _ {D : Type 0} (t : SectionState D) (s : ℕ) (phase : t.phase ≡ WriteFrame s) (group : IsGroup t) (goes : t.stopped ≡ None) (size : ℕ) (known : KnownBuckets)
    (read reads : List ℕ) (images after : List ℕ → Type 0) (room : 24576 + 16896 * t.buckets ≤ size) (frame_len : length t.frame ≡ 8192) (is_image : images read)
    (same : SameBut (TouchedBy (next_section_call (WriteFrame s) t)) read reads) (changes : ChangesAt (TouchedBy (next_section_call (WriteFrame s) t)) images after)
    (sound : IsSoundSection t known read images) where
  abbrev P : ℕ → Type 0
  P = TouchedBy (next_section_call (WriteFrame s) t)

  abbrev place : Region
  place = bucket_place (t.bucket - t.head.first)

  now_has : HasBucket t.phase
  now_has = subst HasBucket (sym phase) tt

  in_it : InRange t.head t.buckets t.bucket
  in_it = group.bucket now_has

  its_room : FitsTwin place 8192 size
  its_room = place_room 8192 size t.buckets t.head t.bucket place refl room in_it (is_place (t.bucket - t.head.first))

  inside : (i : ℕ) → P i → Inside place i
  inside = frame_inside t size room group s phase frame_len

  selector_stays : (region : Region) → IsBucketPlace (t.bucket - t.head.first) region → named_number region 8192 reads ≡ named_number region 8192 read
  selector_stays region here = subst (λ (r : Region). named_number r 8192 reads ≡ named_number r 8192 read) (sym (place_is (t.bucket - t.head.first) region here))
      (named_same P place 8192 (selector_free place 8192 size its_room s (group.current s phase) t.frame frame_len FrameWrite (λ e. cc)) read reads same)

  -- the bucket's twin, which changes to that frame
  module _ (entries : List Entry) (it : HoldsBucket t t.bucket entries read images) where
    at_rest : (it.twin.change ≡ None) × (it.twin.current ≡ s)
    at_rest = names_current t s entries read images group now_has is_image (sound.current s phase) it

    abbrev changed : TwinState
    changed = with_change t.frame (fresh it.twin.frame_len it.twin.current)

    twin_room : FitsTwin it.region it.twin.frame_len size
    twin_room = place_room it.twin.frame_len size t.buckets t.head t.bucket it.region it.frame_len room in_it it.place

    own : call_at 0 it.region it.twin.frame_len it.twin.current t.frame ≡ next_section_call (WriteFrame s) t
    own =
        let here = place_is (t.bucket - t.head.first) it.region it.place in
        let current = at_rest.1 in
        λ i. write (frame_start (here i) (it.frame_len i) (1 - current i)) t.frame

    changed_sound : IsSoundTwin changed it.region it.frame read images
    changed_sound = begins_sound (fresh it.twin.frame_len it.twin.current) t.frame it.region it.frame read images refl (rests_fresh it.twin it.region it.frame read images at_rest.0 it.sound)

    stays : IsSoundTwin (fresh it.twin.frame_len it.twin.current) it.region it.frame reads after
    stays = given_up (twin_after_fault changed) it.region it.frame reads after (λ begun. omega (arith, begun))
        (own_fails changed it.region size twin_room FrameWrite refl (frame_len ∙ sym it.frame_len) (next_section_call (WriteFrame s) t) own it.frame read reads images after same changes changed_sound)

    comes : length read ≡ size → reads ≡ bytes_after (next_section_call (WriteFrame s) t) read → IsSoundTwin (after_call changed) it.region it.frame reads after
    comes fits bytes = own_goes changed it.region size twin_room FrameWrite refl (frame_len ∙ sym it.frame_len) (next_section_call (WriteFrame s) t) own it.frame read reads images after same changes changed_sound
        fits bytes (λ e. absurd (cc))

  -- it fails: the section stops, and the bucket's current frame stays
  pub frame_stops : (d : D) (calls : ℕ) (stopped : Option ℕ) → KeepsGroup t (record t { disk = d; calls = calls; stopped = stopped })
      → IsSoundSection (record t { disk = d; calls = calls; stopped = stopped }) known reads after
  frame_stops d calls stopped keeps =
      let u = record t { disk = d; calls = calls; stopped = stopped } in
      section_goes t u known size P read reads images after keeps.section room same changes (spares_head t.head t.buckets t.bucket in_it P inside) sound
      (λ n entries within has. ⊎_elim
      (λ (here : n ≡ t.bucket). inr (subst (λ (k : ℕ). HoldsBucket t k entries read images → HoldsBucket u k entries reads after) (sym here) (λ it. record {
        region = it.region;
        place = it.place;
        twin = fresh it.twin.frame_len it.twin.current;
        frame = it.frame;
        frame_len = it.frame_len;
        sound = stays entries it;
        spelled = it.spelled;
        rest = λ still. refl;
        changing = λ j m of at. absurd (under_way_apart t group now_has (m, of));
      })))
      (λ (there : n ≢ t.bucket). inl (group_stands t u keeps n (λ j m of at. refl), spares_bucket t.head t.buckets t.bucket in_it P inside n within there))
      (cases_eq n t.bucket))
      (λ k e. let no : WriteFrame s ≡ ReadFrame k = sym phase ∙ e in absurd (cc))
      (λ k e region here. selector_stays region here ∙ sound.current k e region here)
      sound.made

  -- it succeeds: the bucket joins the group
  module _ (u : SectionState D) (joined : HasJoined s t u) (fits : length read ≡ size) (bytes : reads ≡ bytes_after (next_section_call (WriteFrame s) t) read)
      (named : (k : ℕ) → u.phase ≡ ReadFrame k → StillNames u (k % 2) reads) where
    joining : (entries : List Entry) → known t.bucket ≡ Some entries → HoldsBucket t t.bucket entries read images → HoldsBucket u t.bucket entries reads after
    joining entries is it =
        let apart = under_way_apart t group now_has in
        let made = sound.made s entries phase is in
        record {
          region = it.region;
          place = subst (λ (h : Head). IsBucketPlace (t.bucket - h.first) it.region) (sym joined.section.head) it.place;
          twin = after_call (changed entries it);
          frame = it.frame;
          frame_len = it.frame_len;
          sound = comes entries it fits bytes;
          spelled = it.spelled;
          rest = λ still. absurd (still (record { bucket = t.bucket; current = s }, (joined.section.puts_on, subst (λ (l : List Member). Contains l (record { bucket = t.bucket; current = s })) (sym joined.group) (Contains-push t.group (record { bucket = t.bucket; current = s })), refl)));
          changing = λ j m of at. ⊎_elim
              (λ (was : slice_get t.group j ≡ Some m). absurd (apart (m, (joined.section.puts, at_member t.group j m was, of.2))))
              (λ last. record {
                current = (at_rest entries it).1 ∙ sym (ap (λ (x : Member). x.current) last.1);
                made = sym (made_on t u s phase group joined j);
                goes = λ none. refl;
                whole = frame_len;
                new = made.0;
                spelled = made.1;
                merges = same_group entries made.0 (Contains (entering t)) (IsOfGroup u t.bucket)
                    (λ entry new. (to_u t u s phase group joined entry (entering_then t.written t.framed t.begun (entries_of t) group.order.0 group.order.1 group.order.2 entry new), number_is t u s phase group joined entry ∙ (group.next now_has).2.own entry new))
                    (λ entry ofu. ⊎_elim
                    (λ (old : IsOfGroup t t.bucket entry). absurd (apart (subst (IsChanging t) old.1 (group.own entry old.0))))
                    (λ new. new.0)
                    (of_before t u s phase group joined t.bucket entry ofu))
                    made.2;
              })
              (joined_cases t.group (record { bucket = t.bucket; current = s }) j m (ap (λ (l : List Member). slice_get l j) (sym joined.group) ∙ at));
        }

    not_writing : (k : ℕ) → u.phase ≢ WriteFrame k
    not_writing k e = ⊎_elim (λ reads. read_frame k u.phase reads e) (λ (p : u.phase ≡ SyncFrames). let no : SyncFrames ≡ WriteFrame k = sym p ∙ e in cc) joined.phase

    pub joined_sound : IsSoundSection u known reads after
    joined_sound = section_goes t u known size P read reads images after joined.section room same changes (spares_head t.head t.buckets t.bucket in_it P inside) sound
        (λ n entries within has. ⊎_elim
        (λ (here : n ≡ t.bucket). inr (subst (λ (k : ℕ). HoldsBucket t k entries read images → HoldsBucket u k entries reads after) (sym here) (joining entries (sym (ap known here) ∙ has))))
        (λ (there : n ≢ t.bucket). inl (others_joined t u s phase group joined goes n there, spares_bucket t.head t.buckets t.bucket in_it P inside n within there))
        (cases_eq n t.bucket))
        named (λ k e. absurd (not_writing k e)) (λ k entries e. absurd (not_writing k e))

-- ---- the group with the bucket that joined

module _ {D : Type 0} (t u : SectionState D) (s : ℕ) (phase : t.phase ≡ WriteFrame s) (group : IsGroup t) (joined : HasJoined s t u) where
  abbrev new_member : Member
  new_member = record { bucket = t.bucket; current = s }

  has_bucket : HasBucket t.phase
  has_bucket = subst HasBucket (sym phase) tt

  in_group : (n : ℕ) → IsChanging t n → IsChanging u n
  in_group n way = (way.0, (joined.section.puts_on, subst (λ (l : List Member). Contains l way.0) (sym joined.group) (Contains-append_left t.group (new_member ∷ []) way.0 way.1.1), way.1.2))

  unfolded : (n : ℕ) → IsChanging u n → IsChanging t n ⊎ (n ≡ t.bucket)
  unfolded n way = ⊎_elim
      (λ (was : Contains t.group way.0). inl (way.0, (joined.section.puts, was, way.1.2)))
      (λ (is : new_member ≡ way.0). inr (sym way.1.2 ∙ sym (ap (λ (x : Member). x.bucket) is)))
      (Contains-push_cases t.group new_member way.0 (subst (λ (l : List Member). Contains l way.0) joined.group way.1.1))

  entries_are : entries_of u ≡ entries_of t
  entries_are = ap (λ (o : Option EntriesState). listed_entries o) joined.section.entries

  apart_on : AllPairs (λ a b. a.bucket ≢ b.bucket) (t.group ++ new_member ∷ [])
  apart_on = all_pairs_push (λ a b. a.bucket ≢ b.bucket) t.group new_member group.apart
      (λ k d lt same. joins_apart t u s phase group joined (get_or t.group k d, (joined.section.puts, Contains-get_or t.group k d lt, same)))

  -- whatever is under way behind it
  module _ (begun : t.begun ≤ u.begun) (within : u.begun ≤ length (entries_of t)) (most : u.most ≡ t.most) where
    pub group_joined : (HasBucket u.phase → InRange t.head t.buckets u.bucket)
        → (HasBucket u.phase → (u.framed < u.begun) × (length u.group < u.most) × AreNext u.head.total u.bucket u.framed u.begun (entries_of u))
        → (HasGroup u.phase → u.begun ≡ t.begun)
        → IsGroup u
    group_joined range next whole = record {
      order = (
        omega (arith, joined.section.written, joined.framed, group.order),
        omega (arith, joined.framed, begun),
        omega (arith, within, ap (λ (l : List Entry). length l) entries_are),
      );
      ordered = (
        group.ordered.0,
        subst (λ (h : Head). IsOrdered h.total group.ordered.0 (entries_of u)) (sym joined.section.head)
            (subst (λ (l : List Entry). IsOrdered t.head.total group.ordered.0 l) (sym entries_are) group.ordered.1),
      );
      in_range = λ entry has. in_range_on (bucket_of u.head.total entry.key.score.0) (subst (λ (h : Head). InRange t.head t.buckets (bucket_of h.total entry.key.score.0)) (sym joined.section.head)
          (group.in_range entry (subst (λ (l : List Entry). Contains l entry) entries_are has)));
      own = λ entry has. subst (IsChanging u) (sym (number_is t u s phase group joined entry)) (⊎_elim
          (λ (was : Contains (drop t.written (take t.framed (entries_of t))) entry). in_group (bucket_number t entry) (group.own entry was))
          (λ (new : Contains (entering t) entry). subst (IsChanging u) (sym ((group.next has_bucket).2.own entry new)) new_way)
          (framed_or_entering t.written t.framed t.begun (entries_of t) group.order.0 group.order.1 group.order.2 entry (from_u t u s phase group joined entry has)));
      behind = λ entry has way.
          let rest : Contains (drop t.begun (entries_of t)) entry = subst (λ (k : ℕ). Contains (drop k (entries_of t)) entry) joined.framed
          (subst (λ (l : List Entry). Contains (drop u.framed l) entry) entries_are has) in
          ⊎_elim
          (λ (was : IsChanging t (bucket_number t entry)).
          group.behind entry (behind t.framed t.begun (entries_of t) group.order.1 group.order.2 entry rest) was)
          (λ (same : bucket_number t entry ≡ t.bucket). (group.next has_bucket).2.all entry rest same)
          (unfolded (bucket_number t entry) (subst (IsChanging u) (number_is t u s phase group joined entry) way));
      apart = subst (AllPairs (λ a b. a.bucket ≢ b.bucket)) (sym joined.group) apart_on;
      members = λ m has. ⊎_elim
          (λ (was : Contains t.group m). let it = group.members m was in (in_range_on m.bucket it.0, it.1))
          (λ (is : new_member ≡ m). subst (λ (x : Member). InRange u.head u.buckets x.bucket × (x.current < 2)) is (new_in_range))
          (Contains-push_cases t.group new_member m (subst (λ (l : List Member). Contains l m) joined.group has));
      bucket = λ has. in_range_on u.bucket (range has);
      next = next;
      current = λ k e. ⊎_elim (λ reads. absurd (read_frame k u.phase reads e)) (λ (p : u.phase ≡ SyncFrames). let no : SyncFrames ≡ WriteFrame k = sym p ∙ e in absurd (cc)) joined.phase;
      whole = λ has. (omega (arith, ap (λ (l : List Member). length l) joined.group, length-append t.group (new_member ∷ [])), joined.framed ∙ sym (whole has));
      selector = λ k e. ⊎_elim (λ reads. absurd (read_selector k u.phase reads e)) (λ (p : u.phase ≡ SyncFrames). let no : SyncFrames ≡ WriteSelector k = sym p ∙ e in absurd (cc)) joined.phase;
    }
      where
        in_range_on : (n : ℕ) → InRange t.head t.buckets n → InRange u.head u.buckets n
        in_range_on n it = subst (λ (h : Head). InRange h u.buckets n) (sym joined.section.head) (subst (λ (b : ℕ). InRange t.head b n) (sym joined.section.buckets) it)

        new_way : IsChanging u t.bucket
        new_way = (new_member, (joined.section.puts_on, subst (λ (l : List Member). Contains l new_member) (sym joined.group) (Contains-push t.group new_member), refl))

        new_in_range : InRange u.head u.buckets new_member.bucket × (new_member.current < 2)
        new_in_range = (in_range_on t.bucket (group.bucket has_bucket), group.current s phase)

-- so the section stays well
pub well_joined : {D : Type 0} {size capacity more begun bucket : ℕ} {members : List Member} {buffer : Option (List ℕ)} {frames : List (Option ℕ)} {p : Phase}
    (disk : DiskOf D) (t : SectionState D) (s : ℕ) → t.phase ≡ WriteFrame s → t.stopped ≡ None → members ≡ t.group ++ record { bucket = t.bucket; current = s } ∷ [] → NextCallReads p ⊎ (p ≡ SyncFrames)
    → t.begun ≤ begun → begun ≤ length (entries_of t) → GROUP_MAX ≤ more → (HasBucket p → InRange t.head t.buckets bucket)
    → (HasBucket p → (t.begun < begun) × (length members < t.most) × AreNext t.head.total bucket t.begun begun (entries_of t)) → (HasGroup p → begun ≡ t.begun)
    → IsWell disk size t buffer capacity frames
    → IsWell disk size (record t { phase = p; framed = t.begun; begun = begun; bucket = bucket; group = members }) buffer more frames
well_joined {p} disk t s phase goes many is order within memory range next whole well =
    let puts : PutsEntries t.phase = subst PutsEntries (sym phase) tt in
    let puts_on : PutsEntries p = ⊎_elim (λ reads. read_puts p reads) (λ (e : p ≡ SyncFrames). subst PutsEntries (sym e) tt) is in
    let group = well.group puts in
    let fewer = (group.next (subst HasBucket (sym phase) tt)).1 in
    well_on disk t (λ e. subst PutsEntries e puts) puts_on
    (group_joined t _ s phase group (record {
      section = record { name = refl; head = refl; buckets = refl; twin = refl; entries = refl; written = refl; puts = puts; puts_on = puts_on };
      group = many;
      framed = refl;
      phase = is;
    }) order within refl range next whole)
    (omega (arith, fewer, ap (λ (l : List Member). length l) many, length-append t.group (record { bucket = t.bucket; current = s } ∷ [])))
    memory well.frame_len (λ none. goes) well.remembers well

-- and that is what comes next
pub joins_next : {D : Type 0} {begun bucket : ℕ} {members : List Member} {p : Phase} (disk : DiskOf D) (t : SectionState D) (s : ℕ) → t.phase ≡ WriteFrame s
    → members ≡ t.group ++ record { bucket = t.bucket; current = s } ∷ [] → NextCallReads p ⊎ (p ≡ SyncFrames)
    → (let u = record t { phase = p; framed = t.begun; begun = begun; bucket = bucket; group = members } in
    ((length members < t.most) × BeginsBucket t.begun u) ⊎ ((p ≡ SyncFrames) × (u.framed ≡ t.begun) × (begun ≡ t.begun) × IsFull u))
    → ((k : ℕ) → IsTrue disk.tells → p ≡ ReadFrame k → StillNames (record t { bucket = bucket }) (k % 2) (disk.bytes t.disk))
    → ComesNext disk t (record t { phase = p; framed = t.begun; begun = begun; bucket = bucket; group = members })
joins_next {begun} {bucket} {members} {p} disk t s is many either next named = record {
  section = record { buckets = refl; name = refl; entries = refl; most = refl };
  disk_is = refl;
  head_is = refl;
  next_is = refl;
  calls = refl;
  stopped = refl;
  phase = subst (λ (x : Phase). NextPhase x t (record t { phase = p; framed = t.begun; begun = begun; bucket = bucket; group = members })) (sym is) (record { group = many; written = refl }, next);
  group_twin = λ other. refl;
  head_twin = λ e. absurd (⊎_elim (λ reads. read_apart p reads e) (λ (at : p ≡ SyncFrames). let no : SyncFrames ≡ ChangeHead = sym at ∙ e in cc) either);
  named = named;
}
