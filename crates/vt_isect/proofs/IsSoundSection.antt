-- What stays sound where nothing is written, or something else.
use Rattle.std.proofs.Common.{◌≡◌, ◌≢◌, ◌⊎◌, inl, inr, ⊎_elim, ℕ, ◌+◌, ◌-◌, ◌*◌, ◌%◌, ◌≤◌, List, [], Option, Some, None, take, drop, refl, sym, ap, ◌∙◌, subst, arith}
use Rattle.std.specs.Prelude.{slice_get}
use Rattle.std.specs.List.{Contains}
use Rattle.vt_base.specs.declared.place.Entry.{Entry}
use Rattle.vt_disk.specs.declared.region.Region.{Region}
use Rattle.vt_disk.specs.Disk.{SameBut, AreAmong, ChangesAt}
use Rattle.vt_disk.specs.Region.{Inside}
use Rattle.vt_model.specs.Places.{bucket_of}
use Rattle.vt_twin.specs.Frames.{FitsTwin}
use Rattle.vt_twin.specs.Twin.{TwinState, next_frame, with_change}
use Rattle.vt_twin.specs.Sound.{IsSoundTwin}
use Rattle.vt_twin.proofs.Sound.{begins_sound, reads_sound, sound_elsewhere}
use Rattle.vt_isect.specs.declared.groups.Member.{Member}
use Rattle.vt_isect.specs.declared.head.Head.{Head}
use Rattle.vt_isect.specs.declared.phase.Phase.TheVariants.{Rest, ReadFrame, WriteFrame, ChangeHead}
use Rattle.vt_isect.specs.Entries.{EntriesState, listed_entries}
use Rattle.vt_isect.specs.Head.{IsHeadFrame}
use Rattle.vt_isect.specs.Layout.{head_place, IsBucketPlace, InRange}
use Rattle.vt_isect.specs.Merging.{Merges}
use Rattle.vt_isect.specs.Section.{SectionState, HasGroup, IsChanging, IsMember, IsOfGroup, IsTodo, PutsEntries}
use Rattle.vt_isect.specs.Sound.{KnownBuckets, HoldsBucket, IsFrameMade, IsSoundSection, StillNames, made_of}
use Rattle.vt_isect.specs.Writeback.{NextCallReads}
use Rattle.vt_isect.proofs.IsRead.{read_apart, read_frame}
use Rattle.vt_isect.proofs.Places.{head_room, place_room}

-- how the soundness of twins passes from one moment to another, in a region
abbrev pub Passes : Region → (read reads : List ℕ) → (images after : List ℕ → Type 0) → Type 0
Passes region read reads images after = (t : TwinState) (old : List ℕ) → t.frame_len ≡ 8192
    → IsSoundTwin t region old read images → IsSoundTwin t region old reads after

pub reads_pass : (region : Region) (read reads : List ℕ) (images after : List ℕ → Type 0) → reads ≡ read → AreAmong after images → Passes region read reads images after
reads_pass region read reads images after same among t old len sound = reads_sound t region old read reads images after same among sound

-- what is done elsewhere
pub others_pass : (region : Region) (P : ℕ → Type 0) (size : ℕ) (read reads : List ℕ) (images after : List ℕ → Type 0) → FitsTwin region 8192 size
    → ((i : ℕ) → P i → ¬ Inside region i) → SameBut P read reads → ChangesAt P images after
    → Passes region read reads images after
others_pass region P size read reads images after room apart same changes t old len sound =
    sound_elsewhere t region size (subst (λ (n : ℕ). FitsTwin region n size) (sym len) room) P apart old read reads images after same changes sound

-- the same entries are put into a bucket
pub same_group : (old new : List Entry) (these those : Entry → Type 0) → ((entry : Entry) → these entry → those entry) → ((entry : Entry) → those entry → these entry)
    → Merges old these new → Merges old those new
same_group old new these those forth back merges = record {
  from = λ entry has. ⊎_elim
      (λ (of : these entry). inl (forth entry of))
      (λ was. inr (was.0, λ key. was.1 (key.0, back key.0 key.1, key.2)))
      (merges.from entry has);
  keeps = λ entry has. merges.keeps entry (⊎_elim (λ (was : Contains old entry). inl was) (λ (of : those entry). inr (back entry of)) has);
}

-- bucket n has the same place in the group, or none, and its change has come as far
pub record SameStanding {D : Type 0} (t u : SectionState D) (n : ℕ) : Type 0 where
  pub first : u.head.first ≡ t.head.first
  pub forth : IsChanging t n → IsChanging u n
  pub back : (j : ℕ) (m : Member) → IsMember u n m → slice_get u.group j ≡ Some m
      → IsMember t n m × (slice_get t.group j ≡ Some m) × (made_of u.phase j ≡ made_of t.phase j)
  pub same : IsChanging t n → (entry : Entry) → IsOfGroup t n entry → IsOfGroup u n entry
  pub same_back : IsChanging t n → (entry : Entry) → IsOfGroup u n entry → IsOfGroup t n entry
  pub goes : u.stopped ≡ None → t.stopped ≡ None

pub holds_as : {D : Type 0} (t u : SectionState D) (n : ℕ) (entries : List Entry) (read reads : List ℕ) (images after : List ℕ → Type 0)
    → SameStanding t u n → ((region : Region) → IsBucketPlace (n - t.head.first) region → Passes region read reads images after)
    → HoldsBucket t n entries read images → HoldsBucket u n entries reads after
holds_as t u n entries read reads images after stands pass it = record {
  region = it.region;
  place = subst (λ (k : ℕ). IsBucketPlace (n - k) it.region) (sym stands.first) it.place;
  twin = it.twin;
  frame = it.frame;
  frame_len = it.frame_len;
  sound = pass it.region it.place it.twin it.frame it.frame_len it.sound;
  spelled = it.spelled;
  rest = λ still. it.rest (λ way. still (stands.forth way));
  changing = λ j m of at.
      let was = stands.back j m of at in
      let come = it.changing j m was.0 was.1 in
      let way : IsChanging t n = (m, was.0) in
      record {
        current = come.current;
        made = come.made ∙ sym was.2;
        goes = λ none. come.goes (stands.goes none);
        whole = come.whole;
        new = come.new;
        spelled = come.spelled;
        merges = same_group entries come.new (IsOfGroup t n) (IsOfGroup u n) (stands.same way) (stands.same_back way) come.merges;
      };
}

-- a bucket that isn't one of the group, before or after
pub apart_stands : {D : Type 0} (t u : SectionState D) (n : ℕ) → u.head.first ≡ t.head.first → ¬ IsChanging t n → ¬ IsChanging u n
    → (u.stopped ≡ None → t.stopped ≡ None) → SameStanding t u n
apart_stands t u n first still stays goes = record {
  first = first;
  forth = λ way. absurd (still way);
  back = λ j m of at. absurd (stays (m, of));
  same = λ way. absurd (still way);
  same_back = λ way. absurd (still way);
  goes = goes;
}

pub of_same : {D : Type 0} (t u : SectionState D) → u.head ≡ t.head → u.written ≡ t.written → u.framed ≡ t.framed → u.entries ≡ t.entries
    → (n : ℕ) (entry : Entry) → IsOfGroup t n entry → IsOfGroup u n entry
of_same t u head written framed entries n entry of = (
  subst (λ (k : ℕ). Contains (drop k (take u.framed (listed_entries u.entries))) entry) (sym written)
      (subst (λ (k : ℕ). Contains (drop t.written (take k (listed_entries u.entries))) entry) (sym framed)
      (subst (λ (o : Option EntriesState). Contains (drop t.written (take t.framed (listed_entries o))) entry) (sym entries) of.0)),
  ap (λ (h : Head). bucket_of h.total entry.key.score.0) head ∙ of.1,
)

pub bucket_passes : {D : Type 0} (t u : SectionState D) (n : ℕ) (entries : List Entry) (read reads : List ℕ) (images after : List ℕ → Type 0)
    → ¬ IsChanging t n → ¬ IsChanging u n → u.head.first ≡ t.head.first → (u.stopped ≡ None → t.stopped ≡ None)
    → ((region : Region) → IsBucketPlace (n - t.head.first) region → Passes region read reads images after)
    → HoldsBucket t n entries read images → HoldsBucket u n entries reads after
bucket_passes t u n entries read reads images after still stays first goes = holds_as t u n entries read reads images after (apart_stands t u n first still stays goes)

-- the same section, of which entries go on to be put into their buckets
pub record SameSection {D : Type 0} (t u : SectionState D) : Type 0 where
  pub name : u.name ≡ t.name
  pub head : u.head ≡ t.head
  pub buckets : u.buckets ≡ t.buckets
  pub twin : u.head_twin ≡ t.head_twin
  pub entries : u.entries ≡ t.entries
  pub written : u.written ≡ t.written
  pub puts : PutsEntries t.phase
  pub puts_on : PutsEntries u.phase

-- what is still to be put stays so
module _ {D : Type 0} (t u : SectionState D) (same : SameSection t u) (entry : Entry) where
  pub todo_then : IsTodo t entry → IsTodo u entry
  todo_then way = (
    same.puts_on,
    subst (λ (k : ℕ). Contains (drop k (listed_entries u.entries)) entry) (sym same.written)
        (subst (λ (o : Option EntriesState). Contains (drop t.written (listed_entries o)) entry) (sym same.entries) way.1),
  )

  pub todo_before : IsTodo u entry → IsTodo t entry
  todo_before way = (
    same.puts,
    subst (λ (k : ℕ). Contains (drop k (listed_entries t.entries)) entry) same.written
        (subst (λ (o : Option EntriesState). Contains (drop u.written (listed_entries o)) entry) same.entries way.1),
  )

-- with the same group
pub record KeepsGroup {D : Type 0} (t u : SectionState D) : Type 0 where
  pub section : SameSection t u
  pub group : u.group ≡ t.group
  pub framed : u.framed ≡ t.framed
  pub goes : t.stopped ≡ None

module _ {D : Type 0} (t u : SectionState D) (keeps : KeepsGroup t u) where
  pub still_member : (n : ℕ) (m : Member) → IsMember u n m → IsMember t n m
  still_member n m of = (keeps.section.puts, subst (λ (l : List Member). Contains l m) keeps.group of.1, of.2)

  pub then_member : (n : ℕ) (m : Member) → IsMember t n m → IsMember u n m
  then_member n m of = (keeps.section.puts_on, subst (λ (l : List Member). Contains l m) (sym keeps.group) of.1, of.2)

  pub still_at : (j : ℕ) (m : Member) → slice_get u.group j ≡ Some m → slice_get t.group j ≡ Some m
  still_at j m at = ap (λ (l : List Member). slice_get l j) (sym keeps.group) ∙ at

  pub still_of : (n : ℕ) (entry : Entry) → IsOfGroup u n entry → IsOfGroup t n entry
  still_of = of_same u t (sym keeps.section.head) (sym keeps.section.written) (sym keeps.framed) (sym keeps.section.entries)

  pub then_of : (n : ℕ) (entry : Entry) → IsOfGroup t n entry → IsOfGroup u n entry
  then_of = of_same t u keeps.section.head keeps.section.written keeps.framed keeps.section.entries

  -- a bucket whose change has come as far, or that isn't changed
  pub group_stands : (n : ℕ) → ((j : ℕ) (m : Member) → IsMember t n m → slice_get t.group j ≡ Some m → made_of u.phase j ≡ made_of t.phase j) → SameStanding t u n
  group_stands n made = record {
    first = ap (λ (h : Head). h.first) keeps.section.head;
    forth = λ way. (way.0, then_member n way.0 way.1);
    back = λ j m of at. (still_member n m of, still_at j m at, made j m (still_member n m of) (still_at j m at));
    same = λ way. then_of n;
    same_back = λ way. still_of n;
    goes = λ none. keeps.goes;
  }

module _ {D : Type 0} (t u : SectionState D) (known knows : KnownBuckets) (read reads : List ℕ) (images after : List ℕ → Type 0)
    (name : u.name ≡ t.name) (head : u.head ≡ t.head) (buckets : u.buckets ≡ t.buckets) (twin : u.head_twin ≡ t.head_twin)
    (no_head : t.phase ≢ ChangeHead) (not_head : u.phase ≢ ChangeHead)
    (pass : Passes head_place read reads images after)
    (holds : (n : ℕ) (entries : List Entry) → InRange t.head t.buckets n → knows n ≡ Some entries → HoldsBucket u n entries reads after)
    (sound : IsSoundSection t known read images) where
  -- a section of which the head isn't changed
  pub section_as : ((s : ℕ) → u.phase ≡ ReadFrame s → StillNames u (s % 2) reads) → ((s : ℕ) → u.phase ≡ WriteFrame s → StillNames u s reads)
      → ((s : ℕ) (entries : List Entry) → u.phase ≡ WriteFrame s → knows u.bucket ≡ Some entries → IsFrameMade u entries)
      → IsSoundSection u knows reads after
  section_as selector current made = record {
    head_frame = sound.head_frame;
    head_len = ap (λ (w : TwinState). w.frame_len) twin ∙ sound.head_len;
    head_twin = subst (λ (w : TwinState). IsSoundTwin w head_place sound.head_frame reads after) (sym twin) (pass t.head_twin sound.head_frame sound.head_len sound.head_twin);
    head = subst (λ (h : Head). IsHeadFrame u.name h sound.head_frame) (sym head)
        (subst (λ (l : List ℕ). IsHeadFrame l t.head sound.head_frame) (sym name) sound.head);
    head_rest = λ no. ap (λ (w : TwinState). w.change) twin ∙ sound.head_rest no_head;
    head_changing = λ way. absurd (not_head way);
    selector = selector;
    current = current;
    made = made;
    bucket = λ n entries within is. holds n entries
        (subst (λ (h : Head). InRange h t.buckets n) head (subst (λ (b : ℕ). InRange u.head b n) buckets within)) is;
  }

-- A call touches of the head and of each bucket nothing, or it is one of the bucket's own change.
module _ {D : Type 0} (t u : SectionState D) (known : KnownBuckets) (size : ℕ) (P : ℕ → Type 0) (read reads : List ℕ) (images after : List ℕ → Type 0)
    (same_section : SameSection t u) (room : 24576 + 16896 * t.buckets ≤ size) (same : SameBut P read reads) (changes : ChangesAt P images after)
    (head_free : (i : ℕ) → P i → ¬ Inside head_place i) (sound : IsSoundSection t known read images)
    (each : (n : ℕ) (entries : List Entry) → InRange t.head t.buckets n → known n ≡ Some entries
    → (SameStanding t u n × ((region : Region) → IsBucketPlace (n - t.head.first) region → (i : ℕ) → P i → ¬ Inside region i))
    ⊎ (HoldsBucket t n entries read images → HoldsBucket u n entries reads after)) where
  pub section_goes : ((s : ℕ) → u.phase ≡ ReadFrame s → StillNames u (s % 2) reads) → ((s : ℕ) → u.phase ≡ WriteFrame s → StillNames u s reads)
      → ((s : ℕ) (entries : List Entry) → u.phase ≡ WriteFrame s → known u.bucket ≡ Some entries → IsFrameMade u entries)
      → IsSoundSection u known reads after
  section_goes = section_as t u known known read reads images after same_section.name same_section.head same_section.buckets same_section.twin
      (λ e. subst PutsEntries e same_section.puts) (λ e. subst PutsEntries e same_section.puts_on)
      (others_pass head_place P size read reads images after (head_room 8192 size t.buckets refl room) head_free same changes)
      (λ n entries within is. ⊎_elim
      (λ free. holds_as t u n entries read reads images after free.0
      (λ region place. others_pass region P size read reads images after (place_room 8192 size t.buckets t.head n region refl room within place) (free.1 region place) same changes)
      (sound.bucket n entries within is))
      (λ own. own (sound.bucket n entries within is))
      (each n entries within is))
      sound

  -- while its group is whole
  pub whole_goes : HasGroup u.phase → IsSoundSection u known reads after
  whole_goes whole = section_goes (λ s e. absurd (subst HasGroup e whole)) (λ s e. absurd (subst HasGroup e whole)) (λ s entries e. absurd (subst HasGroup e whole))

-- a step that writes nothing, and brings no change further
pub quiet_sound : {D : Type 0} (t u : SectionState D) (known : KnownBuckets) (read reads : List ℕ) (images after : List ℕ → Type 0)
    → u.name ≡ t.name → u.head ≡ t.head → u.buckets ≡ t.buckets → u.head_twin ≡ t.head_twin → t.phase ≢ ChangeHead → u.phase ≢ ChangeHead
    → ((n : ℕ) → SameStanding t u n) → reads ≡ read → AreAmong after images
    → ((s : ℕ) → u.phase ≡ ReadFrame s → StillNames u (s % 2) reads) → ((s : ℕ) → u.phase ≡ WriteFrame s → StillNames u s reads)
    → ((s : ℕ) (entries : List Entry) → u.phase ≡ WriteFrame s → known u.bucket ≡ Some entries → IsFrameMade u entries)
    → IsSoundSection t known read images → IsSoundSection u known reads after
quiet_sound t u known read reads images after name head buckets twin no_head not_head stands same among selector current made sound =
    section_as t u known known read reads images after name head buckets twin no_head not_head (reads_pass head_place read reads images after same among)
    (λ n entries within is. holds_as t u n entries read reads images after (stands n) (λ region place. reads_pass region read reads images after same among) (sound.bucket n entries within is))
    sound selector current made

-- ---- what begins at rest

at_rest : {D : Type 0} (t : SectionState D) → t.phase ≡ Rest → (n : ℕ) → ¬ IsChanging t n
at_rest t rest n way = subst PutsEntries rest way.1.0

-- the first bucket of a group is under way
pub bucket_begins : {D : Type 0} (t u : SectionState D) (known : KnownBuckets) (read : List ℕ) (images : List ℕ → Type 0)
    → u.name ≡ t.name → u.head ≡ t.head → u.buckets ≡ t.buckets → u.head_twin ≡ t.head_twin → t.phase ≡ Rest → NextCallReads u.phase → u.group ≡ []
    → (u.stopped ≡ None → t.stopped ≡ None) → ((s : ℕ) → u.phase ≡ ReadFrame s → StillNames u (s % 2) read)
    → IsSoundSection t known read images → IsSoundSection u known read images
bucket_begins t u known read images name head buckets twin rest reads none goes named sound =
    quiet_sound t u known read read images images name head buckets twin
    (λ e. let no : Rest ≡ ChangeHead = sym rest ∙ e in cc) (read_apart u.phase reads)
    (λ n. apart_stands t u n (ap (λ (h : Head). h.first) head) (at_rest t rest n) (λ way. no_member way.0 (subst (λ (l : List Member). Contains l way.0) none way.1.1)) goes)
    refl (λ c left. left)
    named
    (λ s e. absurd (read_frame s u.phase reads e))
    (λ s entries e. absurd (read_frame s u.phase reads e))
    sound
  where
    no_member : (m : Member) → ¬ Contains {X = Member} [] m
    no_member m has = omega (arith, has.1)

-- the change to a next head begins
pub head_begins : {D : Type 0} (t u : SectionState D) (frame : List ℕ) (known : KnownBuckets) (read : List ℕ) (images : List ℕ → Type 0)
    → u.name ≡ t.name → u.head ≡ t.head → u.buckets ≡ t.buckets → u.head_twin ≡ with_change frame t.head_twin → t.phase ≡ Rest → u.phase ≡ ChangeHead
    → IsHeadFrame t.name u.next frame
    → (u.stopped ≡ None → t.stopped ≡ None) → IsSoundSection t known read images → IsSoundSection u known read images
head_begins t u frame known read images name head buckets twin rest phase spelled goes sound =
    let none = sound.head_rest (λ e. let no : Rest ≡ ChangeHead = sym rest ∙ e in cc) in
    record {
      head_frame = sound.head_frame;
      head_len = ap (λ (w : TwinState). w.frame_len) twin ∙ sound.head_len;
      head_twin = subst (λ (w : TwinState). IsSoundTwin w head_place sound.head_frame read images) (sym twin)
          (begins_sound t.head_twin frame head_place sound.head_frame read images none sound.head_twin);
      head = subst (λ (h : Head). IsHeadFrame u.name h sound.head_frame) (sym head)
          (subst (λ (l : List ℕ). IsHeadFrame l t.head sound.head_frame) (sym name) sound.head);
      head_rest = λ no. absurd (no phase);
      head_changing = λ way. subst (λ (w : TwinState). IsHeadFrame u.name u.next (next_frame w)) (sym twin)
          (subst (λ (l : List ℕ). IsHeadFrame l u.next frame) (sym name) spelled);
      selector = λ s e. let no : ChangeHead ≡ ReadFrame s = sym phase ∙ e in absurd (cc);
      current = λ s e. let no : ChangeHead ≡ WriteFrame s = sym phase ∙ e in absurd (cc);
      made = λ s entries e. let no : ChangeHead ≡ WriteFrame s = sym phase ∙ e in absurd (cc);
      bucket = λ n entries within is. holds_as t u n entries read read images images
          (apart_stands t u n (ap (λ (h : Head). h.first) head) (at_rest t rest n) (λ way. subst PutsEntries phase way.1.0) goes)
          (λ region place w old len it. it)
          (sound.bucket n entries (subst (λ (h : Head). InRange h t.buckets n) head (subst (λ (b : ℕ). InRange u.head b n) buckets within)) is);
    }

-- the list of the entries is handed back
pub idle_sound : {D : Type 0} (t : SectionState D) (known : KnownBuckets) (read : List ℕ) (images : List ℕ → Type 0) → t.phase ≡ Rest
    → IsSoundSection t known read images → IsSoundSection (record t { entries = None }) known read images
idle_sound t known read images rest sound =
    let u = record t { entries = None } in
    quiet_sound t u known read read images images refl refl refl refl
    (λ e. let no : Rest ≡ ChangeHead = sym rest ∙ e in cc) (λ e. let no : Rest ≡ ChangeHead = sym rest ∙ e in cc)
    (λ n. apart_stands t u n refl (at_rest t rest n) (at_rest u rest n) (λ goes. goes))
    refl (λ c left. left)
    (λ s e. let no : Rest ≡ ReadFrame s = sym rest ∙ e in absurd (cc))
    (λ s e. let no : Rest ≡ WriteFrame s = sym rest ∙ e in absurd (cc))
    (λ s entries e. let no : Rest ≡ WriteFrame s = sym rest ∙ e in absurd (cc))
    sound
