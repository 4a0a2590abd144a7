-- Buckets that are written whole: what a read gives of them, and what stands behind the next sync.
use Rattle.std.proofs.Common.{◌≡◌, ◌≢◌, ◌⊎◌, inl, inr, ⊎_elim, ℕ, zero, suc, ◌+◌, ◌-◌, ◌*◌, ◌%◌, ◌<◌, ◌≤◌, Bool, true, false, cond, List, [], length, Option, Some, None, min, ◌^◌, IsTrue, refl, sym, ◌∙◌, ap, subst, arith}
use Rattle.std.proofs.lemmas.Option.{same_Some}
use Rattle.std.specs.Prelude.{IsSome, nat_le, nat_lt, ◌&&◌}
use Rattle.std.specs.List.{Contains}
use Rattle.std.proofs.lemmas.Bool.{cases_eq, cases_lt, le-leb, leb-true}
use Rattle.std.proofs.lemmas.Bool.Decides.{Decides-ltb}
use Rattle.vt_base.specs.declared.place.Entry.{Entry}
use Rattle.std.proofs.lemmas.List.{length-replicate}
use Rattle.vt_bucket.specs.Frame.{IsBucketFrame, bucket_frame}
use Rattle.vt_disk.specs.declared.region.Region.{Region}
use Rattle.vt_disk.specs.Calls.{OnlyReads, WritesAt, MadeCalls}
use Rattle.vt_disk.specs.Disk.{AreAmong, IsOneMore, SameBut, Only, Touches}
use Rattle.vt_disk.specs.Members.{DiskOf}
use Rattle.vt_disk.specs.Region.{Inside}
use Rattle.vt_disk.proofs.Bytes.{part_same, same_refl, touches_within}
use Rattle.vt_disk.proofs.Calls.{reads_as_writes, writes_then, writes_wider}
use Rattle.vt_model.specs.History.{History}
use Rattle.vt_model.specs.Places.{Setup, bucket_of, bucket_count}
use Rattle.vt_twin.specs.Formatting.{EndsFormat, TouchedByFirst}
use Rattle.vt_twin.specs.Frames.{FitsTwin, frame_of, frame_start, named_number, current_frame, selector_of, selector_start, selector_len}
use Rattle.vt_twin.proofs.Places.{frame_inside, selector_inside, frame_same, named_same}
use Rattle.vt_isect.specs.declared.head.Head.{Head}
use Rattle.vt_isect.specs.declared.phase.Phase.TheVariants.{Rest}
use Rattle.vt_isect.specs.Agreement.{KnownAgrees, IsEntryOfBlock}
use Rattle.vt_isect.specs.Filling.{AreCleared, FillsBucket, HasSelectorOf, InBuckets, IsAmong, ReadsKnown, with_buckets}
use Rattle.vt_isect.specs.Layout.{head_place, IsBucketPlace, InRange}
use Rattle.vt_isect.specs.Section.{SectionState, PutsEntries}
use Rattle.vt_isect.specs.Sound.{KnownBuckets, DiskHolds, IsSoundSection, with_bucket, nothing_known}
use Rattle.vt_isect.proofs.WithBucket.{settled_holds, with_here, with_there}
use Rattle.vt_isect.proofs.Places.{one_place, head_apart, places_apart}
use Rattle.vt_twin.proofs.Sound.{reads_sound}
use Rattle.vt_isect.proofs.IsReadFrom.{reads_known}

-- a read that gives this gives what is known
abbrev pub ReadsAt : {D : Type 0} → SectionState D → KnownBuckets → (read : List ℕ) → Type 0
ReadsAt t known read = (n : ℕ) (entries : List Entry) → InRange t.head t.buckets n
    → known n ≡ Some entries
    → (region : Region) × IsBucketPlace (n - t.head.first) region
    × IsBucketFrame n entries (current_frame region 8192 read)

-- ---- places

-- a bucket's place has room for its frames
own_room : (j : ℕ) (region : Region) → IsBucketPlace j region → FitsTwin region 8192 (region.start + region.len)
own_room j region place = record {
  within = omega arith;
  least = omega (arith, place.len);
  most = omega (arith, place.len);
  aligned_start = omega (arith, place.start);
  aligned_len = ap (λ (k : ℕ). k % 512) place.len;
  aligned_frames = refl;
}

-- what is written elsewhere leaves its current frame
current_same : (P : ℕ → Type 0) (j : ℕ) (region : Region) → IsBucketPlace j region → ((i : ℕ) → P i → ¬ Inside region i)
    → (read reads : List ℕ) → SameBut P read reads → current_frame region 8192 reads ≡ current_frame region 8192 read
current_same P j region place apart read reads same =
    let size : ℕ = region.start + region.len in
    let room = own_room j region place in
    let named : named_number region 8192 reads ≡ named_number region 8192 read =
    named_same P region 8192 (λ changed. apart (selector_start region 8192) changed (selector_inside region 8192 size room)) read reads same in
    ap (λ (k : ℕ). frame_of region 8192 k reads) named
    ∙ frame_same P region 8192 (named_number region 8192 read)
    (λ i here changed. apart i changed (frame_inside region 8192 size room (named_number region 8192 read) i (omega arith) here)) read reads same

-- a bucket's bytes are among those of some
pub in_buckets : (j first count n : ℕ) (region : Region) → IsBucketPlace (n - j) region → j ≤ first → IsAmong first count n
    → (i : ℕ) → Inside region i → InBuckets (first - j) count i
in_buckets j first count n region place from among i here =
    (omega (arith, place.start, from, among.0, here.0), omega (arith, place.start, place.len, from, among.0, among.1, here.1))

-- ---- what is known of some

is_among : (first count n : ℕ) → IsAmong first count n ⊎ ¬ IsAmong first count n
is_among first count n = ⊎_elim
    (λ (low : n < first). inr (λ it. omega (arith, it.0, low)))
    (λ (up : first ≤ n). ⊎_elim
    (λ (under : n < first + count). inl (up, under))
    (λ (past : first + count ≤ n). inr (λ it. omega (arith, it.1, past)))
    (cases_lt n (first + count)))
    (cases_lt n first)

both : (a b : Bool) → a ≡ true → b ≡ true → (a && b) ≡ true
both true true one two = refl
both true false one two = two
both false b one two = one

either : (a b : Bool) → (a && b) ≡ true → (a ≡ true) × (b ≡ true)
either true true is = (refl, refl)
either true false is = absurd (cc)
either false b is = absurd (cc)

isnt : (a : Bool) → ¬ (a ≡ true) → a ≡ false
isnt true never = absurd (never refl)
isnt false never = refl

pub among_here : (first count : ℕ) (o : Option (List Entry)) (known : KnownBuckets) (n : ℕ) → IsAmong first count n → with_buckets first count o known n ≡ o
among_here first count o known n it =
    ap (λ (b : Bool). cond b o (known n))
    (both (nat_le first n) (nat_lt n (first + count)) (le-leb first n it.0) ((Decides-ltb n (first + count)).1 it.1))

pub among_there : (first count : ℕ) (o : Option (List Entry)) (known : KnownBuckets) (n : ℕ) → ¬ IsAmong first count n → with_buckets first count o known n ≡ known n
among_there first count o known n other =
    ap (λ (b : Bool). cond b o (known n))
    (isnt (nat_le first n && nat_lt n (first + count)) (λ is.
    let it = either (nat_le first n) (nat_lt n (first + count)) is in
    other (leb-true first n it.0, (Decides-ltb n (first + count)).0 it.1)))

-- one bucket more
pub next_known : (first count : ℕ) (o : Option (List Entry)) (known : KnownBuckets) (n : ℕ)
    → with_buckets first (count + 1) o known n ≡ with_bucket (first + count) o (with_buckets first count o known) n
next_known first count o known n = ⊎_elim
    (λ (here : n ≡ first + count).
    among_here first (count + 1) o known n (omega (arith, here), omega (arith, here))
    ∙ sym (ap (with_bucket (first + count) o (with_buckets first count o known)) here ∙ with_here (with_buckets first count o known) (first + count) o))
    (λ (there : n ≢ first + count). ⊎_elim
    (λ (it : IsAmong first count n).
    among_here first (count + 1) o known n (it.0, omega (arith, it.1))
    ∙ sym (with_there (with_buckets first count o known) (first + count) n o there ∙ among_here first count o known n it))
    (λ (other : ¬ IsAmong first count n).
    among_there first (count + 1) o known n (λ it. other (it.0, omega (arith, it.1, there)))
    ∙ sym (with_there (with_buckets first count o known) (first + count) n o there ∙ among_there first count o known n other))
    (is_among first count n))
    (cases_eq n (first + count))

pub none_known : (first : ℕ) (o : Option (List Entry)) (known : KnownBuckets) (n : ℕ) → with_buckets first 0 o known n ≡ known n
none_known first o known n = among_there first 0 o known n (λ it. omega (arith, it.0, it.1))

-- where no more is known
pub less_sound : {D : Type 0} (t : SectionState D) (known knows : KnownBuckets) (read : List ℕ) (images : List ℕ → Type 0)
    → ((n : ℕ) (entries : List Entry) → knows n ≡ Some entries → known n ≡ Some entries)
    → IsSoundSection t known read images → IsSoundSection t knows read images
less_sound t known knows read images less sound = record {
  head_frame = sound.head_frame;
  head_len = sound.head_len;
  head_twin = sound.head_twin;
  head = sound.head;
  head_rest = sound.head_rest;
  head_changing = sound.head_changing;
  selector = sound.selector;
  current = sound.current;
  made = λ s entries phase is. sound.made s entries phase (less t.bucket entries is);
  bucket = λ n entries within is. sound.bucket n entries within (less n entries is);
}

pub less_reads : {D : Type 0} (t : SectionState D) (known knows : KnownBuckets) (read : List ℕ)
    → ((n : ℕ) (entries : List Entry) → knows n ≡ Some entries → known n ≡ Some entries)
    → ReadsAt t known read → ReadsAt t knows read
less_reads t known knows read less reads n entries within is = reads n entries within (less n entries is)

-- ---- reads and syncs

-- a read or a sync
pub synced_sound : {D : Type 0} (t : SectionState D) (d : D) (known : KnownBuckets) (read reads : List ℕ) (images after : List ℕ → Type 0)
    → reads ≡ read → AreAmong after images → IsSoundSection t known read images → IsSoundSection (record t { disk = d }) known reads after
synced_sound t d known read reads images after same among sound = record {
  head_frame = sound.head_frame;
  head_len = sound.head_len;
  head_twin = reads_sound t.head_twin head_place sound.head_frame _ _ _ _ same among sound.head_twin;
  head = sound.head;
  head_rest = sound.head_rest;
  head_changing = sound.head_changing;
  selector = λ s phase region place. rw same (sound.selector s phase region place);
  current = λ s phase region place. rw same (sound.current s phase region place);
  made = sound.made;
  bucket = λ n entries within is.
      let it = sound.bucket n entries within is in
      record {
        region = it.region;
        place = it.place;
        twin = it.twin;
        frame = it.frame;
        frame_len = it.frame_len;
        sound = reads_sound it.twin it.region it.frame _ _ _ _ same among it.sound;
        spelled = it.spelled;
        rest = it.rest;
        changing = λ j m of at.
            let come = it.changing j m of at in
            record {
              current = come.current;
              made = come.made;
              goes = come.goes;
              whole = come.whole;
              new = come.new;
              spelled = come.spelled;
              merges = come.merges;
            };
      };
}

-- what is known is read
pub known_reads : {D : Type 0} (t : SectionState D) (known : KnownBuckets) (read : List ℕ) (images : List ℕ → Type 0)
    → ¬ PutsEntries t.phase → images read → IsSoundSection t known read images → ReadsAt t known read
known_reads t known read images still is_image sound n entries within is =
    let it = sound.bucket n entries within is in (
      it.region,
      it.place,
      reads_known t known n entries read (current_frame it.region 8192 read) images sound is_image within is
          (λ region place. record {
            rest = λ no. ap (λ (r : Region). current_frame r 8192 read) (one_place (n - t.head.first) it.region region it.place place);
            changing = λ m of. absurd (still of.0);
          }),
    )

-- behind a sync, what is read is known
pub settled_sound : {D : Type 0} (t : SectionState D) (known knows : KnownBuckets) (read : List ℕ) (images : List ℕ → Type 0)
    → ¬ PutsEntries t.phase → Only read images → IsSoundSection t known read images → ReadsAt t knows read
    → IsSoundSection t knows read images
settled_sound t known knows read images still only sound reads = record {
  head_frame = sound.head_frame;
  head_len = sound.head_len;
  head_twin = sound.head_twin;
  head = sound.head;
  head_rest = sound.head_rest;
  head_changing = sound.head_changing;
  selector = sound.selector;
  current = sound.current;
  made = λ s entries phase is. absurd (still (subst PutsEntries (sym phase) tt));
  bucket = λ n entries within is.
      let it = reads n entries within is in
      settled_holds t n it.0 entries read images (λ way. still way.1.0) it.1 only it.2;
}

-- what is written at the head's place
pub reads_beside : {D : Type 0} (t : SectionState D) (known : KnownBuckets) (read reads : List ℕ)
    → SameBut (Inside head_place) read reads → ReadsAt t known read → ReadsAt t known reads
reads_beside t known read reads same were n entries within is =
    let it = were n entries within is in (
      it.0,
      it.1,
      subst (λ (f : List ℕ). IsBucketFrame n entries f)
          (sym (current_same (Inside head_place) (n - t.head.first) it.0 it.1
          (λ i changed here. head_apart (n - t.head.first) it.0 it.1 i here changed) read reads same)) it.2,
    )

-- a bucket is written
pub reads_filled : {D : Type 0} (t : SectionState D) (d : D) (n : ℕ) (region : Region) (entries : List Entry) (known : KnownBuckets) (read reads : List ℕ)
    → InRange t.head t.buckets n → IsBucketPlace (n - t.head.first) region → SameBut (Inside region) read reads
    → IsBucketFrame n entries (current_frame region 8192 reads) → ReadsAt t known read
    → ReadsAt (record t { disk = d }) (with_bucket n (Some entries) known) reads
reads_filled t d n region entries known read reads in_it place same spelled were k list within is = ⊎_elim
    (λ (here : k ≡ n).
    let e : entries ≡ list = same_Some entries list (sym (ap (with_bucket n (Some entries) known) here ∙ with_here known n (Some entries)) ∙ is) in (
      region,
      subst (λ (m : ℕ). IsBucketPlace (m - t.head.first) region) (sym here) place,
      subst (λ (m : ℕ). IsBucketFrame m list (current_frame region 8192 reads)) (sym here)
          (subst (λ (l : List Entry). IsBucketFrame n l (current_frame region 8192 reads)) e spelled),
    ))
    (λ (there : k ≢ n).
    let it = were k list within (sym (with_there known n k (Some entries) there) ∙ is) in (
      it.0,
      it.1,
      subst (λ (f : List ℕ). IsBucketFrame k list f)
          (sym (current_same (Inside region) (k - t.head.first) it.0 it.1
          (λ i changed own. places_apart (n - t.head.first) (k - t.head.first) region it.0 place it.1
          (λ e. there (omega (arith, e, within.0, in_it.0))) i changed own) read reads same)) it.2,
    ))
    (cases_eq k n)

-- ---- a history

-- while the mark doesn't count, other entries of blocks agree with it, too
pub agrees_building : {D : Type 0} (score : List ℕ → List ℕ) (c : Setup) (h : History) (t : SectionState D) (d : D) (known knows : KnownBuckets)
    → KnownAgrees score c h t known → t.head.state ≢ 1 → t.next ≡ t.head
    → ((n : ℕ) → InRange t.head t.buckets n → IsSome (knows n))
    → ((n : ℕ) (entries : List Entry) (entry : Entry) → InRange t.head t.buckets n → knows n ≡ Some entries → Contains entries entry
    → IsEntryOfBlock score c h entry × (bucket_of (bucket_count c) entry.key.score.0 ≡ n))
    → KnownAgrees score c h (record t { disk = d }) knows
agrees_building score c h t d known knows agrees waits next whole blocks = record {
  keys = agrees.keys;
  total = agrees.total;
  same_first = agrees.same_first;
  same_total = agrees.same_total;
  whole = whole;
  blocks = blocks;
  todo = agrees.todo;
  filed = λ live. absurd (waits live);
  coming = λ live. absurd (waits (ap (λ x. x.state) (sym next) ∙ live));
}

none_in : (entries : List Entry) (entry : Entry) → Some entries ≡ Some [] → ¬ Contains entries entry
none_in entries entry e has = let none : length entries ≡ 0 = ap (λ (l : List Entry). length l) (same_Some entries [] e) in omega (arith, none, has.1)

pub agrees_filled : {D : Type 0} (score : List ℕ → List ℕ) (c : Setup) (h : History) (t : SectionState D) (d : D) (n : ℕ) (filled : List Entry) (known : KnownBuckets)
    → KnownAgrees score c h t known → t.head.state ≢ 1 → t.next ≡ t.head
    → ((entry : Entry) → Contains filled entry → IsEntryOfBlock score c h entry × (bucket_of (bucket_count c) entry.key.score.0 ≡ n))
    → KnownAgrees score c h (record t { disk = d }) (with_bucket n (Some filled) known)
agrees_filled score c h t d n filled known agrees waits next of =
    agrees_building score c h t d known (with_bucket n (Some filled) known) agrees waits next
    (λ k within. ⊎_elim
    (λ (here : k ≡ n). subst (λ (o : Option (List Entry)). IsSome o) (sym (ap (with_bucket n (Some filled) known) here ∙ with_here known n (Some filled))) refl)
    (λ (there : k ≢ n). subst (λ (o : Option (List Entry)). IsSome o) (sym (with_there known n k (Some filled) there)) (agrees.whole k within))
    (cases_eq k n))
    (λ k entries entry within is has. ⊎_elim
    (λ (here : k ≡ n).
    let e : filled ≡ entries = same_Some filled entries (sym (ap (with_bucket n (Some filled) known) here ∙ with_here known n (Some filled)) ∙ is) in
    let it = of entry (subst (λ (l : List Entry). Contains l entry) (sym e) has) in
    (it.0, it.1 ∙ sym here))
    (λ (there : k ≢ n). agrees.blocks k entries entry within (sym (with_there known n k (Some filled) there) ∙ is) has)
    (cases_eq k n))

pub agrees_cleared : {D : Type 0} (score : List ℕ → List ℕ) (c : Setup) (h : History) (t : SectionState D) (d : D) (first count : ℕ) (known : KnownBuckets)
    → KnownAgrees score c h t known → t.head.state ≢ 1 → t.next ≡ t.head
    → KnownAgrees score c h (record t { disk = d }) (with_buckets first count (Some []) known)
agrees_cleared score c h t d first count known agrees waits next =
    agrees_building score c h t d known (with_buckets first count (Some []) known) agrees waits next
    (λ k within. ⊎_elim
    (λ (here : IsAmong first count k). subst (λ (o : Option (List Entry)). IsSome o) (sym (among_here first count (Some []) known k here)) refl)
    (λ (there : ¬ IsAmong first count k). subst (λ (o : Option (List Entry)). IsSome o) (sym (among_there first count (Some []) known k there)) (agrees.whole k within))
    (is_among first count k))
    (λ k entries entry within is has. ⊎_elim
    (λ (here : IsAmong first count k). absurd (none_in entries entry (sym is ∙ among_here first count (Some []) known k here) has))
    (λ (there : ¬ IsAmong first count k). agrees.blocks k entries entry within (sym (among_there first count (Some []) known k there) ∙ is) has)
    (is_among first count k))

-- ---- buckets one after another

-- what is written elsewhere leaves what a bucket was written with
fills_stay : (n : ℕ) (entries : List Entry) (P : ℕ → Type 0) (j : ℕ) (region : Region) → IsBucketPlace j region → ((i : ℕ) → P i → ¬ Inside region i)
    → (old mid new : List ℕ) → SameBut P mid new → FillsBucket n entries region old mid → FillsBucket n entries region old new
fills_stay n entries P j region place apart old mid new same it =
    let size : ℕ = region.start + region.len in
    let room = own_room j region place in
    let frame : (k : ℕ) → k < 2 → frame_of region 8192 k new ≡ frame_of region 8192 k mid =
    λ k two. frame_same P region 8192 k (λ i here changed. apart i changed (frame_inside region 8192 size room k i two here)) mid new same in
    record {
      frame = frame 0 (omega arith) ∙ it.frame;
      selector = part_same P (selector_start region 8192) (selector_len region 8192) mid new same
          (λ i up down changed. apart i changed (omega (arith, up), omega (arith, down, place.len)))
          ∙ it.selector;
      idle = frame 1 (omega arith) ∙ it.idle;
    }

-- and so does what was written elsewhere before
fills_later : (n : ℕ) (entries : List Entry) (P : ℕ → Type 0) (j : ℕ) (region : Region) → IsBucketPlace j region → ((i : ℕ) → P i → ¬ Inside region i)
    → (old mid new : List ℕ) → SameBut P old mid → FillsBucket n entries region mid new → FillsBucket n entries region old new
fills_later n entries P j region place apart old mid new same it = record {
  frame = it.frame;
  selector = it.selector;
  idle = it.idle ∙ frame_same P region 8192 1
      (λ i here changed. apart i changed (frame_inside region 8192 (region.start + region.len) (own_room j region place) 1 i (omega arith) here)) old mid same;
}

-- so many buckets of a section were cleared, in order, and nothing else was done
pub record HasCleared {D : Type 0} (disk : DiskOf D) (t u : SectionState D) (first count : ℕ) : Type 0 where
  pub same : u ≡ record t { disk = u.disk }
  pub written : IsTrue disk.tells → AreCleared disk first count t u
  pub read : (known : KnownBuckets) → IsTrue disk.tells → ReadsKnown disk t known → ReadsKnown disk u (with_buckets first count (Some []) known)
  pub others : (known : KnownBuckets) → IsTrue disk.tells → DiskHolds disk t known → DiskHolds disk u (with_buckets first count None known)
  pub writes : WritesAt disk (InBuckets (first - t.head.first) count) (2 * count) t.disk u.disk
  pub calls_are : IsTrue disk.tells → min (disk.calls u.disk + 1) (2 ^ 64 - 1) ≡ min (disk.calls t.disk + 2 * count + 1) (2 ^ 64 - 1)
  pub faults_are : disk.faults u.disk ≡ disk.faults t.disk

module _ {D : Type 0} (disk : DiskOf D) (t : SectionState D) (first : ℕ) where
  pub cleared_none : HasCleared disk t t first 0
  cleared_none = record {
    same = refl;
    written = λ told n region it place. absurd (omega (arith, it.0, it.1));
    read = λ known told reads. less_reads t known (with_buckets first 0 (Some []) known) (disk.bytes t.disk)
        (λ n entries is. sym (none_known first (Some []) known n) ∙ is) reads;
    others = λ known told sound. less_sound t known (with_buckets first 0 None known) (disk.bytes t.disk) (disk.images t.disk)
        (λ n entries is. sym (none_known first None known n) ∙ is) sound;
    writes = record {
      bytes = λ told. same_refl (InBuckets (first - t.head.first) 0) (disk.bytes t.disk);
      images = λ c left. (c, left, same_refl (InBuckets (first - t.head.first) 0) c);
      size = refl;
      calls = λ told. omega arith;
    };
    calls_are = λ told. omega arith;
    faults_are = refl;
  }

  -- what more buckets may change
  pub more_buckets : (k m : ℕ) → k ≤ m → (i : ℕ) → InBuckets (first - t.head.first) k i → InBuckets (first - t.head.first) m i
  more_buckets k m le i it = (it.0, omega (arith, it.1, le))

  next_wider : (k : ℕ) → t.head.first ≤ first → (i : ℕ) → InBuckets (first + k - t.head.first) 1 i → InBuckets (first - t.head.first) (k + 1) i
  next_wider k from i it = (omega (arith, it.0, from), omega (arith, it.1, from))

  module _ (u v : SectionState D) (k : ℕ) (from : t.head.first ≤ first) (it : HasCleared disk t u first k)
      (step : WritesAt disk (InBuckets (first + k - t.head.first) 1) 2 u.disk v.disk) where
    pub next_writes : WritesAt disk (InBuckets (first - t.head.first) (k + 1)) (2 * k + 2) t.disk v.disk
    next_writes = writes_then disk (InBuckets (first - t.head.first) (k + 1)) (2 * k) 2 t.disk u.disk v.disk
        (writes_wider disk (InBuckets (first - t.head.first) k) (InBuckets (first - t.head.first) (k + 1)) (more_buckets k (k + 1) (omega arith)) (2 * k) (2 * k) (omega arith) t.disk u.disk it.writes)
        (writes_wider disk (InBuckets (first + k - t.head.first) 1) (InBuckets (first - t.head.first) (k + 1)) (next_wider k from) 2 2 (omega arith) u.disk v.disk step)

    pub next_written : IsTrue disk.tells → AreCleared disk first k t v
    next_written told n region among place =
        fills_stay n [] (InBuckets (first + k - t.head.first) 1) (n - t.head.first) region place
        (λ i changed here. omega (arith, changed.0, here.1, place.start, place.len, among.0, among.1, from)) (disk.bytes t.disk) (disk.bytes u.disk) (disk.bytes v.disk)
        (step.bytes told) (it.written told n region among place)

    -- where the next one is cleared, too
    module _ (step_same : v ≡ record u { disk = v.disk })
        (step_written : IsTrue disk.tells → (region : Region) → IsBucketPlace (first + k - t.head.first) region → FillsBucket (first + k) [] region (disk.bytes u.disk) (disk.bytes v.disk))
        (step_read : (known : KnownBuckets) → IsTrue disk.tells → ReadsKnown disk u known → ReadsKnown disk v (with_bucket (first + k) (Some []) known))
        (step_others : (known : KnownBuckets) → IsTrue disk.tells → DiskHolds disk u known → DiskHolds disk v (with_bucket (first + k) None known))
        (step_calls : MadeCalls disk 2 u.disk v.disk) (step_faults : disk.faults v.disk ≡ disk.faults u.disk) where
      here_written : IsTrue disk.tells → (n : ℕ) (region : Region) → n ≡ first + k → IsBucketPlace (n - t.head.first) region → FillsBucket n [] region (disk.bytes t.disk) (disk.bytes v.disk)
      here_written told n region is place =
          let at : IsBucketPlace (first + k - t.head.first) region = subst (λ (m : ℕ). IsBucketPlace (m - t.head.first) region) is place in
          subst (λ (m : ℕ). FillsBucket m [] region (disk.bytes t.disk) (disk.bytes v.disk)) (sym is)
          (fills_later (first + k) [] (InBuckets (first - t.head.first) k) (first + k - t.head.first) region at
          (λ i changed own. omega (arith, changed.1, own.0, at.start, from)) (disk.bytes t.disk) (disk.bytes u.disk) (disk.bytes v.disk)
          (it.writes.bytes told) (step_written told region at))

      pub cleared_more : HasCleared disk t v first (k + 1)
      cleared_more = record {
        same = step_same ∙ ap {A = SectionState D} {B = SectionState D} (λ x. record x { disk = v.disk }) it.same;
        written = λ told n region among place. ⊎_elim
            (λ (here : n ≡ first + k). here_written told n region here place)
            (λ (there : n ≢ first + k). next_written told n region (among.0, omega (arith, among.1, there)) place)
            (cases_eq n (first + k));
        read = λ known told reads. less_reads v (with_bucket (first + k) (Some []) (with_buckets first k (Some []) known)) (with_buckets first (k + 1) (Some []) known) (disk.bytes v.disk)
            (λ n entries is. sym (next_known first k (Some []) known n) ∙ is)
            (step_read (with_buckets first k (Some []) known) told (it.read known told reads));
        others = λ known told sound. less_sound v (with_bucket (first + k) None (with_buckets first k None known)) (with_buckets first (k + 1) None known) (disk.bytes v.disk) (disk.images v.disk)
            (λ n entries is. sym (next_known first k None known n) ∙ is)
            (step_others (with_buckets first k None known) told (it.others known told sound));
        writes = writes_wider disk (InBuckets (first - t.head.first) (k + 1)) (InBuckets (first - t.head.first) (k + 1)) (λ i here. here) (2 * k + 2) (2 * (k + 1)) (omega arith) t.disk v.disk next_writes;
        calls_are = λ told. let a = it.calls_are told in let b = step_calls told in omega (arith, a, b);
        faults_are = step_faults ∙ it.faults_are;
      }

  none_some : (entries : List Entry) → None ≡ Some entries → ⊥
  none_some entries e = cc

  -- where it fails, no more is known of any of them
  pub stopped_others : (u v : SectionState D) (k count : ℕ) → k < count → HasCleared disk t u first k
      → ((known : KnownBuckets) → IsTrue disk.tells → DiskHolds disk u known → DiskHolds disk v (with_bucket (first + k) None known))
      → (known : KnownBuckets) → IsTrue disk.tells → DiskHolds disk t known → DiskHolds disk v (with_buckets first count None known)
  stopped_others u v k count low it step known told sound =
      less_sound v (with_bucket (first + k) None (with_buckets first k None known)) (with_buckets first count None known) (disk.bytes v.disk) (disk.images v.disk)
      (λ n entries is.
      let apart : ¬ IsAmong first count n = λ among. none_some entries (sym (among_here first count None known n among) ∙ is) in
      with_there (with_buckets first k None known) (first + k) n None (λ e. apart (omega (arith, e), omega (arith, e, low)))
      ∙ among_there first k None known n (λ among. apart (among.0, omega (arith, among.1, low)))
      ∙ sym (among_there first count None known n apart) ∙ is)
      (step (with_buckets first k None known) told (it.others known told sound))

-- ---- the bucket at which it ended

-- the frame of a bucket without entries
pub blank_len : (n : ℕ) → length (bucket_frame n []) ≡ 8192
blank_len n = omega (arith, length-replicate {A = ℕ} 8182 0)

-- a selector in a place that nothing was written to
selector_elsewhere : (P : ℕ → Type 0) (j : ℕ) (region : Region) → IsBucketPlace j region → ((i : ℕ) → P i → ¬ Inside region i)
    → (old new : List ℕ) → SameBut P old new → selector_of region 8192 new ≡ selector_of region 8192 old
selector_elsewhere P j region place apart old new same =
    part_same P (selector_start region 8192) (selector_len region 8192) old new same
    (λ i up down changed. apart i changed (omega (arith, up), omega (arith, down, place.len)))

-- its selector is as it was, or behind a frame that is whole
pub ends_whole : {D : Type 0} (disk : DiskOf D) (j : ℕ) (region : Region) (frame : List ℕ) (made : ℕ) (old new : D) → IsBucketPlace j region → length frame ≡ 8192 → made < 2
    → EndsFormat disk region frame made old new → IsTrue disk.tells
    → (selector_of region 8192 (disk.bytes new) ≡ selector_of region 8192 (disk.bytes old)) ⊎ (frame_of region 8192 0 (disk.bytes new) ≡ frame)
ends_whole disk j region frame zero old new place len few ends told = inl (
    part_same (TouchedByFirst 1 region (length frame)) (selector_start region 8192) (selector_len region 8192) (disk.bytes old) (disk.bytes new) (ends.writes.bytes told)
    (λ i up down touched. ⊎_elim
    (λ (first : (1 ≤ 1) × Touches (frame_start region (length frame) 0) (length frame) i).
    omega (
      arith,
      up,
      (touches_within region.start (region.start + 8192) (frame_start region (length frame) 0) (length frame) i
          (omega (arith, place.start)) (omega (arith, place.start)) (omega arith) (omega (arith, len)) first.1).1,
    ))
    (λ (second : (2 ≤ 1) × Touches (selector_start region (length frame)) (selector_len region (length frame)) i). omega (arith, second.0))
    touched))
ends_whole disk j region frame (suc zero) old new place len few ends told = inr (
    ap (λ (n : ℕ). frame_of region n 0 (disk.bytes new)) (sym len) ∙ ends.frame_is (omega arith) told)
ends_whole disk j region frame (suc (suc n)) old new place len few ends told = absurd (omega (arith, few))

-- and that was so before the first of them
pub stops_whole : {D : Type 0} (disk : DiskOf D) (t u v : SectionState D) (first k : ℕ) (region : Region) (frame : List ℕ) (made : ℕ)
    → t.head.first ≤ first → IsBucketPlace (first + k - t.head.first) region → length frame ≡ 8192 → made < 2
    → HasCleared disk t u first k → EndsFormat disk region frame made u.disk v.disk → IsTrue disk.tells
    → HasSelectorOf region (disk.bytes t.disk) (disk.bytes v.disk) ⊎ (frame_of region 8192 0 (disk.bytes v.disk) ≡ frame)
stops_whole disk t u v first k region frame made from place len few it ends told = ⊎_elim
    (λ (same : selector_of region 8192 (disk.bytes v.disk) ≡ selector_of region 8192 (disk.bytes u.disk)).
    inl (same ∙ selector_elsewhere (InBuckets (first - t.head.first) k) (first + k - t.head.first) region place
    (λ i changed here. omega (arith, changed.1, here.0, place.start, from)) (disk.bytes t.disk) (disk.bytes u.disk) (it.writes.bytes told)))
    (λ (whole : frame_of region 8192 0 (disk.bytes v.disk) ≡ frame). inr whole)
    (ends_whole disk (first + k - t.head.first) region frame made u.disk v.disk place len few ends told)

-- ---- the sync behind them

-- the section that the sync is of is the one that was written
pub sync_reads : {D : Type 0} (disk : DiskOf D) (s u : SectionState D) (d : D) → s ≡ u → disk.bytes d ≡ disk.bytes s.disk → AreAmong (disk.images d) (disk.images s.disk)
    → disk.size d ≡ disk.size s.disk → (IsTrue disk.tells → IsOneMore (disk.calls s.disk) (disk.calls d)) → OnlyReads disk 1 u.disk d
sync_reads disk s u d same bytes images size calls = subst (λ x. OnlyReads disk 1 x.disk d) same (record {
  bytes = bytes;
  images = images;
  size = size;
  calls = λ told. omega (arith, calls told);
})

pub synced_writes : {D : Type 0} (disk : DiskOf D) (t u : SectionState D) (d : D) (first count : ℕ)
    → WritesAt disk (InBuckets (first - t.head.first) count) (2 * count) t.disk u.disk → OnlyReads disk 1 u.disk d
    → WritesAt disk (InBuckets (first - t.head.first) count) (2 * count + 1) t.disk d
synced_writes disk t u d first count writes reads =
    writes_then disk (InBuckets (first - t.head.first) count) (2 * count) 1 t.disk u.disk d writes
    (reads_as_writes disk (InBuckets (first - t.head.first) count) 1 u.disk d reads)

-- buckets that were cleared, behind a sync
module _ {D : Type 0} (t u : SectionState D) (d : D) (first count : ℕ) (read mid reads : List ℕ) (images between after : List ℕ → Type 0)
    (same : u ≡ record t { disk = u.disk }) (rest : t.phase ≡ Rest) (bytes_are : reads ≡ mid) (among : AreAmong after between) where
  still : ¬ PutsEntries u.phase
  still way = subst PutsEntries (ap (λ x. x.phase) same ∙ rest) way

  pub synced_reads : (known : KnownBuckets) → ReadsAt u known mid → ReadsAt (record u { disk = d }) known reads
  synced_reads known it = rw bytes_are it

  pub synced_cleared : Only reads after → (known : KnownBuckets) → images read
      → (IsSoundSection t known read images → IsSoundSection u (with_buckets first count None known) mid between)
      → (ReadsAt t known read → ReadsAt u (with_buckets first count (Some []) known) mid)
      → IsSoundSection t known read images → IsSoundSection (record u { disk = d }) (with_buckets first count (Some []) known) reads after
  synced_cleared only known is_image others cleared sound =
      settled_sound (record u { disk = d }) (with_buckets first count None known) (with_buckets first count (Some []) known) reads after still only
      (synced_sound u d (with_buckets first count None known) mid reads between after bytes_are among (others sound))
      (synced_reads (with_buckets first count (Some []) known)
      (cleared (known_reads t known read images (λ way. subst PutsEntries rest way) is_image sound)))

  pub synced_empty : Only reads after → (ReadsAt t nothing_known read → ReadsAt u (with_buckets first count (Some []) nothing_known) mid)
      → t.head.first ≤ first → first + count ≤ t.head.first + t.buckets
      → (c : List ℕ) (n : ℕ) (region : Region) → after c → IsAmong first count n → IsBucketPlace (n - t.head.first) region
      → IsBucketFrame n [] (current_frame region 8192 c)
  synced_empty only cleared from room c n region left within place =
      let head : u.head ≡ t.head = ap (λ x. x.head) same in
      let buckets : u.buckets ≡ t.buckets = ap (λ x. x.buckets) same in
      let in_it : InRange u.head u.buckets n =
      rw (head, buckets) (omega (arith, from, within.0), omega (arith, room, within.1)) in
      let it = cleared (λ k es w is. absurd (let e = is in cc)) n [] in_it (among_here first count (Some []) nothing_known n within) in
      let at : IsBucketPlace (n - t.head.first) it.0 = subst (λ (h : Head). IsBucketPlace (n - h.first) it.0) head it.1 in
      rw (only c left, bytes_are) (subst (λ (r : Region). IsBucketFrame n [] (current_frame r 8192 mid)) (one_place (n - t.head.first) it.0 region at place) it.2)
