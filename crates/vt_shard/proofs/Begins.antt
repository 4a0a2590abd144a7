-- A disk stays sound for a shard when a writeback begins.
use Rattle.std.proofs.Common.{◌≡◌, ◌≢◌, ◌⊎◌, inl, inr, ⊎_elim, ℕ, ◌+◌, ◌-◌, ◌*◌, ◌<◌, ◌≤◌, ◌==◌, max, get_or, List, [], length, take, drop, Option, Some, refl, sym, ◌∙◌, ap, subst, arith, length-take}
use Rattle.std.specs.Prelude.{IsPermutation, MatchOption, slice_get}
use Rattle.std.specs.List.{Contains, count_by}
use Rattle.std.specs.Option.{option_map_or}
use Rattle.std.proofs.lemmas.Bool.{cases_lt}
use Rattle.std.proofs.lemmas.List.Sorted.{Contains-permutation, IsPermutation-sym}
use Rattle.vt_base.specs.declared.place.Entry.{Entry}
use Rattle.vt_base.specs.declared.place.Info.{Info}
use Rattle.vt_disk.specs.Members.{DiskOf}
use Rattle.vt_icache.specs.Index.{entry_of, entries_below}
use Rattle.vt_isect.specs.Agreement.{IsEntryOf, IsEntryOfBlock, IsMarkCovered, NoOthers, KnownAgrees}
use Rattle.vt_isect.specs.Entries.{EntriesState}
use Rattle.vt_isect.specs.Layout.{InRange}
use Rattle.vt_isect.specs.Section.{SectionState, PutsEntries, entries_of}
use Rattle.vt_isect.specs.Sound.{DiskHolds}
use Rattle.vt_isect.specs.Writeback.{BeginsBehind, calls_left}
use Rattle.vt_isect.specs.declared.head.Head.{Head}
use Rattle.vt_isect.specs.declared.phase.Phase.TheVariants.{Rest}
use Rattle.vt_isect.proofs.Crowd.{one_entry}
use Rattle.vt_isect.proofs.IsRead.{read_apart, read_runs}
use Rattle.vt_model.specs.History.{History}
use Rattle.vt_model.specs.Places.{Setup, bucket_of}
use Rattle.vt_shard.specs.Shard.{ShardState, IsDirty, IsUnderWay, IsWell, OnlyMark, dirty_in}
use Rattle.vt_shard.specs.Sound.{IsSoundFrom}
use Rattle.vt_shard.specs.declared.TheConstants.{ROOM}
use Rattle.vt_shard.proofs.Blocks.{entry_in_front, bucket_of_front}
use Rattle.vt_shard.proofs.IsFiling.{begins_filing}
use Rattle.vt_shard.proofs.Lists.{AreApart, apart_permuted, below_apart, below_short, from_below, to_below}

module _ {D : Type 0} (score : List ℕ → List ℕ) (c : Setup) (disk : DiskOf D) (t : ShardState D) (h : History) (durable from : ℕ)
    (s : IsSoundFrom score c disk t h durable from) where
  front_length : length (take durable h) ≡ durable
  front_length = omega (arith, length-take durable h, s.durable_fits)

  -- they are those of durable blocks
  pub below_durable : (below : ℕ) → below ≤ durable → (entry : Entry) → Contains (entries_below below t.index.dirty) entry
      → IsEntryOfBlock score c (take durable h) entry
  below_durable below le entry it =
      let one = from_below below t.index.dirty entry it in
      let lt = one.2 in
      let len = front_length in (
        one.0.number,
        subst (λ (e : Entry). IsEntryOf score c (take durable h) one.0.number e) one.3
            (entry_in_front score c h durable one.0.number (entry_of one.0) (omega (arith, lt, le, len)) (s.dirty one.0 one.1)),
      )

  -- the mark stays covered
  pub bare_covered : (entries : List Entry) → IsMarkCovered score c (take durable h) t.section s.known (Contains entries) t.section.head.mark
  bare_covered entries =
      let cover = s.agrees.filed s.live in
      record {
        fits = cover.fits;
        has = λ n i known within is lt at.
            let it = cover.has n i known within is lt at in
            (it.0, ⊎_elim (λ (has : Contains known it.0). inl has) (λ (no : NoOthers it.0). absurd no) it.1, it.2);
      }

  -- and so is that of the durable blocks, where no block lacks its entry
  pub file_covered : from ≡ 0 → (below : ℕ) → below ≤ durable
      → IsMarkCovered score c (take durable h) t.section s.known (Contains (entries_below below t.index.dirty)) (max t.section.head.mark below)
  file_covered all below le =
      let cover = s.agrees.filed s.live in
      let fits = cover.fits in
      let len = front_length in
      record {
        fits = omega (arith, fits, le, len);
        has = λ n i known within is lt at. ⊎_elim
            (λ (low : i < t.section.head.mark).
            let it = cover.has n i known within is low at in
            (it.0, ⊎_elim (λ (has : Contains known it.0). inl has) (λ (no : NoOthers it.0). absurd no) it.1, it.2))
            (λ (high : t.section.head.mark ≤ i).
            let under : i < below = omega (arith, lt, high) in
            let it = s.has n i known within is (omega (arith, all)) (bucket_of_front score c h durable n i at) in (
              it.0,
              ⊎_elim
                  (λ (has : Contains known it.0). inl has)
                  (λ (dirty : IsDirty t it.0).
                  let number : dirty.0.number ≡ i =
                  (one_entry score c h dirty.0.number i (entry_of dirty.0) it.0 s.keys (s.dirty dirty.0 dirty.1) it.2 (ap (λ (e : Entry). e.key) dirty.2)).0 in
                  inr (subst (Contains (entries_below below t.index.dirty)) dirty.2
                  (to_below below t.index.dirty dirty.0 dirty.1 (omega (arith, number, under)))))
                  it.1,
              entry_in_front score c h durable i it.0 (omega (arith, under, le, len)) it.2,
            ))
            (cases_lt i t.section.head.mark);
      }

  -- either mark stays covered
  pub either_covered : (below mark : ℕ) → below ≤ durable
      → (mark ≡ t.section.head.mark) ⊎ ((from ≡ 0) × (mark ≡ max t.section.head.mark below))
      → IsMarkCovered score c (take durable h) t.section s.known (Contains (entries_below below t.index.dirty)) mark
  either_covered below mark le which = ⊎_elim
      (λ (bare : mark ≡ t.section.head.mark).
      subst (λ (m : ℕ). IsMarkCovered score c (take durable h) t.section s.known (Contains (entries_below below t.index.dirty)) m) (sym bare)
      (bare_covered (entries_below below t.index.dirty)))
      (λ (file : (from ≡ 0) × (mark ≡ max t.section.head.mark below)).
      subst (λ (m : ℕ). IsMarkCovered score c (take durable h) t.section s.known (Contains (entries_below below t.index.dirty)) m) (sym file.1)
      (file_covered file.0 below le))
      which

  -- a writeback of the entries below a number began
  pub begun : (v : SectionState D) (below mark : ℕ) → below ≤ durable
      → v.head ≡ t.section.head → v.buckets ≡ t.section.buckets
      → v.next ≡ record t.section.head { mark = mark }
      → DiskHolds disk v s.known
      → KnownAgrees score c (take durable h) v s.known
      → IsSoundFrom score c disk (record t { section = v; writeback = Some below; filed = max t.filed below }) h durable from
  begun v below mark le head buckets next holds agrees = record {
    keys = s.keys;
    durable_fits = s.durable_fits;
    known = s.known;
    section = holds;
    agrees = agrees;
    live = ap (λ (x : Head). x.state) head ∙ s.live;
    next = subst (λ (x : Head). OnlyMark v.head x) (sym next) (subst (λ (x : Head). OnlyMark x (record t.section.head { mark = mark })) (sym head) refl);
    filed = (let was = s.filed in omega (arith, was, le));
    has = λ n i known within is low at. s.has n i known (here n within) is low at;
    dirty = s.dirty;
    unfiled = λ info entries it is. s.unfiled info entries it (ap (λ (x : Head). s.known (bucket_of x.total info.key.score.0)) (sym head) ∙ is);
    clean = λ entry it.
        let was = s.clean entry it in
        record {
          in_range = subst (λ (x : Head). InRange x v.buckets (bucket_of x.total entry.key.score.0)) (sym head)
              (subst (λ (b : ℕ). InRange t.section.head b (bucket_of t.section.head.total entry.key.score.0)) (sym buckets) was.in_range);
          entries = was.entries;
          known_is = ap (λ (x : Head). s.known (bucket_of x.total entry.key.score.0)) head ∙ was.known_is;
          has = was.has;
        };
    bucket = s.bucket;
    lumps = s.lumps;
  }
    where
      here : (n : ℕ) → InRange v.head v.buckets n → InRange t.section.head t.section.buckets n
      here n within = subst (λ (x : Head). InRange x t.section.buckets n) head (subst (λ (b : ℕ). InRange v.head b n) buckets within)

-- what is under way then
module _ {D : Type 0} (t : ShardState D) (list : Option ℕ) (waiting : List ℕ) (w : IsWell t list waiting)
    (v : SectionState D) (below mark : ℕ) (ordered : EntriesState) (head : v.head ≡ t.section.head) (buckets : v.buckets ≡ t.section.buckets)
    (next : v.next ≡ record t.section.head { mark = mark }) (begins : BeginsBehind 0 v) (entries : v.entries ≡ Some ordered)
    (rises : v.head.mark ≤ v.next.mark) (same : IsPermutation (entries_below below t.index.dirty) ordered.items) (room : ROOM ≤ ordered.room)
    (few : calls_left v ≤ 6 * length (entries_below below t.index.dirty) + 4) where
  items : entries_of v ≡ ordered.items
  items = ap (λ (o : Option EntriesState). option_map_or (λ list. list.items) o []) entries

  none_written : v.written ≡ 0
  none_written = ⊎_elim (λ group. group.1) (λ head. head.1) begins

  first_ones : drop v.written (entries_of v) ≡ ordered.items
  first_ones = ap (λ (n : ℕ). drop n (entries_of v)) none_written ∙ items

  under_way_first : IsUnderWay (record t { section = v; writeback = Some below; filed = max t.filed below }) below
  under_way_first = record {
    filed = omega arith;
    next = subst (λ (x : Head). OnlyMark v.head x) (sym next) (subst (λ (x : Head). OnlyMark x (record t.section.head { mark = mark })) (sym head) refl);
    rises = rises;
    todo = λ entry. (
      λ has. from_below below t.index.dirty entry
          (Contains-permutation ordered.items (entries_below below t.index.dirty) entry
          (IsPermutation-sym (entries_below below t.index.dirty) ordered.items same)
          (subst (λ (l : List Entry). Contains l entry) first_ones has)),
      λ dirty. subst (λ (l : List Entry). Contains l entry) (sym first_ones)
          (Contains-permutation (entries_below below t.index.dirty) ordered.items entry same
          (subst (Contains (entries_below below t.index.dirty)) dirty.3 (to_below below t.index.dirty dirty.0 dirty.1 dirty.2))),
    );
    apart = subst (AreApart (λ (x : Entry). x.key)) (sym items)
        (apart_permuted (λ (x : Entry). x.key) (entries_below below t.index.dirty) ordered.items same (below_apart below t.index.dirty w.keys));
    filing = λ has. ⊎_elim
        (λ group. begins_filing v 0 group)
        (λ head. absurd (subst PutsEntries head.0 has))
        begins;
    behind = λ is. ⊎_elim
        (λ group. absurd (read_apart v.phase group.0.0 is))
        (λ head. head.1 ∙ sym head.3)
        begins;
    list = subst (λ (o : Option EntriesState). MatchOption o ⊥ (λ list. ROOM ≤ list.room)) (sym entries) room;
    left =
        let short = below_short below t.index.dirty in
        let most = w.most in
        omega (arith, few, short, most);
  }

  busy : v.phase ≢ Rest
  busy is = ⊎_elim
      (λ group. read_runs v.phase group.0.0 is)
      (λ head. let no = sym head.0 ∙ is in cc)
      begins

  pub well_begun : (other : Option ℕ) → IsWell (record t { section = v; writeback = Some below; filed = max t.filed below }) other waiting
  well_begun other = record {
    room = w.room;
    most = w.most;
    keys = w.keys;
    in_range = λ k d lt. subst (λ (x : Head). InRange x v.buckets (bucket_of x.total (get_or t.index.dirty k d).key.score.0)) (sym head)
        (subst (λ (b : ℕ). InRange t.section.head b (bucket_of t.section.head.total (get_or t.index.dirty k d).key.score.0)) (sym buckets) (w.in_range k d lt));
    numbers = w.numbers;
    counts = λ n within. here n within;
    rest = λ is. absurd (busy is);
    under_way = λ goes. under_way_first;
  }
    where
      here : (n : ℕ) → InRange v.head v.buckets n → slice_get waiting (n - v.head.first) ≡ Some (dirty_in (record t { section = v; writeback = Some below; filed = max t.filed below }) n)
      here n within = subst (λ (x : Head). slice_get waiting (n - x.first) ≡ Some (count_by (λ (info : Info). bucket_of x.total info.key.score.0 == n) t.index.dirty)) (sym head)
          (w.counts n (subst (λ (x : Head). InRange x t.section.buckets n) head (subst (λ (b : ℕ). InRange v.head b n) buckets within)))
