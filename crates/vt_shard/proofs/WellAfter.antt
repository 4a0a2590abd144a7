-- What holds of every shard holds of it after a step of its writeback.
use Rattle.std.proofs.Common.{◌≡◌, ◌≢◌, ℕ, ◌+◌, ◌-◌, ◌^◌, ◌<◌, ◌≤◌, ◌==◌, cond, List, ◌++◌, length, take, drop, get_or, Option, Some, None, Result, refl, sym, ◌∙◌, ap, subst, arith, length-append}
use Rattle.std.specs.Prelude.{IsSome, MatchOption, OnOk, slice_get, slice_index}
use Rattle.std.specs.List.{All, Contains, count_by}
use Rattle.std.specs.Option.{option_map}
use Rattle.std.proofs.lemmas.List.Elements.{All-contains, Contains-get_or}
use Rattle.std.proofs.lemmas.List.Sorted.{length_permutation, sum_by-IsPermutation}
use Rattle.std.proofs.lemmas.List.Sums.{sum_by-append}
use Rattle.std.proofs.lemmas.Option.{get_or_from_slice_get, slice_get_within, slice_get-get_or}
use Rattle.vt_base.specs.declared.place.Entry.{Entry}
use Rattle.vt_base.specs.declared.place.Info.{Info}
use Rattle.vt_icache.specs.Index.{IndexState, entry_of}
use Rattle.vt_isect.specs.Entries.{EntriesState}
use Rattle.vt_isect.specs.Layout.{InRange}
use Rattle.vt_isect.specs.Section.{SectionState, bucket_number, entries_of}
use Rattle.vt_isect.specs.Writeback.{SectionAdvances, calls_left}
use Rattle.vt_isect.specs.declared.error.ShardErr.{ShardErr}
use Rattle.vt_isect.specs.declared.head.Head.{Head}
use Rattle.vt_isect.specs.declared.phase.Phase.TheVariants.{Rest}
use Rattle.vt_model.proofs.Lists.{count_by-map}
use Rattle.vt_model.specs.Places.{bucket_of}
use Rattle.vt_twin.specs.declared.step.Step.{Step}
use Rattle.vt_shard.specs.Shard.{ShardState, ReadBucket, HasScore, IsDirtyBelow, IsUnderWay, IsWell, dirty_in}
use Rattle.vt_shard.specs.Writeback.{SettlesAll, written_back}
use Rattle.vt_shard.specs.declared.TheConstants.{ROOM}
use Rattle.vt_shard.proofs.KeepsPlace.{Stays, stays, back, forth, first_same, total_same}
use Rattle.vt_shard.proofs.IsWell.{goes_on, under_way_of}
use Rattle.vt_shard.proofs.Lists.{AreApart}
use Rattle.vt_shard.proofs.Settles.{fewer, apart_after}
use Rattle.vt_shard.proofs.UnderWay.{range_is, under_way_still, written_apart, written_dirty, written_within}

-- ---- how many dirty entries a bucket has then

-- settled entries are taken off the counts of their buckets
module _ (below : ℕ) (written : List Entry) (old new : IndexState) (it : SettlesAll below written old new) (total : ℕ) where
  abbrev in_bucket : ℕ → List Info → ℕ
  in_bucket n infos = count_by (λ (info : Info). bucket_of total info.key.score.0 == n) infos

  abbrev pub of_bucket : ℕ → List Entry → ℕ
  of_bucket n entries = count_by (λ (entry : Entry). bucket_of total entry.key.score.0 == n) entries

  settled_are : (n : ℕ) → of_bucket n written ≡ in_bucket n it.settled
  settled_are n =
      ap (of_bucket n) (sym it.are)
      ∙ count_by-map entry_of (λ (entry : Entry). bucket_of total entry.key.score.0 == n) (λ (info : Info). bucket_of total info.key.score.0 == n)
      it.settled (λ k d lt. refl)

  pub counted : (n : ℕ) → in_bucket n old.dirty ≡ of_bucket n written + in_bucket n new.dirty
  counted n =
      let f : Info → ℕ = λ (info : Info). cond (bucket_of total info.key.score.0 == n) 1 0 in
      sym (sum_by-IsPermutation f old.dirty (it.settled ++ new.dirty) it.dirty)
      ∙ sum_by-append f it.settled new.dirty
      ∙ ap (λ (k : ℕ). k + in_bucket n new.dirty) (sym (settled_are n))

-- ---- the whole

module _ {D : Type 0} (t : ShardState D) (list : Option ℕ) (waiting : List ℕ) (w : IsWell t list waiting)
    (below : ℕ) (under : t.writeback ≡ Some below)
    (result : Result Step ShardErr) (v : SectionState D) (steps : SectionAdvances result t.section v) where
  it : IsUnderWay t below
  it = under_way_of t list waiting w below under

  same : Stays t.section v
  same = stays t.section v result it.next steps

  -- the memory of the entries, where it is handed back
  pub list_back : (other : Option ℕ) → other ≡ option_map (λ (l : EntriesState). l.room) v.entries
      → MatchOption other ⊥ (λ capacity. ROOM ≤ capacity)
  list_back other is =
      subst (λ (o : Option ℕ). MatchOption o ⊥ (λ capacity. ROOM ≤ capacity))
      (sym (is ∙ ap (λ (o : Option EntriesState). option_map (λ (l : EntriesState). l.room) o) same.entries))
      (room_of t.section.entries it.list)
    where
      room_of : (o : Option EntriesState) → MatchOption o ⊥ (λ l. ROOM ≤ l.room)
          → MatchOption (option_map (λ (l : EntriesState). l.room) o) ⊥ (λ capacity. ROOM ≤ capacity)
      room_of None has = has
      room_of (Some l) has = has

  -- the count of a bucket
  pub at_waiting : (n : ℕ) → InRange t.section.head t.section.buckets n
      → InRange t.section.head (length waiting) n × (slice_index waiting (n - t.section.head.first) ≡ dirty_in t n)
  at_waiting n within =
      let at = w.counts n within in
      let lt = slice_get_within waiting (n - t.section.head.first) (dirty_in t n) at in (
        (within.0, (let low = within.0 in omega (arith, lt, low))),
        get_or_from_slice_get waiting (n - t.section.head.first) (dirty_in t n) 0 at,
      )

  -- what it wrote, as a range of the entries gives it
  pub range : (entries : List Entry) (a b : ℕ) → a ≡ t.section.written → b ≡ v.written → entries ≡ entries_of v
      → take (b - a) (drop a entries) ≡ written_back t.section v
  range entries a b from to is = range_is t.section v entries a b from to is same.entries

  -- that may be settled and counted off
  pub apart : (written : List Entry) → written ≡ written_back t.section v → AreApart (λ (x : Entry). x.key) written
  apart written are = subst (AreApart (λ (x : Entry). x.key)) (sym are)
      (written_apart t below it result v steps (goes_on t list waiting w (subst IsSome (sym under) refl)))

  pub dirty : (written : List Entry) → written ≡ written_back t.section v
      → (entry : Entry) → Contains written entry → IsDirtyBelow below t.index.dirty entry
  dirty written are entry has = written_dirty t below it result v steps entry (subst (λ (l : List Entry). Contains l entry) are has)

  module _ (written : List Entry) (are : written ≡ written_back t.section v) (index : IndexState) (settles : SettlesAll below written t.index index)
      (head : Head) (head_is : head ≡ t.section.head) where
    within : (entry : Entry) → Contains written entry → InRange t.section.head t.section.buckets (bucket_number t.section entry)
    within entry has = written_within t below it result v steps w.in_range entry (subst (λ (l : List Entry). Contains l entry) are has)

    pub count_in_range : (entry : Entry) → Contains written entry → InRange head (length waiting) (bucket_of head.total entry.key.score.0)
    count_in_range entry has =
        subst (λ (x : Head). InRange x (length waiting) (bucket_of x.total entry.key.score.0)) (sym head_is)
        (at_waiting (bucket_number t.section entry) (within entry has)).0

    -- how many of them a bucket has
    count : (n : ℕ) → count_by (λ (entry : Entry). bucket_of head.total entry.key.score.0 == n) written
        + count_by (λ (info : Info). bucket_of t.section.head.total info.key.score.0 == n) index.dirty ≡ dirty_in t n
    count n =
        ap (λ (x : Head). count_by (λ (entry : Entry). bucket_of x.total entry.key.score.0 == n) written
        + count_by (λ (info : Info). bucket_of t.section.head.total info.key.score.0 == n) index.dirty) head_is
        ∙ sym (counted below written t.index index settles t.section.head.total n)

    pub count_some : (entry : Entry) (n : ℕ) → Contains written entry → bucket_of head.total entry.key.score.0 ≡ n
        → count_by (λ (other : Entry). bucket_of head.total other.key.score.0 == n) written ≤ slice_index waiting (n - head.first)
    count_some entry n has number =
        let of : InRange t.section.head t.section.buckets n =
        subst (InRange t.section.head t.section.buckets) (ap (λ (x : Head). bucket_of x.total entry.key.score.0) (sym head_is) ∙ number) (within entry has) in
        let sum = count n in
        let value = ap (λ (x : Head). slice_index waiting (n - x.first)) head_is ∙ (at_waiting n of).1 in
        omega (arith, sum, value)

    -- and was
    pub counts_after : (counts : List ℕ)
        → ((n : ℕ) → InRange head (length waiting) n → slice_index counts (n - head.first)
        + count_by (λ (entry : Entry). bucket_of head.total entry.key.score.0 == n) written ≡ slice_index waiting (n - head.first))
        → length counts ≡ length waiting
        → (n : ℕ) → InRange v.head v.buckets n
        → slice_get counts (n - v.head.first) ≡ Some (count_by (λ (info : Info). bucket_of v.head.total info.key.score.0 == n) index.dirty)
    counts_after counts off len n has =
        let at = at_waiting n (back t.section v same n has) in
        let first = ap (λ (x : Head). x.first) head_is in
        let sum = count n in
        let was = ap (λ (x : Head). slice_index waiting (n - x.first)) head_is ∙ at.1 in
        let off_here = off n (subst (λ (x : Head). InRange x (length waiting) n) (sym head_is) at.0) in
        let value : slice_index counts (n - head.first) ≡ count_by (λ (info : Info). bucket_of t.section.head.total info.key.score.0 == n) index.dirty =
        omega (arith, off_here, sum, was) in
        ap (λ (k : ℕ). slice_get counts (n - k)) (first_same t.section v same ∙ sym first)
        ∙ slice_get-get_or counts (n - head.first) 0 (let low = at.0 in omega (arith, low, len, first))
        ∙ ap (λ (k : ℕ). Some k) (value ∙ ap (λ (k : ℕ). count_by (λ (info : Info). bucket_of k info.key.score.0 == n) index.dirty) (sym (total_same t.section v same)))

  -- the shard behind the step, whose section at rest hands the memory of the entries back
  module _ (less : OnOk result (calls_left v < calls_left t.section))
      (written : List Entry) (are : written ≡ written_back t.section v) (index : IndexState) (settled : SettlesAll below written t.index index)
      (bucket : Option ReadBucket) (counts : List ℕ) (entries : Option EntriesState) (writeback ended_at at other : Option ℕ)
      (rest : v.phase ≡ Rest → (entries ≡ None) × (writeback ≡ None) × (ended_at ≡ at))
      (on : v.phase ≢ Rest → (entries ≡ v.entries) × (writeback ≡ t.writeback) × (ended_at ≡ t.ended_at))
      (room : v.phase ≡ Rest → other ≡ option_map (λ (l : EntriesState). l.room) v.entries) where
    abbrev then : ShardState D
    then = record t {
      section = record v { entries = entries };
      index = index;
      bucket = bucket;
      writeback = writeback;
      ended_at = ended_at;
    }

    settles : SettlesAll below (written_back t.section v) t.index index
    settles = subst (λ (l : List Entry). SettlesAll below l t.index index) are settled

    few : length index.dirty ≤ length t.index.dirty
    few =
        let len : length (settles.settled ++ index.dirty) ≡ length t.index.dirty =
        length_permutation t.index.dirty (settles.settled ++ index.dirty) settles.dirty in
        let sum = length-append settles.settled index.dirty in
        omega (arith, len, sum)

    still : (P : Info → Type 0) → All P t.index.dirty → All P index.dirty
    still P all k d lt = All-contains P t.index.dirty (get_or index.dirty k d) all
        (fewer below (written_back t.section v) t.index index settles (get_or index.dirty k d) (Contains-get_or index.dirty k d lt))

    moved : (info : Info) → HasScore t info.key.score.0 → HasScore then info.key.score.0
    moved info has = subst (λ (n : ℕ). InRange v.head v.buckets (bucket_of n info.key.score.0)) (sym (total_same t.section v same))
        (forth t.section v same (bucket_of t.section.head.total info.key.score.0) has)

    goes : v.phase ≢ Rest → MatchOption writeback ⊥ (λ (b : ℕ). IsUnderWay then b)
    goes o =
        let it_is = on o in
        subst (λ (w : Option ℕ). MatchOption w ⊥ (λ (b : ℕ). IsUnderWay then b)) (sym (it_is.1 ∙ under))
        (subst (λ (e : Option EntriesState). IsUnderWay (record t {
          section = record v { entries = e };
          index = index;
          bucket = bucket;
          writeback = writeback;
          ended_at = ended_at;
        }) below) (sym it_is.0)
        (under_way_still t below it result v steps o less w.keys index settles bucket writeback ended_at))

    pub well_then : ((n : ℕ) → InRange v.head v.buckets n → slice_get counts (n - v.head.first) ≡ Some (dirty_in then n))
        → IsWell then other counts
    well_then counted = record {
      room = settles.room ∙ w.room;
      most = (let most = w.most in let less = few in omega (arith, most, less));
      keys = apart_after below (written_back t.section v) t.index index settles w.keys;
      in_range = λ k d lt. moved (get_or index.dirty k d) (still (λ (info : Info). HasScore t info.key.score.0) w.in_range k d lt);
      numbers = still (λ (info : Info). info.number < 2 ^ 64 - 1) w.numbers;
      counts = counted;
      rest = λ r. ((rest r).1, (rest r).0, list_back other (room r));
      under_way = goes;
    }
