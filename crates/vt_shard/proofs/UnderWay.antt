-- What a step of a writeback leaves under way.
use Rattle.std.proofs.Common.{◌≡◌, ◌≢◌, ◌⊎◌, inl, inr, ⊎_elim, ℕ, zero, suc, ◌+◌, ◌-◌, ◌*◌, ◌<◌, ◌≤◌, List, [], ◌∷◌, ◌++◌, length, take, drop, Option, Result, refl, sym, ◌∙◌, ap, subst, arith}
use Rattle.std.specs.Prelude.{◌↔◌, MatchOption, OnOk}
use Rattle.std.specs.List.{All, Contains}
use Rattle.std.specs.Option.{option_map_or}
use Rattle.std.proofs.lemmas.List.Elements.{All-contains, Contains-append_cases, Contains-append_right}
use Rattle.std.proofs.lemmas.Slice.{between_is}
use Rattle.lru.proofs.CallerLemmas.{Contains-take}
use Rattle.lru.proofs.Splits.{Contains-nil}
use Rattle.vt_base.specs.declared.key.Key.{Key}
use Rattle.vt_base.specs.declared.place.Entry.{Entry}
use Rattle.vt_base.specs.declared.place.Info.{Info}
use Rattle.vt_icache.specs.Index.{IndexState, entry_of}
use Rattle.vt_isect.specs.Entries.{EntriesState}
use Rattle.vt_isect.specs.Layout.{InRange}
use Rattle.vt_isect.specs.Section.{SectionState, PutsEntries, bucket_number, entries_of}
use Rattle.vt_isect.specs.Writeback.{SectionAdvances, BeginsBehind, calls_left}
use Rattle.vt_isect.specs.declared.error.ShardErr.{ShardErr}
use Rattle.vt_isect.specs.declared.phase.Phase.{Phase}
use Rattle.vt_isect.proofs.IsRead.{read_apart}
use Rattle.vt_isect.specs.declared.phase.Phase.TheVariants.{Rest, ReadSelector, ReadFrame, WriteFrame, SyncFrames, WriteSelector, SyncSelectors, ChangeHead}
use Rattle.vt_twin.specs.declared.step.Step.{Step}
use Rattle.vt_shard.specs.Shard.{ShardState, ReadBucket, HasScore, IsDirtyBelow, IsUnderWay}
use Rattle.vt_shard.specs.Writeback.{SettlesAll, written_back}
use Rattle.vt_shard.specs.declared.TheConstants.{ROOM}
use Rattle.vt_shard.proofs.IsFiling.{begins_filing}
use Rattle.vt_shard.proofs.IsWell.{rests}
use Rattle.vt_shard.proofs.KeepsPlace.{Stays, EndsGroup, SameEntries, ends_same, marks, stays, stays_few, steps_on}
use Rattle.vt_shard.proofs.Lists.{AreApart, apart_front, apart_parts}
use Rattle.vt_shard.proofs.Settles.{fewer, gone, went}

-- ---- parts of a list

pub drop_parts : {X : Type 0} (xs : List X) (a b : ℕ) → a ≤ b → drop a xs ≡ drop a (take b xs) ++ drop b xs
drop_parts [] zero zero le = refl
drop_parts [] zero (suc b) le = refl
drop_parts [] (suc a) zero le = refl
drop_parts [] (suc a) (suc b) le = refl
drop_parts (x ∷ xs) zero zero le = refl
drop_parts (x ∷ xs) zero (suc b) le = ap (λ l. x ∷ l) (drop_parts xs zero b (omega arith))
drop_parts (x ∷ xs) (suc a) zero le = absurd (omega (arith, le))
drop_parts (x ∷ xs) (suc a) (suc b) le = drop_parts xs a b (omega (arith, le))

-- nothing stands between a place and itself
pub none_between : {X : Type 0} (xs : List X) (a b : ℕ) → a ≡ b → drop a (take b xs) ≡ []
none_between xs a b same = subst (λ (n : ℕ). drop a (take n xs) ≡ []) same (at xs a)
  where
    at : {X : Type 0} (ys : List X) (n : ℕ) → drop n (take n ys) ≡ []
    at [] zero = refl
    at [] (suc n) = refl
    at (y ∷ ys) zero = refl
    at (y ∷ ys) (suc n) = at ys n

pub in_drop : {X : Type 0} (xs : List X) (a b : ℕ) (x : X) → Contains (drop a (take b xs)) x → Contains (drop a xs) x
in_drop xs zero b x it = Contains-take b xs x it
in_drop [] (suc a) zero x it = it
in_drop [] (suc a) (suc b) x it = it
in_drop (y ∷ xs) (suc a) zero x it = absurd (Contains-nil x it)
in_drop (y ∷ xs) (suc a) (suc b) x it = in_drop xs a b x it

pub drop_apart : {X : Type 0} (key : X → Key) (xs : List X) (n : ℕ) → AreApart key xs → AreApart key (drop n xs)
drop_apart key xs zero apart = apart
drop_apart key [] (suc n) apart = apart
drop_apart key (x ∷ xs) (suc n) apart =
    drop_apart key xs n (λ i j d lt within. apart (suc i) (suc j) d (omega (arith, lt)) (omega (arith, within)))

-- ---- the writeback

either : (p : Phase) → p ≢ Rest → PutsEntries p ⊎ (p ≡ ChangeHead)
either Rest on = absurd (on refl)
either ReadSelector on = inl tt
either (ReadFrame s) on = inl tt
either (WriteFrame s) on = inl tt
either SyncFrames on = inl tt
either (WriteSelector j) on = inl tt
either SyncSelectors on = inl tt
either ChangeHead on = inr refl

-- so many entries are written where the next ones begin
pub written_from : {D : Type 0} (from : ℕ) (v : SectionState D) → BeginsBehind from v → v.written ≡ from
written_from from v begins = ⊎_elim (λ group. group.1) (λ head. head.1) begins

-- what a step puts into a bucket
module _ {D : Type 0} (t : ShardState D) (below : ℕ) (it : IsUnderWay t below)
    (result : Result Step ShardErr) (v : SectionState D) (steps : SectionAdvances result t.section v) where
  within : t.section.phase ≢ Rest → t.section.written ≤ length (entries_of t.section)
  within was = ⊎_elim
      (λ (has : PutsEntries t.section.phase). let order = (it.filing has).order in omega (arith, order))
      (λ (head : t.section.phase ≡ ChangeHead). let b = it.behind head in omega (arith, b))
      (either t.section.phase was)

  pub steps_ahead : t.section.phase ≢ Rest → (t.section.written ≤ v.written) × (v.written ≤ length (entries_of t.section))
  steps_ahead was =
      let le = within was in ⊎_elim
      (λ (rest : v.phase ≡ Rest). let e = ends_same t.section v result rest was steps in (omega (arith, e), omega (arith, e, le)))
      (λ (on : v.phase ≢ Rest). ⊎_elim
      (λ (last : EndsGroup t.section v result).
      let order = (it.filing (subst PutsEntries (sym last.1) tt)).order in
      let e = written_from t.section.begun v last.2 in
      (omega (arith, e, order), omega (arith, e, order)))
      (λ (stay : SameEntries t.section v). let e = stay.written in (omega (arith, e), omega (arith, e, le)))
      (steps_on t.section v result on steps))
      (rests v.phase)

  pub written_dirty : (entry : Entry) → Contains (written_back t.section v) entry → IsDirtyBelow below t.index.dirty entry
  written_dirty entry has = (it.todo entry).0 (in_drop (entries_of t.section) t.section.written v.written entry has)

  pub written_apart : t.section.phase ≢ Rest → AreApart (λ (x : Entry). x.key) (written_back t.section v)
  written_apart was =
      apart_front (λ (x : Entry). x.key) (written_back t.section v) (drop v.written (entries_of t.section))
      (subst (AreApart (λ (x : Entry). x.key)) (drop_parts (entries_of t.section) t.section.written v.written (steps_ahead was).0)
      (drop_apart (λ (x : Entry). x.key) (entries_of t.section) t.section.written it.apart))

  pub written_within : All (λ (info : Info). HasScore t info.key.score.0) t.index.dirty
      → (entry : Entry) → Contains (written_back t.section v) entry → InRange t.section.head t.section.buckets (bucket_number t.section entry)
  written_within all entry has =
      let dirty = written_dirty entry has in
      subst (λ (e : Entry). HasScore t e.key.score.0) dirty.3
      (All-contains (λ (info : Info). HasScore t info.key.score.0) t.index.dirty dirty.0 all dirty.1)

module _ {D : Type 0} (t : ShardState D) (below : ℕ) (it : IsUnderWay t below)
    (result : Result Step ShardErr) (v : SectionState D) (steps : SectionAdvances result t.section v) (on : v.phase ≢ Rest)
    (less : OnOk result (calls_left v < calls_left t.section))
    (keys : AreApart (λ (x : Info). x.key) t.index.dirty)
    (index : IndexState) (settles : SettlesAll below (written_back t.section v) t.index index) where
  same : Stays t.section v
  same = stays t.section v result it.next steps

  entries_same : entries_of v ≡ entries_of t.section
  entries_same = ap (λ (o : Option EntriesState). option_map_or (λ list. list.items) o []) same.entries

  -- how far it came
  ahead : t.section.written ≤ v.written
  ahead = ⊎_elim
      (λ (last : EndsGroup t.section v result).
      let order = (it.filing (subst PutsEntries (sym last.1) tt)).order in
      let e = written_from t.section.begun v last.2 in
      omega (arith, e, order))
      (λ (stay : SameEntries t.section v). let e = stay.written in omega (arith, e))
      (steps_on t.section v result on steps)

  parts : drop t.section.written (entries_of t.section) ≡ written_back t.section v ++ drop v.written (entries_of t.section)
  parts = drop_parts (entries_of t.section) t.section.written v.written ahead

  parts_apart : AreApart (λ (x : Entry). x.key) (written_back t.section v ++ drop v.written (entries_of t.section))
  parts_apart = subst (AreApart (λ (x : Entry). x.key)) parts (drop_apart (λ (x : Entry). x.key) (entries_of t.section) t.section.written it.apart)

  still_todo : (entry : Entry) → Contains (drop v.written (entries_of t.section)) entry ↔ IsDirtyBelow below index.dirty entry
  still_todo entry = (
    λ has.
        let was = (it.todo entry).0 (subst (λ (l : List Entry). Contains l entry) (sym parts)
        (Contains-append_right (written_back t.section v) (drop v.written (entries_of t.section)) entry has)) in
        ⊎_elim
        (λ (stays_dirty : Contains index.dirty was.0). (was.0, stays_dirty, was.2, was.3))
        (λ (came : Contains (written_back t.section v) (entry_of was.0)).
        absurd (apart_parts (λ (x : Entry). x.key) (written_back t.section v) (drop v.written (entries_of t.section)) entry entry parts_apart
        (subst (Contains (written_back t.section v)) was.3 came) has refl))
        (gone below (written_back t.section v) t.index index settles was.0 was.1),
    λ dirty.
        let was = fewer below (written_back t.section v) t.index index settles dirty.0 dirty.1 in
        let todo = (it.todo entry).1 (dirty.0, was, dirty.2, dirty.3) in
        ⊎_elim
        (λ (came : Contains (written_back t.section v) entry).
        absurd (went below (written_back t.section v) t.index index settles keys dirty.0 entry dirty.1 came
        (ap (λ (x : Entry). x.key) (sym dirty.3))))
        (λ (has : Contains (drop v.written (entries_of t.section)) entry). has)
        (Contains-append_cases (written_back t.section v) (drop v.written (entries_of t.section)) entry
        (subst (λ (l : List Entry). Contains l entry) parts todo)),
  )

  pub under_way_still : (bucket : Option ReadBucket) (writeback ended_at : Option ℕ)
      → IsUnderWay (record t { section = v; index = index; bucket = bucket; writeback = writeback; ended_at = ended_at }) below
  under_way_still bucket writeback ended_at = record {
    filed = it.filed;
    next = same.next;
    rises = (marks t.section v result it.rises steps).1;
    todo = λ entry. subst (λ (l : List Entry). Contains (drop v.written l) entry ↔ IsDirtyBelow below index.dirty entry) (sym entries_same) (still_todo entry);
    apart = subst (AreApart (λ (x : Entry). x.key)) (sym entries_same) it.apart;
    filing = λ has. ⊎_elim
        (λ (last : EndsGroup t.section v result). ⊎_elim
        (λ next. begins_filing v t.section.begun next)
        (λ head. absurd (subst PutsEntries head.0 has))
        last.2)
        (λ (stay : SameEntries t.section v). stay.filing has (it.filing (stay.puts has)))
        (steps_on t.section v result on steps);
    behind = λ head_phase. ⊎_elim
        (λ (last : EndsGroup t.section v result). ⊎_elim
        (λ next. absurd (read_apart v.phase next.0.0 head_phase))
        (λ head. head.1 ∙ sym head.3)
        last.2)
        (λ (stay : SameEntries t.section v). stay.written ∙ it.behind (stay.head head_phase) ∙ ap length (sym entries_same))
        (steps_on t.section v result on steps);
    list = subst (λ (o : Option EntriesState). MatchOption o ⊥ (λ list. ROOM ≤ list.room)) (sym same.entries) it.list;
    left = stays_few t.section v result (6 * ROOM + 4) (omega arith) it.left less steps;
  }

-- what the step wrote, as a range of the entries gives it
pub range_is : {D : Type 0} (t v : SectionState D) (list : List Entry) (a b : ℕ) → a ≡ t.written → b ≡ v.written
    → list ≡ entries_of v → v.entries ≡ t.entries → take (b - a) (drop a list) ≡ written_back t v
range_is t v list a b from to is same =
    between_is list a b
    ∙ ap (λ (l : List Entry). drop a (take b l)) (is ∙ ap (λ (o : Option EntriesState). option_map_or (λ e. e.items) o []) same)
    ∙ ap (λ (n : ℕ). drop n (take b (entries_of t))) from
    ∙ ap (λ (n : ℕ). drop t.written (take n (entries_of t))) to
