-- What a step of a writeback makes of a shard.
use Rattle.std.proofs.Common.{◌≡◌, ◌≢◌, ⊎_elim, ℕ, ◌<◌, List, [], ◌∷◌, length, take, drop, Option, Some, None, Result, Ok, Err, refl, sym, ◌∙◌, ap, subst}
use Rattle.std.specs.Prelude.{◌↔◌, IsSome, IfOk, OnOk}
use Rattle.std.specs.List.{Contains}
use Rattle.lru.proofs.Splits.{Contains-nil}
use Rattle.vt_base.specs.declared.place.Entry.{Entry}
use Rattle.vt_icache.specs.Index.{IndexState, entry_of}
use Rattle.vt_isect.specs.Entries.{EntriesState}
use Rattle.vt_isect.specs.Section.{SectionState, HasGroup, bucket_number, bucket_under_way, entries_of}
use Rattle.vt_isect.specs.Writeback.{SectionAdvances, Completes, WritesEntryBack, calls_left, most_calls}
use Rattle.vt_isect.specs.declared.error.ShardErr.{ShardErr}
use Rattle.vt_isect.specs.declared.error.ShardErr.TheVariants.{Stopped}
use Rattle.vt_isect.specs.declared.phase.Phase.{Phase}
use Rattle.vt_isect.specs.declared.phase.Phase.TheVariants.{Rest, ReadSelector, ReadFrame, WriteFrame, SyncFrames, WriteSelector, SyncSelectors, ChangeHead}
use Rattle.vt_model.specs.Places.{bucket_of}
use Rattle.vt_twin.specs.Twin.{twin_calls_made}
use Rattle.vt_twin.specs.declared.step.Step.{Step}
use Rattle.vt_twin.specs.declared.step.Step.TheVariants.{Done}
use Rattle.vt_shard.specs.Shard.{ShardState, ReadBucket, HasBelow, IsUnderWay}
use Rattle.vt_shard.specs.Writeback.{SettlesAll, ShardTakesStep, PutsIntoBucket, without_list, written_back}
use Rattle.vt_shard.proofs.IsWell.{rests}
use Rattle.vt_shard.proofs.KeepsPlace.{Stays, stays, marks, completes_begins}
use Rattle.vt_shard.proofs.UnderWay.{none_between, written_from}

put_on : {D : Type 0} (p : Phase) (v : SectionState D) → p ≢ Rest → v ≡ without_list p v
put_on Rest v on = absurd (on refl)
put_on ReadSelector v on = refl
put_on (ReadFrame s) v on = refl
put_on (WriteFrame s) v on = refl
put_on SyncFrames v on = refl
put_on (WriteSelector j) v on = refl
put_on SyncSelectors v on = refl
put_on ChangeHead v on = refl

none_left : {X : Type 0} (xs : List X) (a : ℕ) → a ≡ length xs → drop a xs ≡ []
none_left xs a is = subst (λ (n : ℕ). drop n xs ≡ []) (sym is) (all xs)
  where
    all : {X : Type 0} (ys : List X) → drop (length ys) ys ≡ []
    all [] = refl
    all (y ∷ ys) = all ys

-- the bucket that was read last, where it may be one that has some of these entries now
module _ {D : Type 0} (t : ShardState D) (v : SectionState D) (written : List Entry) (are : written ≡ written_back t.section v)
    (total : ℕ) (total_is : total ≡ t.section.head.total) (bucket : Option ReadBucket)
    (dropped : (read : ReadBucket) (entry : Entry) → t.bucket ≡ Some read → Contains written entry
    → bucket_of total entry.key.score.0 ≡ read.number → bucket ≡ None)
    (kept : ((read : ReadBucket) (entry : Entry) → t.bucket ≡ Some read → Contains written entry
    → bucket_of total entry.key.score.0 ≢ read.number) → bucket ≡ t.bucket) where
  number_is : (entry : Entry) → bucket_of total entry.key.score.0 ≡ bucket_number t.section entry
  number_is entry = ap (λ (k : ℕ). bucket_of k entry.key.score.0) total_is

  forgets_read : (read : ReadBucket) → t.bucket ≡ Some read → PutsIntoBucket t.section v read.number → bucket ≡ None
  forgets_read read has writes = dropped read writes.0 has
      (subst (λ (l : List Entry). Contains l writes.0) (sym are) writes.1) (number_is writes.0 ∙ writes.2)

  forgets_none : ((read : ReadBucket) → t.bucket ≡ Some read → ¬ PutsIntoBucket t.section v read.number) → bucket ≡ t.bucket
  forgets_none none = kept (λ read entry has came number. none read has
      (entry, subst (λ (l : List Entry). Contains l entry) are came, sym (number_is entry) ∙ number))

  pub forgets_other : (read : ReadBucket) → bucket ≡ Some read → (t.bucket ≡ Some read) × (¬ PutsIntoBucket t.section v read.number)
  forgets_other read is = by t.bucket refl
    where
      clash : (o : Option ReadBucket) (x : ReadBucket) → o ≡ None → o ≡ Some x → ⊥
      clash o x none some = cc

      one_read : (a b : ReadBucket) → Some a ≡ Some b → a ≡ b
      one_read a b e = cc

      by : (o : Option ReadBucket) → t.bucket ≡ o → (t.bucket ≡ Some read) × (¬ PutsIntoBucket t.section v read.number)
      by None was = absurd (clash bucket read (kept (λ other entry has. absurd (clash t.bucket other was has)) ∙ was) is)
      by (Some b) was =
          let not : ¬ PutsIntoBucket t.section v b.number = λ writes. clash bucket read (forgets_read b was writes) is in
          let still : bucket ≡ t.bucket =
          forgets_none (λ x has writes. not (subst (λ (r : ReadBucket). PutsIntoBucket t.section v r.number) (sym (one_read b x (sym was ∙ has))) writes)) in
          let before : t.bucket ≡ Some read = sym still ∙ is in (
            before,
            λ writes. not (subst (λ (r : ReadBucket). PutsIntoBucket t.section v r.number) (sym (one_read b read (sym was ∙ before))) writes),
          )

module _ {D : Type 0} (t : ShardState D) (below : ℕ) (under : t.writeback ≡ Some below) (it : IsUnderWay t below)
    (result : Result Step ShardErr) (v : SectionState D) (steps : SectionAdvances result t.section v)
    (done : IfOk result (λ step. (step ≡ Done) ↔ ((t.section.phase ≡ ChangeHead) × (twin_calls_made t.section.head_twin ≡ 3))))
    (left : OnOk result (calls_left v < calls_left t.section))
    (stopped : (n : ℕ) → (result ≡ Err (Stopped n)) ↔ (t.section.stopped ≡ Some n))
    (untouched : IsSome t.section.stopped → v ≡ t.section) where
  same : Stays t.section v
  same = stays t.section v result it.next steps

  one : (other : ℕ) → t.writeback ≡ Some other → below ≡ other
  one other is = some_one below other (sym under ∙ is)
    where
      some_one : (a b : ℕ) → Some a ≡ Some b → a ≡ b
      some_one a b e = cc

  nothing : v.written ≡ t.section.written → written_back t.section v ≡ []
  nothing equal = none_between (entries_of t.section) t.section.written v.written (sym equal)

  no_write : v.written ≡ t.section.written → (n : ℕ) → ¬ PutsIntoBucket t.section v n
  no_write equal n writes = Contains-nil writes.0 (subst (λ (l : List Entry). Contains l writes.0) (nothing equal) writes.1)

  none_dirty : t.section.phase ≡ ChangeHead → ¬ HasBelow below t.index.dirty
  none_dirty head has =
      Contains-nil (entry_of has.0) (subst (λ (l : List Entry). Contains l (entry_of has.0))
      (none_left (entries_of t.section) t.section.written (it.behind head))
      ((it.todo (entry_of has.0)).1 (has.0, has.1, has.2, refl)))

  put_rest : (p : Phase) → p ≡ Rest → record v { entries = None } ≡ without_list p v
  put_rest Rest is = refl
  put_rest ReadSelector is = cc
  put_rest (ReadFrame s) is = cc
  put_rest (WriteFrame s) is = cc
  put_rest SyncFrames is = cc
  put_rest (WriteSelector j) is = cc
  put_rest SyncSelectors is = cc
  put_rest ChangeHead is = cc

  fewer_left : (r : Result Step ShardErr) → v.phase ≡ Rest → OnOk r (calls_left v < calls_left t.section)
      → OnOk r (calls_left (record v { entries = None }) < calls_left t.section)
  fewer_left (Ok step) rest less =
      subst (λ (p : Phase). most_calls p (record v { entries = None }) < calls_left t.section) (sym rest)
      (let was : most_calls Rest v < calls_left t.section = subst (λ (p : Phase). most_calls p v < calls_left t.section) rest less in was)
  fewer_left (Err bad) rest less = less

  -- the shard behind the step, of which at rest the list is taken back
  module _ (was : t.section.phase ≢ Rest) (written : List Entry) (are : written ≡ written_back t.section v)
      (index : IndexState) (settles : SettlesAll below written t.index index) (none : written ≡ [] → index ≡ t.index)
      (total : ℕ) (total_is : total ≡ t.section.head.total) (bucket : Option ReadBucket)
      (dropped : (read : ReadBucket) (entry : Entry) → t.bucket ≡ Some read → Contains written entry
      → bucket_of total entry.key.score.0 ≡ read.number → bucket ≡ None)
      (kept : ((read : ReadBucket) (entry : Entry) → t.bucket ≡ Some read → Contains written entry
      → bucket_of total entry.key.score.0 ≢ read.number) → bucket ≡ t.bucket)
      (entries : Option EntriesState) (writeback ended_at : Option ℕ)
      (rest : v.phase ≡ Rest → (entries ≡ None) × (writeback ≡ None) × (ended_at ≡ bucket_under_way t.section.phase t.section.bucket))
      (on : v.phase ≢ Rest → (entries ≡ v.entries) × (writeback ≡ t.writeback) × (ended_at ≡ t.ended_at)) where
    idle : v.written ≡ t.section.written → index ≡ t.index
    idle equal = none (are ∙ nothing equal)

    not_read : ((read : ReadBucket) → t.bucket ≡ Some read → ¬ PutsIntoBucket t.section v read.number) → bucket ≡ t.bucket
    not_read = forgets_none t v written are total total_is bucket dropped kept

    by_phase : (P : Option EntriesState → Type 0) → (v.phase ≡ Rest → P None) → (v.phase ≢ Rest → P v.entries) → P entries
    by_phase P at_rest goes = ⊎_elim
        (λ (r : v.phase ≡ Rest). subst P (sym (rest r).0) (at_rest r))
        (λ (o : v.phase ≢ Rest). subst P (sym (on o).0) (goes o))
        (rests v.phase)

    pub takes : ShardTakesStep result t
        (record t { section = record v { entries = entries }; index = index; bucket = bucket; writeback = writeback; ended_at = ended_at })
    takes = record {
      advances = record {
        section = (
          v,
          steps,
          by_phase (λ (e : Option EntriesState). record v { entries = e } ≡ without_list v.phase v)
              (put_rest v.phase) (put_on v.phase v),
        );
        ends = λ r. (rest r).1;
        goes_on = λ o. (on o).1;
        ended_at = λ r. (rest r).2;
        not_ended = λ o. (on o).2;
        read = forgets_read t v written are total total_is bucket dropped kept;
        kept = not_read;
        filed = refl;
        lumps = refl;
      };
      settles = λ other is. subst (λ (b : ℕ). SettlesAll b (written_back t.section v) t.index index) (one other is)
          (subst (λ (l : List Entry). SettlesAll below l t.index index) are settles);
      idle = idle;
      done = done;
      filed = λ other is writeback.
          let last = subst (λ (r : Result Step ShardErr). SectionAdvances r t.section v) is steps in
          subst (λ (b : ℕ). ¬ HasBelow b index.dirty) (one other writeback)
          (subst (λ (i : IndexState). ¬ HasBelow below i.dirty) (sym (idle last.2.written)) (none_dirty last.0));
      left = by_phase (λ (e : Option EntriesState). OnOk result (calls_left (record v { entries = e }) < calls_left t.section))
          (λ r. fewer_left result r left) (λ o. left);
      stopped = stopped;
      untouched = λ some.
          let section_is : v ≡ t.section = untouched some in
          let same = on (λ r. was (sym (ap (λ (x : SectionState D). x.phase) section_is) ∙ r)) in
          let equal : v.written ≡ t.section.written = ap (λ (x : SectionState D). x.written) section_is in
          let index_is : index ≡ t.index = idle equal in
          let bucket_is : bucket ≡ t.bucket = not_read (λ b has. no_write equal b.number) in
          let entries_is : entries ≡ t.section.entries = same.0 ∙ ap (λ (x : SectionState D). x.entries) section_is in
          λ i. record t {
            section = record (section_is i) { entries = entries_is i };
            index = index_is i;
            bucket = bucket_is i;
            writeback = same.1 i;
            ended_at = same.2 i;
          };
      place = record { name = same.name; buckets = same.buckets; head = same.head; mark = (marks t.section v result it.rises steps).0 };
    }

-- at least one entry is written to a bucket that is completed
pub some_written : {D : Type 0} (t : ShardState D) (below : ℕ) (it : IsUnderWay t below)
    (result : Result Step ShardErr) (v : SectionState D) (steps : SectionAdvances result t.section v)
    → (n : ℕ) → Completes result t.section n
    → (entry : Entry) × WritesEntryBack t.section v entry × (bucket_number t.section entry ≡ n)
some_written t below it result v steps n completes =
    let filing = it.filing completes.2.1.0 in
    let one = filing.group completes.2.0 completes.2.1.1 in
    let last : v.written ≡ t.section.framed =
    written_from t.section.begun v (completes_begins t.section v result n completes steps)
    ∙ sym (filing.whole (subst HasGroup (sym completes.1) tt)) in (
      one.0,
      subst (λ (k : ℕ). Contains (drop t.section.written (take k (entries_of t.section))) one.0) (sym last) one.1,
      one.2 ∙ completes.2.1.2,
    )
