-- A disk stays sound for a shard through a step of its writeback.
use Rattle.std.proofs.Common.{◌≡◌, ◌≢◌, ◌⊎◌, inl, inr, ⊎_elim, ℕ, ◌≤◌, List, take, Option, Some, None, Result, refl, sym, ◌∙◌, ap, subst}
use Rattle.std.specs.Prelude.{◌↔◌}
use Rattle.std.specs.List.{Contains}
use Rattle.vt_base.specs.declared.place.Entry.{Entry}
use Rattle.vt_base.specs.declared.place.Info.{Info}
use Rattle.vt_disk.specs.Members.{DiskOf}
use Rattle.vt_icache.specs.Index.{IndexState, entry_of}
use Rattle.vt_isect.specs.Agreement.{IsEntryOfBlock, HasBlock, IsInBucket, KnownAgrees}
use Rattle.vt_isect.specs.Entries.{EntriesState}
use Rattle.vt_isect.specs.Layout.{InRange}
use Rattle.vt_isect.specs.Merging.{HasKey}
use Rattle.vt_isect.specs.Section.{SectionState, IsOfGroup, IsTodo, bucket_number, entries_of}
use Rattle.vt_isect.specs.Sound.{KnownBuckets, DiskHolds}
use Rattle.vt_isect.specs.Writeback.{SectionAdvances, Completes, Follows, KeepsDiskSound, WritesEntryBack}
use Rattle.vt_isect.specs.declared.error.ShardErr.{ShardErr}
use Rattle.vt_isect.specs.declared.phase.Phase.TheVariants.{Rest}
use Rattle.vt_isect.proofs.Crowd.{one_entry}
use Rattle.vt_isect.proofs.KnownAgrees.{agrees_idle}
use Rattle.vt_isect.proofs.WithinCall.{completes_or}
use Rattle.vt_model.specs.History.{History}
use Rattle.vt_model.specs.Places.{Setup, bucket_of}
use Rattle.vt_twin.specs.declared.step.Step.{Step}
use Rattle.vt_shard.specs.Shard.{ShardState, ReadBucket, IsDirty, IsUnderWay, IsWell, bucket_at}
use Rattle.vt_shard.specs.Sound.{IsBucketOf, IsEntryFiled, IsSoundFrom}
use Rattle.vt_shard.specs.Writeback.{SettlesAll, written_back}
use Rattle.vt_shard.proofs.Blocks.{of_block_of_front, its_bucket}
use Rattle.vt_shard.proofs.IsSoundFrom.{known_at}
use Rattle.vt_shard.proofs.IsWell.{rests, under_way_of}
use Rattle.vt_shard.proofs.KeepsPlace.{Stays, stays, first_same, total_same, state_same, back, forth}
use Rattle.vt_shard.proofs.Mounted.{holds_idle}
use Rattle.vt_shard.proofs.Settles.{fewer, gone, went, clean_from}
use Rattle.vt_shard.proofs.TakesStep.{forgets_other, some_written}
use Rattle.vt_shard.proofs.UnderWay.{in_drop, written_within}

-- What the step put into its bucket may be clean and isn't dirty any more, and the rest is as it
-- was, but that a bucket that was read is forgotten where the step put something into it.
pub record MovesOn {D : Type 0} (t : ShardState D) (v : SectionState D) (index : IndexState) (bucket : Option ReadBucket)
    : Type 0 where
  pub fewer : (info : Info) → Contains index.dirty info → Contains t.index.dirty info
  pub gone : (info : Info) → Contains t.index.dirty info
      → Contains index.dirty info ⊎ WritesEntryBack t.section v (entry_of info)
  pub went : (info : Info) (entry : Entry) → Contains index.dirty info → WritesEntryBack t.section v entry → entry.key ≢ info.key
  pub clean : (entry : Entry) → Contains index.clean entry → Contains t.index.clean entry ⊎ WritesEntryBack t.section v entry
  pub read : (read : ReadBucket) → bucket ≡ Some read → (t.bucket ≡ Some read)
      × ((entry : Entry) → WritesEntryBack t.section v entry → bucket_number t.section entry ≢ read.number)

module _ {D : Type 0} (score : List ℕ → List ℕ) (c : Setup) (disk : DiskOf D) (t : ShardState D) (h : History) (durable from : ℕ)
    (s : IsSoundFrom score c disk t h durable from)
    (result : Result Step ShardErr) (v : SectionState D) (steps : SectionAdvances result t.section v)
    (keeps : KeepsDiskSound disk result t.section v)
    (wrote : (entry : Entry) → WritesEntryBack t.section v entry
    ↔ (Completes result t.section (bucket_number t.section entry) × IsOfGroup t.section (bucket_number t.section entry) entry))
    (some : (n : ℕ) → Completes result t.section n → (entry : Entry) × WritesEntryBack t.section v entry × (bucket_number t.section entry ≡ n))
    (within : (entry : Entry) → WritesEntryBack t.section v entry → InRange t.section.head t.section.buckets (bucket_number t.section entry))
    (index : IndexState) (bucket : Option ReadBucket) (writeback ended_at : Option ℕ) (moves : MovesOn t v index bucket) where
  abbrev pub stepped : SectionState D → ShardState D
  stepped section = record t { section = section; index = index; bucket = bucket; writeback = writeback; ended_at = ended_at }

  same : Stays t.section v
  same = stays t.section v result s.next steps

  one_list : (a b : List Entry) → Some a ≡ Some b → a ≡ b
  one_list a b e = cc

  -- an entry that was put into a bucket is that of a block
  of_written : (entry : Entry) → WritesEntryBack t.section v entry → IsEntryOfBlock score c h entry
  of_written entry it =
      let done = (wrote entry).0 it in
      let todo : IsTodo t.section entry = (
        done.0.2.1.0,
        in_drop (entries_of t.section) t.section.written v.written entry it,
      ) in
      of_block_of_front score c h durable entry (s.agrees.todo entry todo)

  module _ (knows : KnownBuckets) (follows : Follows result t.section v s.known knows)
      (later : KnownAgrees score c (take durable h) v knows) where
    -- an entry that was in its bucket, or came into it, is there
    still_there : (n : ℕ) (entry : Entry) (old : List Entry) → InRange t.section.head t.section.buckets n → s.known n ≡ Some old
        → IsEntryOfBlock score c h entry → bucket_number t.section entry ≡ n → (Contains old entry ⊎ WritesEntryBack t.section v entry)
        → (entries : List Entry) × (knows n ≡ Some entries) × Contains entries entry
    still_there n entry old within was of at there = ⊎_elim
        (λ (done : Completes result t.section n).
        let new = follows.merged n old (first_same t.section v same) done was in
        let put : (Contains old entry ⊎ IsOfGroup t.section n entry) → (entries : List Entry) × (knows n ≡ Some entries) × Contains entries entry = λ it.
        let other = new.2.keeps entry it in
        let its = of_block_of_front score c h durable other.0 (later.blocks n new.0 other.0 (forth t.section v same n within) new.1 other.1).0 in
        let is_one = one_entry score c h its.0 of.0 other.0 entry s.keys its.1 of.1 other.2 in
        (new.0, new.1, subst (Contains new.0) is_one.1 other.1) in
        ⊎_elim (λ (has : Contains old entry). put (inl has)) (λ (came : WritesEntryBack t.section v entry). put (inr (((wrote entry).0 came).1.0, at))) there)
        (λ (not_done : ¬ Completes result t.section n). (
          old,
          follows.kept n (first_same t.section v same) not_done ∙ was,
          ⊎_elim
              (λ (has : Contains old entry). has)
              (λ (came : WritesEntryBack t.section v entry).
              absurd (not_done (subst (λ (k : ℕ). Completes result t.section k) at ((wrote entry).0 came).0)))
              there,
        ))
        (completes_or result t.section n)

    has_still : (n i : ℕ) (entries : List Entry) → InRange v.head v.buckets n → knows n ≡ Some entries → from ≤ i → IsInBucket score c h n i
        → HasBlock score c h (λ entry. Contains entries entry ⊎ IsDirty (stepped v) entry) i
    has_still n i entries within is le at =
        let here = back t.section v same n within in
        let old = known_at score c disk t h durable from s n here in
        let it = s.has n i old.0 here old.1 le at in
        let number : bucket_number t.section it.0 ≡ n =
        ap (λ (k : ℕ). bucket_of k it.0.key.score.0) s.agrees.total ∙ its_bucket score c h n i it.0 it.2 at in
        let found : (Contains old.0 it.0 ⊎ WritesEntryBack t.section v it.0)
        → HasBlock score c h (λ entry. Contains entries entry ⊎ IsDirty (stepped v) entry) i = λ there.
        let now = still_there n it.0 old.0 here old.1 (i, it.2) number there in
        let same_list : now.0 ≡ entries = one_list now.0 entries (sym now.1 ∙ is) in
        (it.0, inl (subst (λ (l : List Entry). Contains l it.0) same_list now.2), it.2) in
        ⊎_elim
        (λ (has : Contains old.0 it.0). found (inl has))
        (λ (dirty : IsDirty t it.0). ⊎_elim
        (λ (stays_dirty : Contains index.dirty dirty.0). (it.0, inr (dirty.0, stays_dirty, dirty.2), it.2))
        (λ (came : WritesEntryBack t.section v (entry_of dirty.0)).
        found (inr (subst (λ (e : Entry). WritesEntryBack t.section v e) dirty.2 came)))
        (moves.gone dirty.0 dirty.1))
        it.1

    clean_still : (entry : Entry) → Contains index.clean entry → IsEntryFiled (stepped v) knows entry
    clean_still entry it =
        let made : (n : ℕ) → bucket_number t.section entry ≡ n → InRange t.section.head t.section.buckets n
        → (entries : List Entry) × (knows n ≡ Some entries) × Contains entries entry → IsEntryFiled (stepped v) knows entry = λ n number within now.
        let number_is : n ≡ bucket_of v.head.total entry.key.score.0 =
        sym number ∙ ap (λ (k : ℕ). bucket_of k entry.key.score.0) (sym (total_same t.section v same)) in
        record {
          in_range = subst (λ (k : ℕ). InRange v.head v.buckets k) number_is (forth t.section v same n within);
          entries = now.0;
          known_is = ap knows (sym number_is) ∙ now.1;
          has = now.2;
        } in
        ⊎_elim
        (λ (was : Contains t.index.clean entry).
        let filed = s.clean entry was in
        let of = of_block_of_front score c h durable entry (s.agrees.blocks _ filed.entries entry filed.in_range filed.known_is filed.has).0 in
        made _ refl filed.in_range (still_there _ entry filed.entries filed.in_range filed.known_is of refl (inl filed.has)))
        (λ (came : WritesEntryBack t.section v entry).
        let in_range = within entry came in
        let old = known_at score c disk t h durable from s _ in_range in
        made _ refl in_range (still_there _ entry old.0 in_range old.1 (of_written entry came) refl (inr came)))
        (moves.clean entry it)

    unfiled_still : (info : Info) (entries : List Entry) → Contains index.dirty info → IsBucketOf (stepped v) knows info.key entries
        → ¬ HasKey (Contains entries) info.key
    unfiled_still info entries it is has =
        let n = bucket_at t info.key.score.0 in
        let number : bucket_of v.head.total info.key.score.0 ≡ n = ap (λ (k : ℕ). bucket_of k info.key.score.0) (total_same t.section v same) in
        let known_is : knows n ≡ Some entries = ap knows (sym number) ∙ is in
        ⊎_elim
        (λ (done : Completes result t.section n).
        let one = some n done in
        let old = known_at score c disk t h durable from s n (subst (λ (k : ℕ). InRange t.section.head t.section.buckets k) one.2 (within one.0 one.1)) in
        let new = follows.merged n old.0 (first_same t.section v same) done old.1 in
        let same_list : entries ≡ new.0 = one_list entries new.0 (sym known_is ∙ new.1) in
        ⊎_elim
        (λ (group : IsOfGroup t.section n has.0).
        moves.went info has.0 it
        ((wrote has.0).1 (subst (λ (k : ℕ). Completes result t.section k) (sym group.1) done, (group.0, refl))) has.2)
        (λ (kept : Contains old.0 has.0 × ¬ HasKey (IsOfGroup t.section n) has.0.key).
        s.unfiled info old.0 (moves.fewer info it) old.1 (has.0, kept.0, has.2))
        (new.2.from has.0 (subst (λ (l : List Entry). Contains l has.0) same_list has.1)))
        (λ (not_done : ¬ Completes result t.section n).
        s.unfiled info entries (moves.fewer info it) (sym (follows.kept n (first_same t.section v same) not_done) ∙ known_is) has)
        (completes_or result t.section n)

    bucket_still : (read : ReadBucket) → bucket ≡ Some read → knows read.number ≡ Some read.entries
    bucket_still read is =
        let it = moves.read read is in
        ⊎_elim
        (λ (done : Completes result t.section read.number). let one = some read.number done in absurd (it.1 one.0 one.1 one.2))
        (λ (not_done : ¬ Completes result t.section read.number).
        follows.kept read.number (first_same t.section v same) not_done ∙ s.bucket read it.0)
        (completes_or result t.section read.number)

    pub step_sound : DiskHolds disk v knows → IsSoundFrom score c disk (stepped v) h durable from
    step_sound holds = record {
      keys = s.keys;
      durable_fits = s.durable_fits;
      known = knows;
      section = holds;
      agrees = later;
      live = state_same t.section v same ∙ s.live;
      next = same.next;
      filed = s.filed;
      has = has_still;
      dirty = λ info it. s.dirty info (moves.fewer info it);
      unfiled = unfiled_still;
      clean = clean_still;
      bucket = bucket_still;
      lumps = s.lumps;
    }

  pub stays_sound : IsSoundFrom score c disk (stepped v) h durable from
  stays_sound =
      let it = keeps s.known s.section in
      step_sound it.0 it.1 (it.3 score c (take durable h) s.agrees) it.2

-- ---- behind the step

module _ {D : Type 0} (score : List ℕ → List ℕ) (c : Setup) (disk : DiskOf D) (t : ShardState D) (h : History) (durable from : ℕ)
    (s : IsSoundFrom score c disk t h durable from) (list : Option ℕ) (waiting : List ℕ) (w : IsWell t list waiting)
    (below : ℕ) (under : t.writeback ≡ Some below)
    (result : Result Step ShardErr) (v : SectionState D) (steps : SectionAdvances result t.section v)
    (keeps : KeepsDiskSound disk result t.section v)
    (wrote : (entry : Entry) → WritesEntryBack t.section v entry
    ↔ (Completes result t.section (bucket_number t.section entry) × IsOfGroup t.section (bucket_number t.section entry) entry)) where
  it : IsUnderWay t below
  it = under_way_of t list waiting w below under

  each : (entry : Entry) → WritesEntryBack t.section v entry → InRange t.section.head t.section.buckets (bucket_number t.section entry)
  each entry came = written_within t below it result v steps w.in_range entry came

  one : (n : ℕ) → Completes result t.section n → (entry : Entry) × WritesEntryBack t.section v entry × (bucket_number t.section entry ≡ n)
  one n completes = some_written t below it result v steps n completes

  -- the disk is sound with the section as it is then, of which at rest the list is taken back
  module _ (written : List Entry) (are : written ≡ written_back t.section v) (index : IndexState) (settled : SettlesAll below written t.index index)
      (total : ℕ) (total_is : total ≡ t.section.head.total) (bucket : Option ReadBucket)
      (dropped : (read : ReadBucket) (entry : Entry) → t.bucket ≡ Some read → Contains written entry
      → bucket_of total entry.key.score.0 ≡ read.number → bucket ≡ None)
      (kept : ((read : ReadBucket) (entry : Entry) → t.bucket ≡ Some read → Contains written entry
      → bucket_of total entry.key.score.0 ≢ read.number) → bucket ≡ t.bucket)
      (writeback ended_at : Option ℕ) where
    settles : SettlesAll below (written_back t.section v) t.index index
    settles = subst (λ (l : List Entry). SettlesAll below l t.index index) are settled

    abbrev pub then : Option EntriesState → ShardState D
    then entries = record t {
      section = record v { entries = entries };
      index = index;
      bucket = bucket;
      writeback = writeback;
      ended_at = ended_at;
    }

    moves : MovesOn t v index bucket
    moves = record {
      fewer = fewer below (written_back t.section v) t.index index settles;
      gone = gone below (written_back t.section v) t.index index settles;
      went = went below (written_back t.section v) t.index index settles w.keys;
      clean = clean_from below (written_back t.section v) t.index index settles;
      read = λ read is.
          let was = forgets_other t v written are total total_is bucket dropped kept read is in
          (was.0, λ entry came number. was.1 (entry, came, number));
    }

    at : IsSoundFrom score c disk (then v.entries) h durable from
    at = stays_sound score c disk t h durable from s result v steps keeps wrote one each index bucket writeback ended_at moves

    at_rest : v.phase ≡ Rest → IsSoundFrom score c disk (then None) h durable from
    at_rest rest = record {
      keys = at.keys;
      durable_fits = at.durable_fits;
      known = at.known;
      section = holds_idle disk v at.known rest at.section;
      agrees = agrees_idle score c (take durable h) v at.known rest at.agrees;
      live = at.live;
      next = at.next;
      filed = at.filed;
      has = at.has;
      dirty = at.dirty;
      unfiled = at.unfiled;
      clean = λ entry has.
          let filed = at.clean entry has in
          record { in_range = filed.in_range; entries = filed.entries; known_is = filed.known_is; has = filed.has };
      bucket = at.bucket;
      lumps = at.lumps;
    }

    pub sound_then : (entries : Option EntriesState) → (v.phase ≡ Rest → entries ≡ None) → (v.phase ≢ Rest → entries ≡ v.entries)
        → IsSoundFrom score c disk (then entries) h durable from
    sound_then entries rest on = ⊎_elim
        (λ (r : v.phase ≡ Rest). subst (λ (e : Option EntriesState). IsSoundFrom score c disk (then e) h durable from) (sym (rest r)) (at_rest r))
        (λ (o : v.phase ≢ Rest). subst (λ (e : Option EntriesState). IsSoundFrom score c disk (then e) h durable from) (sym (on o)) at)
        (rests v.phase)
