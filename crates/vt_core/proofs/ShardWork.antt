-- A store of which one shard changes.
use Rattle.std.proofs.Common.{◌≡◌, ◌≢◌, ◌⊎◌, ⊎_elim, inl, inr, ℕ, ◌<◌, ◌≤◌, List, [], ◌∷◌, length, map, Option, Some, None, refl, sym, ◌∙◌, ap, subst, arith}
use Rattle.std.specs.Prelude.{slice_get, slice_set, IsTrue, max, Bool, true, false, is_some, if◌then◌else◌, ◌↔◌, zero, suc}
use Rattle.std.specs.List.{Contains}
use Rattle.std.specs.Option.{option_to_list}
use Rattle.std.proofs.lemmas.Option.{same_Some}
use Rattle.vt_base.specs.declared.place.Info.{Info}
use Rattle.vt_disk.specs.Members.{DiskOf}
use Rattle.vt_model.specs.History.{History}
use Rattle.vt_model.specs.Legal.{IsLegal}
use Rattle.vt_model.specs.Places.{Setup}
use Rattle.vt_isect.specs.Layout.{buckets_in}
use Rattle.vt_isect.specs.Section.{IsAtRest, SectionState}
use Rattle.vt_isect.specs.declared.head.Head.{Head}
use Rattle.vt_shard.specs.Shard.{ShardState, KeepsPlace, OnlyMark}
use Rattle.vt_shard.specs.Sound.{IsSoundShard, KeepsSound}
use Rattle.vt_shard.specs.Writeback.{BeginsShardWriteback, HasWork}
use Rattle.vt_core.specs.declared.event.Event.{Event}
use Rattle.vt_core.specs.declared.event.Event.TheVariants.{FileBegin, EvictLump, EvictIndex}
use Rattle.vt_core.specs.declared.event.Out.{Out}
use Rattle.vt_core.specs.declared.event.Out.TheVariants.{Said as SaidOut, Waits, NotYet, Moved, Nothing, Failed}
use Rattle.vt_core.specs.Causes.{CountsOut, IsUndamaged, MakesCalls}
use Rattle.vt_core.specs.Core.{CoreState, setup_of, machine_of, devices_of, each_of, stops_of}
use Rattle.vt_core.specs.Events.{MakesStep, IsWork}
use Rattle.vt_core.specs.Files.{PerDevice, AreWithinCall, all_of}
use Rattle.vt_core.specs.Machine.{Machine}
use Rattle.vt_core.specs.Sound.{IsSound}
use Rattle.vt_recover.specs.Sections.{IsLive}
use Rattle.vt_core.specs.Steps.{Steps, StoreGoesOn, DoesEvent}
use Rattle.vt_core.specs.Whole.{IsWhole, IsShardOf}
use Rattle.vt_core.specs.Work.{IsMovedWhere, DropsLump, DropsEntry, BeginsWriteback}
use Rattle.vt_recover.proofs.Places.{get_set, get_other, length-set, map_set, map_then, one_or_other}
use Rattle.vt_core.proofs.Calls.{map_all, joined, with_ends}
use Rattle.vt_core.proofs.Recovered.{GivesPrefix, images_of}

-- what a shard keeps of its place, its numbers and its dirty entries
pub record Keeps {D : Type 0} (disk : DiskOf D) (durable : ℕ) (before after : ShardState D) : Type 0 where
  pub place : KeepsPlace before after
  pub size : disk.size after.section.disk ≡ disk.size before.section.disk
  pub rest : after.writeback ≡ None → IsAtRest after.section
  pub filed : after.filed ≤ durable
  pub writeback : (below : ℕ) → after.writeback ≡ Some below → below ≤ durable
  pub mark : after.section.head.mark ≤ durable
  pub next : after.section.next.mark ≤ durable
  pub dirty : (info : Info) → Contains after.index.dirty info → Contains before.index.dirty info

-- a head that is the same
pub only_mark : (old new : Head) → new ≡ old → OnlyMark old new
only_mark old new same = subst (λ (x : Head). OnlyMark old x) (sym same) refl

-- a head of which only the mark differs is as live
live_stays : (c : Setup) (i : ℕ) (old new : Head) → new ≡ record old { mark = new.mark } → IsLive c i old → IsLive c i new
live_stays c i old new same live = record {
  state = ap (λ (x : Head). x.state) same ∙ live.state;
  first = ap (λ (x : Head). x.first) same ∙ live.first;
  count = ap (λ (x : Head). x.count) same ∙ live.count;
  total = ap (λ (x : Head). x.total) same ∙ live.total;
}

module _ {D : Type 0} (score : List ℕ → List ℕ) (disk : DiskOf D) (k : CoreState D) (i : ℕ) (before after : ShardState D)
    (at : slice_get k.shards i ≡ Some before) (keeps : Keeps disk k.log.durable before after) where
  pub same_setup : setup_of (record k { shards = slice_set k.shards i after }) ≡ setup_of k
  same_setup = ap (λ (ns : List ℕ). record { arenas = (setup_of k).arenas; versions = (setup_of k).versions; base = k.log.base; sections = ns })
      (map_set (λ s. s.section.buckets) k.shards i after before at keeps.place.buckets)

  -- what holds of the new shard and of each other one
  pub each_shard : (P : ℕ → ShardState D → Type 0) → P i after → ((j : ℕ) (s : ShardState D) → slice_get k.shards j ≡ Some s → P j s)
      → (j : ℕ) (s : ShardState D) → slice_get (slice_set k.shards i after) j ≡ Some s → P j s
  each_shard P new old j s there = ⊎_elim
      (λ (e : j ≡ i).
      let same : s ≡ after = same_Some s after (sym there ∙ ap (λ (n : ℕ). slice_get (slice_set k.shards i after) n) e ∙ get_set k.shards i after before at) in
      subst (λ (n : ℕ). P n s) (sym e) (subst (λ (t : ShardState D). P i t) (sym same) new))
      (λ (other : j ≢ i). old j s (sym (get_other k.shards i j after other) ∙ there))
      (one_or_other j i)

  pub shard_whole : IsWhole disk k → IsWhole disk (record k { shards = slice_set k.shards i after })
  shard_whole w =
      let was = w.shards i before at in
      record {
        some_arena = w.some_arena;
        some_shard = omega (arith, w.some_shard, length-set k.shards i after);
        few_shards = omega (arith, w.few_shards, length-set k.shards i after);
        few_sessions = w.few_sessions;
        shards = each_shard (λ j s. IsShardOf disk (record k { shards = slice_set k.shards i after }) j k.log.durable s)
            (record {
              live = subst (λ (c : Setup). IsLive c i after.section.head) (sym same_setup) (live_stays (setup_of k) i before.section.head after.section.head keeps.place.head was.live);
              buckets = keeps.place.buckets ∙ was.buckets ∙ ap buckets_in (sym keeps.size);
              some = subst (λ (n : ℕ). 0 < n) (sym keeps.place.buckets) was.some;
              rest = keeps.rest;
              filed = keeps.filed;
              writeback = keeps.writeback;
              mark = keeps.mark;
              next = keeps.next;
              numbers = λ info has. was.numbers info (keeps.dirty info has);
              bits = λ info has. was.bits info (keeps.dirty info has);
            })
            (λ j s there. let it = w.shards j s there in record {
              live = subst (λ (c : Setup). IsLive c j s.section.head) (sym same_setup) it.live;
              buckets = it.buckets;
              some = it.some;
              rest = it.rest;
              filed = it.filed;
              writeback = it.writeback;
              mark = it.mark;
              next = it.next;
              numbers = it.numbers;
              bits = it.bits;
            });
        filter = λ b there. let it = w.filter b there in record { counts = it.counts; mark = it.mark; next = it.next; made = it.made };
        synced = w.synced;
        waiting = w.waiting;
      }

  pub shard_sound : (h : History) → IsSound score disk k h → IsSoundShard score (setup_of k) disk after h k.log.durable
      → IsSound score disk (record k { shards = slice_set k.shards i after }) h
  shard_sound h sound new = record {
    whole = shard_whole sound.whole;
    legal = subst (λ (c : Setup). IsLegal score c h) (sym same_setup) sound.legal;
    partitions = sound.partitions;
    log = sound.log;
    shards = λ j s there. subst (λ (c : Setup). IsSoundShard score c disk s h k.log.durable) (sym same_setup)
        (each_shard (λ n t. IsSoundShard score (setup_of k) disk t h k.log.durable) new sound.shards j s there);
    bits = sound.bits;
    filter = sound.filter;
  }

  pub shard_quiet : (h : History) → machine_of (record k { shards = slice_set k.shards i after }) h ≡ machine_of k h
  shard_quiet h = ap (λ (c : Setup). record { setup = c; history = h; synced = k.synced; waiting = k.waiting }) same_setup

  pub shard_goes_on : IsWhole disk k → StoreGoesOn disk k (record k { shards = slice_set k.shards i after })
  shard_goes_on w = record {
    store = record {
      tables = refl;
      layout = refl;
      setup = same_setup;
      shards = length-set k.shards i after;
      filter = refl;
      counts = (refl, refl);
      sizes = sizes;
      sessions = refl;
      len = omega arith;
      durable = omega arith;
      synced = omega arith;
    };
    one_more = omega arith;
    synced_before = w.synced;
  }
    where
      sizes : each_of disk.size (record k { shards = slice_set k.shards i after }) ≡ each_of disk.size k
      sizes =
          let f : D → ℕ = disk.size in
          let new : PerDevice D = devices_of (record k { shards = slice_set k.shards i after }) in
          let same : map f new.sections ≡ map f (devices_of k).sections =
          sym (map_then (λ (s : ShardState D). s.section.disk) f (slice_set k.shards i after))
          ∙ map_set (λ (s : ShardState D). f s.section.disk) k.shards i after before at keeps.size
          ∙ map_then (λ (s : ShardState D). s.section.disk) f k.shards in
          map_all f new ∙ ap (λ (ns : List ℕ). joined (map f k.log.disks) ns (map f (devices_of k).filter)) same
          ∙ sym (map_all f (devices_of k))

  -- ---- without a device call

  module _ (same_disk : after.section.disk ≡ before.section.disk) (same_stop : after.section.stopped ≡ before.section.stopped) where
    same_devices : devices_of (record k { shards = slice_set k.shards i after }) ≡ devices_of k
    same_devices = ap (λ (ds : List D). record { partitions = k.log.disks; sections = ds; filter = map (λ b. b.disk) (option_to_list k.bloom) })
        (map_set (λ s. s.section.disk) k.shards i after before at same_disk)

    same_stops : stops_of (record k { shards = slice_set k.shards i after }) ≡ stops_of k
    same_stops = ap (λ (ss : List (Option ℕ)). with_ends k.log.stopped ss (map (λ b. b.calls.stopped) (option_to_list k.bloom)))
        (map_set (λ s. s.section.stopped) k.shards i after before at same_stop)

    pub quiet_steps : GivesPrefix disk → IsWhole disk k → (IsTrue disk.tells → (h : History) → IsSoundShard score (setup_of k) disk before h k.log.durable → IsSoundShard score (setup_of k) disk after h k.log.durable) → (event : Event) (out : Out)
        → ((old new : Machine) → new ≡ old → MakesStep score event out old new)
        → ((old new : List D) → new ≡ old → MakesCalls disk event out old new)
        → ((old new : List ℕ) → new ≡ old → CountsOut out old new) → IsUndamaged out
        → DoesEvent score disk event out k (record k { shards = slice_set k.shards i after })
        → Steps score disk event out k (record k { shards = slice_set k.shards i after })
    quiet_steps gives w sound event out makes calls counts undamaged does = record {
      machine = λ tells h was. (
        h,
        makes (machine_of k h) (machine_of (record k { shards = slice_set k.shards i after }) h) (shard_quiet h),
        shard_sound h was (sound tells h (was.shards i before at)),
      );
      crash = λ tells h files was within. gives score k h files was (images_of disk (devices_of k) files (subst (λ (ds : PerDevice D). AreWithinCall disk (devices_of k) ds files) same_devices within));
      undamaged = λ _ _ _. undamaged;
      does = does;
      calls = calls (all_of (devices_of k)) (all_of (devices_of (record k { shards = slice_set k.shards i after }))) (ap (λ (ds : PerDevice D). all_of ds) same_devices);
      counts = counts (each_of disk.faults k) (each_of disk.faults (record k { shards = slice_set k.shards i after })) (ap (λ (ds : PerDevice D). map disk.faults (all_of ds)) same_devices);
      stops = record { stay = λ j call there. ap (λ (ss : List (Option ℕ)). slice_get ss j) same_stops ∙ there; cause = λ _. same_stops };
      goes_on = shard_goes_on w;
    }

-- ---- what is dropped from memory, and how a writeback begins

-- it is Moved or Nothing
abbrev pub MovedOrNothing : Out → Type 0
MovedOrNothing out = (out ≡ Moved) ⊎ (out ≡ Nothing)

moved_where : (count : ℕ) (out : Out) → IsMovedWhere count out → MovedOrNothing out
moved_where count Moved it = inl refl
moved_where count Nothing it = inr refl
moved_where count (SaidOut a) it = absurd it
moved_where count Waits it = absurd it
moved_where count NotYet it = absurd it
moved_where count (Failed why) it = absurd it

begins_where : {D : Type 0} (durable : ℕ) (out : Out) (before after : ShardState D) → BeginsWriteback durable out before after → MovedOrNothing out
begins_where durable Moved before after it = inl refl
begins_where durable Nothing before after it = inr refl
begins_where durable (SaidOut a) before after it = absurd it
begins_where durable Waits before after it = absurd it
begins_where durable NotYet before after it = absurd it
begins_where durable (Failed why) before after it = absurd it

is_work : (out : Out) → MovedOrNothing out → (old new : Machine) → new ≡ old → IsWork out old new
is_work out it old new same = ⊎_elim (λ e. subst (λ (o : Out). IsWork o old new) (sym e) same) (λ e. subst (λ (o : Out). IsWork o old new) (sym e) same) it

counts_none : (out : Out) → MovedOrNothing out → (old new : List ℕ) → new ≡ old → CountsOut out old new
counts_none out it old new same = ⊎_elim (λ e. subst (λ (o : Out). CountsOut o old new) (sym e) same) (λ e. subst (λ (o : Out). CountsOut o old new) (sym e) same) it

no_damage : (out : Out) → MovedOrNothing out → IsUndamaged out
no_damage out it = ⊎_elim (λ e. subst (λ (o : Out). IsUndamaged o) (sym e) tt) (λ e. subst (λ (o : Out). IsUndamaged o) (sym e) tt) it

module _ {D : Type 0} (score : List ℕ → List ℕ) (disk : DiskOf D) (k : CoreState D) (i : ℕ) (before : ShardState D)
    (at : slice_get k.shards i ≡ Some before) (gives : GivesPrefix disk) (w : IsWhole disk k) (out : Out) where
  -- a shard of which only what is in memory differs
  pub in_memory : (after : ShardState D) → after.section ≡ before.section → after.writeback ≡ before.writeback → after.filed ≡ before.filed
      → ((info : Info) → Contains after.index.dirty info → Contains before.index.dirty info) → Keeps disk k.log.durable before after
  in_memory after section writeback filed dirty =
      let was = w.shards i before at in
      record {
        place = record {
          name = ap (λ (x : SectionState D). x.name) section;
          buckets = ap (λ (x : SectionState D). x.buckets) section;
          head = only_mark before.section.head after.section.head (ap (λ (x : SectionState D). x.head) section);
          mark = omega (arith, ap (λ (x : SectionState D). x.head.mark) section);
        };
        size = ap (λ (x : SectionState D). disk.size x.disk) section;
        rest = λ none. ap (λ (x : SectionState D). x.phase) section ∙ was.rest (sym writeback ∙ none);
        filed = subst (λ (n : ℕ). n ≤ k.log.durable) (sym filed) was.filed;
        writeback = λ below under. was.writeback below (sym writeback ∙ under);
        mark = subst (λ (n : ℕ). n ≤ k.log.durable) (sym (ap (λ (x : SectionState D). x.head.mark) section)) was.mark;
        next = subst (λ (n : ℕ). n ≤ k.log.durable) (sym (ap (λ (x : SectionState D). x.next.mark) section)) was.next;
        dirty = dirty;
      }

  pub lump_steps : (after : ShardState D) → DropsLump out before after → (IsTrue disk.tells → KeepsSound disk before after)
      → Steps score disk (EvictLump i) out k (record k { shards = slice_set k.shards i after })
  lump_steps after it sound =
      let moved = moved_where (length before.lumps.entries) out it.0 in
      let section = ap (λ (x : ShardState D). x.section) it.1 in
      quiet_steps score disk k i before after at
      (in_memory after section (ap (λ (x : ShardState D). x.writeback) it.1) (ap (λ (x : ShardState D). x.filed) it.1)
      (λ info has. subst (λ (x : ShardState D). Contains x.index.dirty info) it.1 has))
      (ap (λ (x : SectionState D). x.disk) section) (ap (λ (x : SectionState D). x.stopped) section) gives w (λ tells h. sound tells score (setup_of k) h k.log.durable 0) (EvictLump i) out
      (λ old new same. is_work out moved old new same) (λ old new same. same) (λ old new same. counts_none out moved old new same) (no_damage out moved)
      (record { before = before; after = after; at = at; changes = it; same = refl })

  pub entry_steps : (after : ShardState D) → DropsEntry out before after → (IsTrue disk.tells → KeepsSound disk before after)
      → Steps score disk (EvictIndex i) out k (record k { shards = slice_set k.shards i after })
  entry_steps after it sound =
      let moved = moved_where (length before.index.clean) out it.0 in
      let section = ap (λ (x : ShardState D). x.section) it.1 in
      quiet_steps score disk k i before after at
      (in_memory after section (ap (λ (x : ShardState D). x.writeback) it.1) (ap (λ (x : ShardState D). x.filed) it.1)
      (λ info has. subst (λ (x : ShardState D). Contains x.index.dirty info) it.1 has))
      (ap (λ (x : SectionState D). x.disk) section) (ap (λ (x : SectionState D). x.stopped) section) gives w (λ tells h. sound tells score (setup_of k) h k.log.durable 0) (EvictIndex i) out
      (λ old new same. is_work out moved old new same) (λ old new same. same) (λ old new same. counts_none out moved old new same) (no_damage out moved)
      (record { before = before; after = after; at = at; changes = it; same = refl })

-- whether there was something to drop
pub by_first : {X : Type 0} (xs : List X) (done : Bool) → done ≡ is_some (slice_get xs 0) → IsMovedWhere (length xs) (if done then Moved else Nothing)
by_first [] done is = subst (λ (b : Bool). IsMovedWhere 0 (if b then Moved else Nothing)) (sym is) refl
by_first (x ∷ xs) done is = subst (λ (b : Bool). IsMovedWhere (length (x ∷ xs)) (if b then Moved else Nothing)) (sym is) (omega arith)

pub by_count : (n : ℕ) (done : Bool) → (IsTrue done ↔ (0 < n)) → IsMovedWhere n (if done then Moved else Nothing)
by_count n true it = it.0 refl
by_count zero false it = refl
by_count (suc n) false it = let e : false ≡ true = it.1 (omega arith) in absurd (cc)

-- a writeback of the durable blocks that begins
pub begin_keeps : {D : Type 0} (disk : DiskOf D) (k : CoreState D) (i : ℕ) (before after : ShardState D) → IsShardOf disk k i k.log.durable before
    → BeginsShardWriteback k.log.durable (max before.section.head.mark k.log.durable) before after → Keeps disk k.log.durable before after
begin_keeps {D} disk k i before after was it =
    let filed : after.filed ≡ max before.filed k.log.durable = ap (λ (x : ShardState D). x.filed) it.shard in
    let writeback : after.writeback ≡ Some k.log.durable = ap (λ (x : ShardState D). x.writeback) it.shard in
    let head : after.section.head ≡ before.section.head = ap (λ (x : SectionState D). x.head) it.section in
    let next : after.section.next.mark ≡ max before.section.head.mark k.log.durable = ap (λ (x : SectionState D). x.next.mark) it.section in
    record {
      place = record {
        name = ap (λ (x : SectionState D). x.name) it.section;
        buckets = ap (λ (x : SectionState D). x.buckets) it.section;
        head = only_mark before.section.head after.section.head head;
        mark = omega (arith, ap (λ (x : Head). x.mark) head);
      };
      size = ap (λ (x : SectionState D). disk.size x.disk) it.section;
      rest = λ none. let no : None ≡ Some k.log.durable = sym none ∙ writeback in absurd (cc);
      filed = omega (arith, filed, was.filed);
      writeback = λ below under. omega (arith, same_Some below k.log.durable (sym under ∙ writeback));
      mark = omega (arith, ap (λ (x : Head). x.mark) head, was.mark);
      next = omega (arith, next, was.mark);
      dirty = λ info has. subst (λ (x : ShardState D). Contains x.index.dirty info) it.shard has;
    }

-- what such an event keeps, with its device and its stop
pub record Rests {D : Type 0} (disk : DiskOf D) (durable : ℕ) (before after : ShardState D) : Type 0 where
  pub keeps : Keeps disk durable before after
  pub device : after.section.disk ≡ before.section.disk
  pub stop : after.section.stopped ≡ before.section.stopped

pub begun_rests : {D : Type 0} (score : List ℕ → List ℕ) (disk : DiskOf D) (k : CoreState D) (i : ℕ) (before : ShardState D) (at : slice_get k.shards i ≡ Some before)
    (gives : GivesPrefix disk) (w : IsWhole disk k) (out : Out) (after : ShardState D) → BeginsWriteback k.log.durable out before after → Rests disk k.log.durable before after
begun_rests {D} score disk k i before at gives w Moved after it = record {
  keeps = begin_keeps disk k i before after (w.shards i before at) it.2;
  device = ap (λ (x : SectionState D). x.disk) it.2.section;
  stop = ap (λ (x : SectionState D). x.stopped) it.2.section;
}
begun_rests {D} score disk k i before at gives w Nothing after it = record {
  keeps = in_memory score disk k i before at gives w Nothing after (ap (λ (x : ShardState D). x.section) it.1) (ap (λ (x : ShardState D). x.writeback) it.1)
      (ap (λ (x : ShardState D). x.filed) it.1) (λ info has. subst (λ (x : ShardState D). Contains x.index.dirty info) it.1 has);
  device = ap (λ (x : ShardState D). x.section.disk) it.1;
  stop = ap (λ (x : ShardState D). x.section.stopped) it.1;
}
begun_rests score disk k i before at gives w (SaidOut a) after it = absurd it
begun_rests score disk k i before at gives w Waits after it = absurd it
begun_rests score disk k i before at gives w NotYet after it = absurd it
begun_rests score disk k i before at gives w (Failed why) after it = absurd it

pub file_steps : {D : Type 0} (score : List ℕ → List ℕ) (disk : DiskOf D) (k : CoreState D) (i : ℕ) (before : ShardState D) (at : slice_get k.shards i ≡ Some before)
    (gives : GivesPrefix disk) (w : IsWhole disk k) (out : Out) (after : ShardState D) → BeginsWriteback k.log.durable out before after
    → (IsTrue disk.tells → (h : History) → IsSoundShard score (setup_of k) disk before h k.log.durable → IsSoundShard score (setup_of k) disk after h k.log.durable)
    → Steps score disk (FileBegin i) out k (record k { shards = slice_set k.shards i after })
file_steps {D} score disk k i before at gives w out after it sound =
    let moved = begins_where k.log.durable out before after it in
    let rests = begun_rests score disk k i before at gives w out after it in
    quiet_steps score disk k i before after at rests.keeps rests.device rests.stop gives w sound (FileBegin i) out
    (λ old new same. is_work out moved old new same) (λ old new same. same) (λ old new same. counts_none out moved old new same) (no_damage out moved)
    (record { before = before; after = after; at = at; changes = it; same = refl })

-- whether one began
pub begun_writeback : {D : Type 0} (durable : ℕ) (before after : ShardState D) (begun : Bool) → before.writeback ≡ None
    → (IsTrue begun ↔ HasWork durable before) → (begun ≡ true → BeginsShardWriteback durable (max before.section.head.mark durable) before after) → (begun ≡ false → after ≡ before)
    → BeginsWriteback durable (if begun then Moved else Nothing) before after
begun_writeback durable before after true none work begins idle = (none, work.0 refl, begins refl)
begun_writeback durable before after false none work begins idle = (inr (λ some. let e : false ≡ true = work.1 some in absurd (cc)), idle refl)
