-- A store that reads from its log and from one shard.
use Rattle.std.proofs.Common.{◌≡◌, ◌≢◌, ⊎_elim, ℕ, zero, suc, ◌+◌, ◌≤◌, List, [], ◌∷◌, ◌++◌, length, map, Option, Some, refl, sym, ◌∙◌, ap, subst, arith, length-append}
use Rattle.std.specs.Prelude.{slice_get, slice_set, sum_by}
use Rattle.std.specs.List.{Contains}
use Rattle.std.specs.Option.{option_to_list}
use Rattle.std.proofs.lemmas.List.{length-map}
use Rattle.std.proofs.lemmas.List.Sums.{sum_by-append, sum_by-cons}
use Rattle.std.proofs.lemmas.Option.{same_Some}
use Rattle.vt_base.specs.declared.place.Info.{Info}
use Rattle.vt_base.specs.declared.why.Why.{Why}
use Rattle.vt_base.specs.declared.why.Why.TheVariants.{BadType, TooBig, TooSmall, Absent, Collision, IndexFull, ArenasFull, DiskFault, Stopped, Damaged, NoMemory}
use Rattle.vt_base.specs.Faults.{HasRisen}
use Rattle.vt_disk.specs.Disk.{AreAmong}
use Rattle.vt_disk.specs.Members.{DiskOf}
use Rattle.vt_isect.specs.Section.{SectionState}
use Rattle.vt_isect.specs.declared.head.Head.{Head}
use Rattle.vt_log.specs.Answers.{OnlyReadsLog}
use Rattle.vt_log.specs.Faults.{OneHasRisen}
use Rattle.vt_log.specs.Sound.{AreImagesOf, AreWithinCallOf}
use Rattle.vt_log.proofs.Lists.{slice_get_other}
use Rattle.vt_model.specs.History.{History}
use Rattle.vt_model.specs.Legal.{IsLegal}
use Rattle.vt_model.specs.Places.{Setup}
use Rattle.vt_shard.specs.Shard.{ShardState}
use Rattle.vt_shard.specs.Sound.{IsSoundShard}
use Rattle.vt_core.specs.declared.event.Out.{Out}
use Rattle.vt_core.specs.Causes.{CountsWhy, KeepsStops, OnlyReadFrom}
use Rattle.vt_core.specs.Core.{CoreState, setup_of, machine_of, devices_of, each_of, stops_of}
use Rattle.vt_core.specs.Files.{PerDevice, all_of}
use Rattle.vt_lookup.specs.Finding.{parts_of, AreSound, CountsFailure, NoneRose, ReadsShard}
use Rattle.vt_core.specs.Sound.{IsSound}
use Rattle.vt_core.specs.Steps.{LeavesPrefix, StoreGoesOn}
use Rattle.vt_core.specs.Whole.{IsWhole}
use Rattle.vt_recover.proofs.Places.{get_set, get_other, length-set, map_set, map_then, one_or_other, map_over_set}
use Rattle.vt_core.proofs.Calls.{map_all, joined, with_ends}
use Rattle.vt_recover.proofs.Counts.{risen_front}
use Rattle.vt_core.proofs.Combined.{within_same}
use Rattle.vt_recover.proofs.Lists.{at_map}
use Rattle.vt_core.proofs.Recovered.{GivesPrefix}
use Rattle.vt_core.proofs.ShardCall.{counts_rose as shard_counts_rose}
use Rattle.vt_core.proofs.ShardWork.{Keeps, only_mark, each_shard, same_setup, shard_whole}

-- ---- devices that hold what they held

module _ {D : Type 0} (disk : DiskOf D) where
  abbrev pub LeaveNoMore : (old new : List D) → Type 0
  LeaveNoMore old new = (i : ℕ) (before after : D) → slice_get old i ≡ Some before → slice_get new i ≡ Some after → AreAmong (disk.images after) (disk.images before)

  more_append : (xs ys us vs : List D) → length ys ≡ length xs → LeaveNoMore xs ys → LeaveNoMore us vs → LeaveNoMore (xs ++ us) (ys ++ vs)
  more_append [] [] us vs many first then i before after was is = then i before after was is
  more_append [] (y ∷ ys) us vs many first then i before after was is = absurd (omega (arith, many))
  more_append (x ∷ xs) [] us vs many first then i before after was is = absurd (omega (arith, many))
  more_append (x ∷ xs) (y ∷ ys) us vs many first then zero before after was is = first zero before after was is
  more_append (x ∷ xs) (y ∷ ys) us vs many first then (suc i) before after was is =
      let few : length ys ≡ length xs = omega (arith, many) in
      more_append xs ys us vs few (λ j b a w n. first (suc j) b a w n) then i before after was is

  pub no_more : (xs : List D) → LeaveNoMore xs xs
  no_more xs i before after was is = subst (λ (d : D). AreAmong (disk.images d) (disk.images before)) (same_Some before after (sym was ∙ is)) (λ c left. left)

  more_set : (xs : List D) (i : ℕ) (x y : D) → slice_get xs i ≡ Some x → AreAmong (disk.images y) (disk.images x) → LeaveNoMore xs (slice_set xs i y)
  more_set xs i x y at among j before after was is = ⊎_elim
      (λ (e : j ≡ i).
      let old : before ≡ x = same_Some before x (sym was ∙ ap (λ (n : ℕ). slice_get xs n) e ∙ at) in
      let new : after ≡ y = same_Some after y (sym is ∙ ap (λ (n : ℕ). slice_get (slice_set xs i y) n) e ∙ get_set xs i y x at) in
      subst (λ (d : D). AreAmong (disk.images after) (disk.images d)) (sym old) (subst (λ (d : D). AreAmong (disk.images d) (disk.images x)) (sym new) among))
      (λ (other : j ≢ i). no_more xs j before after was (sym (get_other xs i j y other) ∙ is))
      (one_or_other j i)

  -- within reads a crash leaves what it might leave before them
  pub within_reads : (old new : List D) (files : List (List ℕ)) → length new ≡ length old → LeaveNoMore old new → AreWithinCallOf disk old new files → AreImagesOf disk old files
  within_reads old new files many more within = record {
    many = within.many;
    each = λ i device file at is.
        let fit : length files ≡ length new = within.many ∙ sym many in
        let after = slice_get_other new files i file fit is in
        ⊎_elim (λ left. left) (λ left. more i device after.0 at after.1 file left) (within.each i device after.0 file at after.1 is);
  }

-- ---- counts of calls

sum-set : {X : Type 0} (f : X → ℕ) (xs : List X) (i : ℕ) (x y : X) (more : ℕ) → slice_get xs i ≡ Some x → f y ≤ f x + more → sum_by f (slice_set xs i y) ≤ sum_by f xs + more
sum-set f [] i x y more at le = absurd (cc)
sum-set f (z ∷ xs) zero x y more at le =
    let e : f z ≡ f x = ap f (same_Some z x at) in
    omega (arith, le, e, sum_by-cons f y xs, sum_by-cons f z xs)
sum-set f (z ∷ xs) (suc i) x y more at le = omega (arith, sum-set f xs i x y more at le, sum_by-cons f z (slice_set xs i y), sum_by-cons f z xs)

-- ---- the store

module _ {D : Type 0} (score : List ℕ → List ℕ) (disk : DiskOf D) (k : CoreState D) (i : ℕ) (s new : ShardState D) (ds : List D)
    (at : slice_get k.shards i ≡ Some s) (log : OnlyReadsLog score disk 2 k.log (record k.log { disks = ds })) (reads : ReadsShard disk 2 s new) where
  abbrev pub after_reads : CoreState D
  after_reads = record k { log = record k.log { disks = ds }; shards = slice_set k.shards i new }

  -- what the shard keeps
  keeps : IsWhole disk k → Keeps disk k.log.durable s new
  keeps w =
      let was = w.shards i s at in
      let head : new.section.head ≡ s.section.head = ap (λ (t : SectionState D). t.head) reads.section in
      record {
        place = record {
          name = ap (λ (t : SectionState D). t.name) reads.section;
          buckets = ap (λ (t : SectionState D). t.buckets) reads.section;
          head = only_mark s.section.head new.section.head head;
          mark = omega (arith, ap (λ (x : Head). x.mark) head);
        };
        size = reads.reads.size;
        rest = λ none. ap (λ (t : SectionState D). t.phase) reads.section ∙ was.rest (sym reads.writeback ∙ none);
        filed = subst (λ (n : ℕ). n ≤ k.log.durable) (sym reads.filed) was.filed;
        writeback = λ below is. was.writeback below (sym reads.writeback ∙ is);
        mark = subst (λ (n : ℕ). n ≤ k.log.durable) (sym (ap (λ (x : Head). x.mark) head)) was.mark;
        next = subst (λ (n : ℕ). n ≤ k.log.durable) (sym (ap (λ (t : SectionState D). t.next.mark) reads.section)) was.next;
        dirty = λ info has. subst (λ (infos : List Info). Contains infos info) reads.dirty has;
      }

  pub reads_whole : IsWhole disk k → IsWhole disk after_reads
  reads_whole w =
      let mid = shard_whole score disk k i s new at (keeps w) w in
      record {
        some_arena = mid.some_arena;
        some_shard = mid.some_shard;
        few_shards = mid.few_shards;
        few_sessions = mid.few_sessions;
        shards = λ j t there. let it = mid.shards j t there in record { live = it.live; buckets = it.buckets; some = it.some; rest = it.rest; filed = it.filed; writeback = it.writeback; mark = it.mark; next = it.next; numbers = it.numbers; bits = it.bits };
        filter = λ b there. let it = mid.filter b there in record { counts = it.counts; mark = it.mark; next = it.next; made = it.made };
        synced = mid.synced;
        waiting = mid.waiting;
      }

  reads_setup : IsWhole disk k → setup_of after_reads ≡ setup_of k
  reads_setup w = same_setup score disk k i s new at (keeps w)

  pub reads_machine : IsWhole disk k → (h : History) → machine_of after_reads h ≡ machine_of k h
  reads_machine w h = ap (λ (c : Setup). record { setup = c; history = h; synced = k.synced; waiting = k.waiting }) (reads_setup w)

  many_disks : length ds ≡ length k.log.disks
  many_disks = sym (length-map ds disk.size) ∙ ap length log.disks.sizes_are ∙ length-map k.log.disks disk.size

  -- the parts are sound
  pub parts_are : (h : History) → IsSound score disk k h → AreSound score disk (setup_of k) (parts_of k.log s) h k.log.durable
  parts_are h sound = record { log = sound.log; shard = sound.shards i s at; opened = refl; legal = sound.legal }

  pub reads_sound : (h : History) → IsSound score disk k h → AreSound score disk (setup_of k) (parts_of (record k.log { disks = ds }) new) h k.log.durable → IsSound score disk after_reads h
  reads_sound h sound parts =
      let same : setup_of k ≡ setup_of after_reads = sym (reads_setup sound.whole) in
      record {
        whole = reads_whole sound.whole;
        legal = subst (λ (c : Setup). IsLegal score c h) same sound.legal;
        partitions = λ j t device file there is left.
            let before = slice_get_other k.log.disks ds j device many_disks is in
            sound.partitions j t before.0 file there before.1 (log.disks.images_are j before.0 device before.1 is file left);
        log = parts.log;
        shards = λ j t there. subst (λ (c : Setup). IsSoundShard score c disk t h k.log.durable) same
            (each_shard score disk k i s new at (keeps sound.whole) (λ n u. IsSoundShard score (setup_of k) disk u h k.log.durable) parts.shard sound.shards j t there);
        bits = sound.bits;
        filter = λ b there. let it = sound.filter b there in record { saved = it.saved; coming = it.coming; sound = it.sound; covers = it.covers; coming_covers = it.coming_covers };
      }

  -- ---- devices

  section_at : slice_get (devices_of k).sections i ≡ Some s.section.disk
  section_at = at_map (λ t. t.section.disk) k.shards i s at

  sections_are : (devices_of after_reads).sections ≡ slice_set (devices_of k).sections i new.section.disk
  sections_are = map_over_set (λ t. t.section.disk) k.shards i new

  -- something of each device that reads leave as it is
  pub each_same : (f : D → ℕ) → map f ds ≡ map f k.log.disks → f new.section.disk ≡ f s.section.disk → each_of f after_reads ≡ each_of f k
  each_same f same shard =
      let devices : PerDevice D = devices_of after_reads in
      let sections : map f devices.sections ≡ map f (devices_of k).sections =
      sym (map_then (λ (t : ShardState D). t.section.disk) f (slice_set k.shards i new))
      ∙ map_set (λ (t : ShardState D). f t.section.disk) k.shards i new s at shard
      ∙ map_then (λ (t : ShardState D). t.section.disk) f k.shards in
      map_all f devices
      ∙ ap (λ (ns : List ℕ). joined ns (map f devices.sections) (map f (devices_of k).filter)) same
      ∙ ap (λ (ns : List ℕ). joined (map f k.log.disks) ns (map f (devices_of k).filter)) sections
      ∙ sym (map_all f (devices_of k))

  pub reads_go_on : IsWhole disk k → StoreGoesOn disk k after_reads
  reads_go_on w = record {
    store = record {
      tables = refl;
      layout = refl;
      setup = reads_setup w;
      shards = length-set k.shards i new;
      filter = refl;
      counts = (refl, refl);
      sizes = each_same disk.size log.disks.sizes_are reads.reads.size;
      sessions = refl;
      len = omega arith;
      durable = omega arith;
      synced = omega arith;
    };
    one_more = omega arith;
    synced_before = w.synced;
  }

  pub same_stops : stops_of after_reads ≡ stops_of k
  same_stops = ap (λ (ss : List (Option ℕ)). with_ends k.log.stopped ss (map (λ b. b.calls.stopped) (option_to_list k.bloom)))
      (map_set (λ t. t.section.stopped) k.shards i new s at (ap (λ (t : SectionState D). t.stopped) reads.section))

  pub reads_stops : (out : Out) → KeepsStops out k after_reads
  reads_stops out = record { stay = λ j call there. ap (λ (ss : List (Option ℕ)). slice_get ss j) same_stops ∙ there; cause = λ _. same_stops }

  more_sections : LeaveNoMore disk (devices_of k).sections (devices_of after_reads).sections
  more_sections = subst (λ (xs : List D). LeaveNoMore disk (devices_of k).sections xs) (sym sections_are)
      (more_set disk (devices_of k).sections i s.section.disk new.section.disk section_at reads.reads.images)

  many_sections : length (devices_of after_reads).sections ≡ length (devices_of k).sections
  many_sections = ap length sections_are ∙ length-set (devices_of k).sections i new.section.disk

  pub reads_crash : GivesPrefix disk → LeavesPrefix score disk k after_reads
  reads_crash gives h files sound within = gives score k h files sound (record {
    partitions = within_reads disk k.log.disks ds files.partitions many_disks log.disks.images_are within.partitions;
    sections = within_reads disk (devices_of k).sections (devices_of after_reads).sections files.sections many_sections more_sections within.sections;
    filter = within_same disk (devices_of k).filter files.filter within.filter;
  })

  pub reads_only : OnlyReadFrom disk 4 (all_of (devices_of k)) (all_of (devices_of after_reads))
  reads_only = record {
    same = record {
      bytes_are = map_same_bytes;
      sizes_are = each_same disk.size log.disks.sizes_are reads.reads.size;
      images_are = more_append disk (k.log.disks ++ (devices_of k).sections) (ds ++ (devices_of after_reads).sections) (devices_of k).filter (devices_of k).filter many_both
          (more_append disk k.log.disks ds (devices_of k).sections (devices_of after_reads).sections many_disks log.disks.images_are more_sections) (no_more disk (devices_of k).filter);
    };
    calls = λ tells.
        let f : D → ℕ = disk.calls in
        let first = log.calls tells in
        let then : sum_by f (slice_set (devices_of k).sections i new.section.disk) ≤ sum_by f (devices_of k).sections + 2 =
        sum-set f (devices_of k).sections i s.section.disk new.section.disk 2 section_at (reads.reads.calls tells) in
        let both : sum_by f (devices_of after_reads).sections ≡ sum_by f (slice_set (devices_of k).sections i new.section.disk) = ap (sum_by f) sections_are in
        omega (
          arith,
          first,
          then,
          both,
          sum_by-append f (k.log.disks ++ (devices_of k).sections) (devices_of k).filter,
          sum_by-append f k.log.disks (devices_of k).sections,
          sum_by-append f (ds ++ (devices_of after_reads).sections) (devices_of k).filter,
          sum_by-append f ds (devices_of after_reads).sections,
        );
  }
    where
      many_both : length (ds ++ (devices_of after_reads).sections) ≡ length (k.log.disks ++ (devices_of k).sections)
      many_both = omega (arith, length-append ds (devices_of after_reads).sections, length-append k.log.disks (devices_of k).sections, many_disks, many_sections)

      map_same_bytes : map disk.bytes (all_of (devices_of after_reads)) ≡ map disk.bytes (all_of (devices_of k))
      map_same_bytes =
          let f : D → List ℕ = disk.bytes in
          let sections : map f (devices_of after_reads).sections ≡ map f (devices_of k).sections =
          ap (map f) sections_are ∙ map_set f (devices_of k).sections i new.section.disk s.section.disk section_at reads.reads.bytes in
          map_all f (devices_of after_reads)
          ∙ ap (λ (ns : List (List ℕ)). joined ns (map f (devices_of after_reads).sections) (map f (devices_of k).filter)) log.disks.bytes_are
          ∙ ap (λ (ns : List (List ℕ)). joined (map f k.log.disks) ns (map f (devices_of k).filter)) sections
          ∙ sym (map_all f (devices_of k))

  -- ---- counts of faults

  log_rose : OneHasRisen (map disk.faults k.log.disks) (map disk.faults ds) → disk.faults new.section.disk ≡ disk.faults s.section.disk → OneHasRisen (each_of disk.faults k) (each_of disk.faults after_reads)
  log_rose rose same =
      let f : D → ℕ = disk.faults in
      let devices : PerDevice D = devices_of after_reads in
      let sections : map f devices.sections ≡ map f (devices_of k).sections =
      ap (map f) sections_are ∙ map_set f (devices_of k).sections i new.section.disk s.section.disk section_at same in
      let after : each_of f after_reads ≡ joined (map f ds) (map f (devices_of k).sections) (map f (devices_of k).filter) =
      map_all f devices ∙ ap (λ (ns : List ℕ). joined (map f ds) ns (map f (devices_of k).filter)) sections in
      subst (λ (xs : List ℕ). OneHasRisen xs (each_of f after_reads)) (sym (map_all f (devices_of k)))
      (subst (λ (ys : List ℕ). OneHasRisen (joined (map f k.log.disks) (map f (devices_of k).sections) (map f (devices_of k).filter)) ys) (sym after)
      (risen_front (map f k.log.disks ++ map f (devices_of k).sections) (map f ds ++ map f (devices_of k).sections) (map f (devices_of k).filter)
      (risen_front (map f k.log.disks) (map f ds) (map f (devices_of k).sections) rose)))

  shard_rose : map disk.faults ds ≡ map disk.faults k.log.disks → HasRisen (disk.faults s.section.disk) (disk.faults new.section.disk) → OneHasRisen (each_of disk.faults k) (each_of disk.faults after_reads)
  shard_rose same rose =
      let f : D → ℕ = disk.faults in
      let mid : OneHasRisen (each_of f k) (each_of f (record k { shards = slice_set k.shards i new })) = shard_counts_rose score disk k i s new at rose in
      let after : each_of f after_reads ≡ each_of f (record k { shards = slice_set k.shards i new }) =
      map_all f (devices_of after_reads)
      ∙ ap (λ (ns : List ℕ). joined ns (map f (devices_of after_reads).sections) (map f (devices_of k).filter)) same
      ∙ sym (map_all f (devices_of (record k { shards = slice_set k.shards i new }))) in
      subst (λ (ys : List ℕ). OneHasRisen (each_of f k) ys) (sym after) mid

  pub none_rose : NoneRose disk (parts_of k.log s) (parts_of (record k.log { disks = ds }) new) → each_of disk.faults after_reads ≡ each_of disk.faults k
  none_rose it = each_same disk.faults it.0 it.1

  pub reads_counts : (why : Why) → CountsFailure disk why (parts_of k.log s) (parts_of (record k.log { disks = ds }) new) → CountsWhy why (each_of disk.faults k) (each_of disk.faults after_reads)
  reads_counts DiskFault it = ⊎_elim (λ log. log_rose log.0 log.1) (λ shard. shard_rose shard.0 shard.1) it
  reads_counts BadType it = none_rose it
  reads_counts TooBig it = none_rose it
  reads_counts TooSmall it = none_rose it
  reads_counts Absent it = none_rose it
  reads_counts Collision it = none_rose it
  reads_counts IndexFull it = none_rose it
  reads_counts ArenasFull it = none_rose it
  reads_counts (Stopped call) it = none_rose it
  reads_counts (Damaged site want found) it = none_rose it
  reads_counts NoMemory it = none_rose it
