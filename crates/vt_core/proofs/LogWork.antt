-- The log's next device call.
use Rattle.std.proofs.Common.{◌≡◌, ◌≢◌, ◌⊎◌, ⊎_elim, inl, inr, ℕ, zero, suc, ◌<◌, ◌≤◌, List, ◌∷◌, ◌++◌, length, map, Option, Some, None, refl, sym, ◌∙◌, ap, subst, arith}
use Rattle.std.specs.Prelude.{Result, Ok, Err, IsTrue, slice_get, slice_set}
use Rattle.std.specs.Option.{option_to_list}
use Rattle.vt_base.specs.declared.why.Why.TheVariants.{Stopped as WhyStopped}
use Rattle.vt_disk.specs.Members.{DiskOf}
use Rattle.vt_model.specs.History.{History}
use Rattle.vt_model.specs.Legal.{IsLegal}
use Rattle.vt_model.specs.Places.{Setup}
use Rattle.vt_part.specs.declared.layout.ArenaRegion.{ArenaRegion}
use Rattle.vt_log.specs.declared.error.Progress.{Progress}
use Rattle.vt_log.specs.declared.error.Progress.TheVariants.{Idle, Step, Durable}
use Rattle.vt_log.specs.declared.error.LogErr.{LogErr}
use Rattle.vt_log.specs.declared.error.LogErr.TheVariants.{Fault, Stopped}
use Rattle.vt_log.specs.Answers.{LogAdvances, CallsArena}
use Rattle.vt_log.specs.Committing.{LogTakesStep}
use Rattle.vt_log.specs.Faults.{CountsFaults, OneHasRisen, is_fault_now}
use Rattle.vt_log.specs.Log.{LogState, queued}
use Rattle.vt_log.specs.Sound.{IsSoundLog, AreImagesOf, AreWithinCallOf, LogStandsForPrefix}
use Rattle.vt_log.specs.Logs.{LogStandsFor}
use Rattle.vt_log.proofs.Lists.{at_slice, slice_get_other}
use Rattle.vt_bloom.specs.Laws.{CoversMore}
use Rattle.vt_shard.specs.Shard.{ShardState}
use Rattle.vt_shard.specs.Sound.{IsSoundShard, IsSoundFrom}
use Rattle.vt_core.specs.declared.event.Event.TheVariants.{LogAdvance}
use Rattle.vt_core.specs.declared.event.Out.{Out}
use Rattle.vt_core.specs.declared.event.Out.TheVariants.{Moved, Nothing, Failed}
use Rattle.vt_core.specs.Causes.{CallsOne, CallsOnce, CountsOut, IsUndamaged, KeepsStops}
use Rattle.vt_core.specs.Core.{CoreState, setup_of, machine_of, devices_of, each_of, stops_of}
use Rattle.vt_core.specs.Events.{IsWork}
use Rattle.vt_core.specs.Files.{DeviceFiles, all_of}
use Rattle.vt_core.specs.Machine.{Machine}
use Rattle.vt_core.specs.Sound.{IsSound}
use Rattle.vt_recover.specs.Sections.{IsLive}
use Rattle.vt_core.specs.Stands.{StandsFor, ArePartitions}
use Rattle.vt_core.specs.Steps.{Steps, StepsSoundly, LeavesPrefix}
use Rattle.vt_core.specs.Whole.{IsWhole}
use Rattle.vt_core.specs.Work.{out_of_progress}
use Rattle.std.proofs.lemmas.Option.{same_Some}
use Rattle.vt_core.proofs.Calls.{calls_set, calls_front, map_all}
use Rattle.vt_recover.proofs.Places.{length-set, get_set, get_other, map_set, one_or_other}
use Rattle.vt_recover.proofs.Counts.{risen_front}
use Rattle.vt_part.specs.Layout.{layout_of}
use Rattle.vt_part.specs.Table.{Table, IsPartition}
use Rattle.vt_part.specs.Laws.{IsArenaOfTable, LayoutsHaveArenas, ArenasAreInside}
use Rattle.vt_disk.specs.declared.TheConstants.{BLOCK_LEN}
use Rattle.vt_disk.specs.Disk.{ChangesAt}
use Rattle.vt_disk.specs.Region.{Inside}
use Rattle.vt_disk.proofs.Calls.{changes_wider}
use Rattle.vt_core.proofs.Combined.{within_same, covers_longer, of_tables}

-- the laws that are called
abbrev pub MoreDurable : {D : Type 0} → DiskOf D → Type 0
MoreDurable {D} disk = (score : List ℕ → List ℕ) (c : Setup) (t : ShardState D) (h : History) (durable more from : ℕ)
    → IsSoundFrom score c disk t h durable from → durable ≤ more → more ≤ length h → IsSoundFrom score c disk t h more from

abbrev pub EachPrefix : {D : Type 0} → DiskOf D → Type 0
EachPrefix {D} disk = (score : List ℕ → List ℕ) (k : CoreState D) (h : History) (files : DeviceFiles) (n : ℕ) → IsSound score disk k h
    → AreImagesOf disk (devices_of k).sections files.sections → AreImagesOf disk (devices_of k).filter files.filter
    → k.log.durable ≤ n → n ≤ length h → ArePartitions k.log.tables files.partitions
    → LogStandsFor score (setup_of k) (layout_of k.log.tables) files.partitions h n → StandsFor score (setup_of k) k.log.tables files h n

-- a crash leaves each partition of a log its table
abbrev pub HaveTables : {D : Type 0} → DiskOf D → LogState D → Type 0
HaveTables {D} disk l = (i : ℕ) (t : Table) (device : D) (file : List ℕ) → slice_get l.tables i ≡ Some t → slice_get l.disks i ≡ Some device
    → disk.images device file → IsPartition t file

-- and so within a call
tables_within : {D : Type 0} (disk : DiskOf D) (old new : LogState D) (files : List (List ℕ)) → length old.disks ≡ length old.tables → length new.disks ≡ length old.disks → new.tables ≡ old.tables
    → HaveTables disk old → HaveTables disk new → AreWithinCallOf disk old.disks new.disks files → ArePartitions old.tables files
tables_within disk old new files many same tables was is within = record {
  many = within.many ∙ many;
  each = λ i t file at there.
      let before = slice_get_other old.disks files i file within.many there in
      let fit : length files ≡ length new.disks = within.many ∙ sym same in
      let after = slice_get_other new.disks files i file fit there in
      ⊎_elim (λ left. was i t before.0 file at before.1 left)
      (λ left. is i t after.0 file (ap (λ (ts : List Table). slice_get ts i) tables ∙ at) after.1 left)
      (within.each i before.0 after.0 file before.1 after.1 there);
}

zero_or_more : (n : ℕ) → (n ≡ 0) ⊎ (0 < n)
zero_or_more zero = inl refl
zero_or_more (suc n) = inr (omega arith)

none_or_some : {X : Type 0} (o : Option X) → (o ≡ None) ⊎ ((x : X) × (o ≡ Some x))
none_or_some None = inl refl
none_or_some (Some x) = inr (x, refl)

-- a call was made where the log isn't idle and hasn't stopped
pub log_called : {D : Type 0} (disk : DiskOf D) (k : CoreState D) (l : LogState D) (answer : Result Progress LogErr) → LogTakesStep disk answer k.log l
    → (answer ≢ Ok Idle) → ((n : ℕ) → answer ≢ Err (Stopped n)) → (k.log.stopped ≡ None) × CallsArena disk answer k.log l
log_called disk k l answer step busy goes = ⊎_elim
    (λ (none : k.log.stopped ≡ None). ⊎_elim
    (λ (empty : queued k.log ≡ 0). absurd (busy (step.idle none empty)))
    (λ (some : 0 < queued k.log). (none, step.one_call none some))
    (zero_or_more (queued k.log)))
    (λ (it : (n : ℕ) × (k.log.stopped ≡ Some n)). absurd (goes it.0 ((step.stopped it.0).1 it.1)))
    (none_or_some k.log.stopped)

-- what is done behind the block leaves a partition
abbrev pub TablesStay : {D : Type 0} → DiskOf D → Type 0
TablesStay {D} disk = (t : Table) (before after : D) → ChangesAt (λ i. BLOCK_LEN ≤ i) (disk.images before) (disk.images after)
    → ((c : List ℕ) → disk.images before c → IsPartition t c) → (c : List ℕ) → disk.images after c → IsPartition t c

-- a partition's arenas stand behind its block
behind_block : LayoutsHaveArenas → ArenasAreInside → (tables : List Table) (i : ℕ) (r : ArenaRegion) → slice_get (layout_of tables) i ≡ Some r → BLOCK_LEN ≤ r.region.start
behind_block have inside tables i r at =
    let it = at_slice (IsArenaOfTable tables) (layout_of tables) i r (have tables) at in
    subst (λ (q : ArenaRegion). BLOCK_LEN ≤ q.region.start) (sym it.3) (inside it.0 r.number it.2).0

-- a call of the log leaves all tables
pub tables_stay : {D : Type 0} (disk : DiskOf D) (k : CoreState D) (l : LogState D) (answer : Result Progress LogErr) → LogTakesStep disk answer k.log l
    → TablesStay disk → LayoutsHaveArenas → ArenasAreInside → k.log.layout ≡ layout_of k.log.tables → HaveTables disk k.log → HaveTables disk l
tables_stay {D} disk k l answer step stay have inside layout was = leaves answer step.advances (λ busy goes. (log_called disk k l answer step busy goes).1)
  where
    same : l ≡ k.log → HaveTables disk l
    same e = subst (λ (m : LogState D). HaveTables disk m) (sym e) was

    by_call : CallsArena disk answer k.log l → HaveTables disk l
    by_call it i t device file at there left =
        let was_at : slice_get k.log.tables i ≡ Some t = ap (λ (ts : List Table). slice_get ts i) (sym step.kept.1) ∙ at in
        let here : slice_get (slice_set k.log.disks it.r.part it.after) i ≡ Some device = ap (λ (ds : List D). slice_get ds i) (sym it.disks) ∙ there in
        ⊎_elim
        (λ (e : i ≡ it.r.part).
        let new : device ≡ it.after = same_Some device it.after (sym here ∙ ap (λ (j : ℕ). slice_get (slice_set k.log.disks it.r.part it.after) j) e ∙ get_set k.log.disks it.r.part it.after it.before it.was) in
        let old : slice_get k.log.disks i ≡ Some it.before = ap (λ (j : ℕ). slice_get k.log.disks j) e ∙ it.was in
        let begin : BLOCK_LEN ≤ it.r.region.start = behind_block have inside k.log.tables k.log.committing it.r (ap (λ (rs : List ArenaRegion). slice_get rs k.log.committing) (sym layout) ∙ it.arena) in
        let changes : ChangesAt (λ j. BLOCK_LEN ≤ j) (disk.images it.before) (disk.images it.after) =
        changes_wider (Inside it.r.region) (λ j. BLOCK_LEN ≤ j) (λ j within. omega (arith, begin, within.0)) (disk.images it.before) (disk.images it.after) it.writes.images in
        stay t it.before it.after changes (λ c image. was i t it.before c was_at old image) file (subst (λ (d : D). disk.images d file) new left))
        (λ (other : i ≢ it.r.part).
        was i t device file was_at (sym (get_other k.log.disks it.r.part i it.after other) ∙ here) left)
        (one_or_other i it.r.part)

    leaves : (r : Result Progress LogErr) → LogAdvances r k.log l → ((r ≢ Ok Idle) → ((n : ℕ) → r ≢ Err (Stopped n)) → CallsArena disk answer k.log l) → HaveTables disk l
    leaves (Ok Idle) it called = same it.1
    leaves (Ok Step) it called = by_call (called (λ e. cc) (λ n e. cc))
    leaves (Ok (Durable n)) it called = by_call (called (λ e. cc) (λ n e. cc))
    leaves (Err Fault) it called = by_call (called (λ e. cc) (λ n e. cc))
    leaves (Err (Stopped n)) it called = same it.1

-- a log never has fewer durable blocks
pub durable_stays : {D : Type 0} (r : Result Progress LogErr) (old new : LogState D) → LogAdvances r old new → old.durable ≤ new.durable
durable_stays {D} (Ok Idle) old new it = let e = ap (λ (l : LogState D). l.durable) it.1 in omega (arith, e)
durable_stays (Ok Step) old new it = omega (arith, it.0.durable)
durable_stays (Ok (Durable n)) old new it = omega (arith, it.0.durable)
durable_stays (Err Fault) old new it = omega (arith, it.0.durable)
durable_stays {D} (Err (Stopped n)) old new it = let e = ap (λ (l : LogState D). l.durable) it.1 in omega (arith, e)

progress_is_work : (r : Result Progress LogErr) (old new : Machine) → new ≡ old → IsWork (out_of_progress r) old new
progress_is_work (Ok Idle) old new quiet = quiet
progress_is_work (Ok Step) old new quiet = quiet
progress_is_work (Ok (Durable n)) old new quiet = quiet
progress_is_work (Err Fault) old new quiet = quiet
progress_is_work (Err (Stopped n)) old new quiet = quiet

log_many : {D : Type 0} (disk : DiskOf D) (k : CoreState D) (l : LogState D) (r : Result Progress LogErr) → LogAdvances r k.log l
    → ((r ≢ Ok Idle) → ((n : ℕ) → r ≢ Err (Stopped n)) → length l.disks ≡ length k.log.disks) → length l.disks ≡ length k.log.disks
log_many {D} disk k l (Ok Idle) it same = ap (λ (m : LogState D). length m.disks) it.1
log_many disk k l (Ok Step) it same = same (λ e. cc) (λ n e. cc)
log_many disk k l (Ok (Durable n)) it same = same (λ e. cc) (λ n e. cc)
log_many disk k l (Err Fault) it same = same (λ e. cc) (λ n e. cc)
log_many {D} disk k l (Err (Stopped n)) it same = ap (λ (m : LogState D). length m.disks) it.1

module _ {D : Type 0} (score : List ℕ → List ℕ) (disk : DiskOf D) (k : CoreState D) (l : LogState D) (answer : Result Progress LogErr)
    (step : LogTakesStep disk answer k.log l) where
  durable : k.log.durable ≤ l.durable
  durable = durable_stays answer k.log l step.advances

  setup : setup_of (record k { log = l }) ≡ setup_of k
  setup =
      ap (λ (rs : List ArenaRegion). record { arenas = map (λ r. r.region.len) rs; versions = l.versions; base = l.base; sections = (setup_of k).sections }) step.kept.0
      ∙ ap (λ (vs : List ℕ). record { arenas = (setup_of k).arenas; versions = vs; base = l.base; sections = (setup_of k).sections }) step.versions
      ∙ ap (λ (b : ℕ). record { arenas = (setup_of k).arenas; versions = (setup_of k).versions; base = b; sections = (setup_of k).sections }) step.kept.2

  pub log_whole : IsWhole disk k → IsWhole disk (record k { log = l })
  log_whole w = record {
    some_arena = subst (λ (rs : List ArenaRegion). 0 < length rs) (sym step.kept.0) w.some_arena;
    some_shard = w.some_shard;
    few_shards = w.few_shards;
    few_sessions = w.few_sessions;
    shards = λ i s at. let it = w.shards i s at in record {
      live = subst (λ (c : Setup). IsLive c i s.section.head) (sym setup) it.live;
      buckets = it.buckets;
      some = it.some;
      rest = it.rest;
      filed = omega (arith, it.filed, durable);
      mark = omega (arith, it.mark, durable);
      next = omega (arith, it.next, durable);
      writeback = λ below at. let most = it.writeback below at in omega (arith, most, durable);
      numbers = λ info has. let low = it.numbers info has in omega (arith, low, step.front_is);
      bits = it.bits;
    };
    filter = λ b at. let it = w.filter b at in record { counts = it.counts; mark = omega (arith, it.mark, durable); next = omega (arith, it.next, durable); made = it.made };
    synced = omega (arith, w.synced, durable);
    waiting = λ s n at. let low = w.waiting s n at in omega (arith, low, step.front_is);
  }

  log_sound : MoreDurable disk → CoversMore → (h : History) → HaveTables disk l → IsSound score disk k h → IsSoundLog score disk l h → IsSound score disk (record k { log = l }) h
  log_sound grows more h tables sound log =
      let fits : l.durable ≤ length h = omega (arith, log.front) in
      record {
        whole = log_whole sound.whole;
        legal = subst (λ (c : Setup). IsLegal score c h) (sym setup) sound.legal;
        partitions = tables;
        log = log;
        shards = λ i s at. subst (λ (c : Setup). IsSoundShard score c disk s h l.durable) (sym setup)
            (grows score (setup_of k) s h k.log.durable l.durable 0 (sound.shards i s at) durable fits);
        bits = sound.bits;
        filter = λ b at. let it = sound.filter b at in record {
          saved = it.saved;
          coming = it.coming;
          sound = it.sound;
          covers = covers_longer more score h k.log.durable l.durable it.saved durable it.covers;
          coming_covers = λ some. covers_longer more score h k.log.durable l.durable it.coming durable (it.coming_covers some);
        };
      }

  log_quiet : (h : History) → machine_of (record k { log = l }) h ≡ machine_of k h
  log_quiet h = ap (λ (c : Setup). record { setup = c; history = h; synced = k.synced; waiting = k.waiting }) setup

  log_machine : MoreDurable disk → CoversMore → (k.log.layout ≡ layout_of k.log.tables → HaveTables disk k.log → HaveTables disk l) → (IsTrue disk.tells → (h : History) → IsSoundLog score disk k.log h → IsSoundLog score disk l h)
      → IsTrue disk.tells → StepsSoundly score disk LogAdvance (out_of_progress answer) k (record k { log = l })
  log_machine grows more tables sound tells h was =
      (h, progress_is_work answer (machine_of k h) (machine_of (record k { log = l }) h) (log_quiet h), log_sound grows more h (tables was.log.whole.layout was.partitions) was (sound tells h was.log))

  -- there are as many disks
  same_many : length l.disks ≡ length k.log.disks
  same_many = log_many disk k l answer step.advances (λ busy goes. let it = (log_called disk k l answer step busy goes).1 in ap length it.disks ∙ length-set k.log.disks it.r.part it.after)

  log_crash : EachPrefix disk → (k.log.layout ≡ layout_of k.log.tables → HaveTables disk k.log → HaveTables disk l)
      → (IsTrue disk.tells → (h : History) → IsSoundLog score disk k.log h → (files : List (List ℕ)) → AreWithinCallOf disk k.log.disks l.disks files → LogStandsForPrefix score k.log files h)
      → IsTrue disk.tells → LeavesPrefix score disk k (record k { log = l })
  log_crash each tables crash tells h files was within =
      let it = crash tells h was.log files.partitions within.partitions in
      record {
        n = it.0;
        keeps = it.1;
        within = it.2;
        stands = each score k h files it.0 was
            (within_same disk (devices_of k).sections files.sections within.sections) (within_same disk (devices_of k).filter files.filter within.filter)
            it.1 it.2 (tables_within disk k.log l files.partitions was.log.whole.many_disks same_many step.kept.1 was.partitions (tables was.log.whole.layout was.partitions) within.partitions)
            (of_tables k h files.partitions it.0 was.log.whole.layout (record { base = it.3.base; log = it.3.log; versions = it.3.versions; least = it.3.least; most = it.3.most }));
      }

  calls_all : CallsArena disk answer k.log l → CallsOne disk (all_of (devices_of k)) (all_of (devices_of (record k { log = l })))
  calls_all it =
      let set : CallsOne disk k.log.disks l.disks = subst (λ (ds : List D). CallsOne disk k.log.disks ds) (sym it.disks) (calls_set disk k.log.disks it.r.part it.before it.after it.was it.calls) in
      calls_front disk (k.log.disks ++ (devices_of k).sections) (l.disks ++ (devices_of k).sections) (devices_of k).filter
      (calls_front disk k.log.disks l.disks (devices_of k).sections set)

  same_devices : l ≡ k.log → all_of (devices_of (record k { log = l })) ≡ all_of (devices_of k)
  same_devices same = ap (λ (m : LogState D). all_of (devices_of (record k { log = m }))) same

  same_sizes : CallsArena disk answer k.log l → map disk.size l.disks ≡ map disk.size k.log.disks
  same_sizes it = ap (map disk.size) it.disks ∙ map_set disk.size k.log.disks it.r.part it.after it.before it.was it.writes.size

-- ---- by what the log answers

module _ {D : Type 0} (disk : DiskOf D) (k : CoreState D) (l : LogState D) where
  pub log_calls : (r : Result Progress LogErr) → LogAdvances r k.log l
      → ((r ≢ Ok Idle) → ((n : ℕ) → r ≢ Err (Stopped n)) → CallsOne disk (all_of (devices_of k)) (all_of (devices_of (record k { log = l }))))
      → (l ≡ k.log → all_of (devices_of (record k { log = l })) ≡ all_of (devices_of k))
      → CallsOnce disk (out_of_progress r) (all_of (devices_of k)) (all_of (devices_of (record k { log = l })))
  log_calls (Ok Idle) it called same = same it.1
  log_calls (Ok Step) it called same = called (λ e. cc) (λ n e. cc)
  log_calls (Ok (Durable n)) it called same = called (λ e. cc) (λ n e. cc)
  log_calls (Err Fault) it called same = called (λ e. cc) (λ n e. cc)
  log_calls (Err (Stopped n)) it called same = same it.1

  counts_same : (f : D → ℕ) → map f l.disks ≡ map f k.log.disks → each_of f (record k { log = l }) ≡ each_of f k
  counts_same f same = map_all f (devices_of (record k { log = l })) ∙ ap (λ (xs : List ℕ). (xs ++ map f (devices_of k).sections) ++ map f (devices_of k).filter) same ∙ sym (map_all f (devices_of k))

  pub log_counts : (r : Result Progress LogErr) → CountsFaults disk is_fault_now r k.log.disks l.disks → CountsOut (out_of_progress r) (each_of disk.faults k) (each_of disk.faults (record k { log = l }))
  log_counts (Ok Idle) same = counts_same disk.faults same
  log_counts (Ok Step) same = counts_same disk.faults same
  log_counts (Ok (Durable n)) same = counts_same disk.faults same
  log_counts (Err Fault) it =
      let f : D → ℕ = disk.faults in
      subst (λ (xs : List ℕ). OneHasRisen xs (each_of f (record k { log = l }))) (sym (map_all f (devices_of k)))
      (subst (λ (ys : List ℕ). OneHasRisen ((map f k.log.disks ++ map f (devices_of k).sections) ++ map f (devices_of k).filter) ys) (sym (map_all f (devices_of (record k { log = l }))))
      (risen_front (map f k.log.disks ++ map f (devices_of k).sections) (map f l.disks ++ map f (devices_of k).sections) (map f (devices_of k).filter)
      (risen_front (map f k.log.disks) (map f l.disks) (map f (devices_of k).sections) it)))
  log_counts (Err (Stopped n)) same = counts_same disk.faults same

  pub log_undamaged : (r : Result Progress LogErr) → IsUndamaged (out_of_progress r)
  log_undamaged (Ok Idle) = tt
  log_undamaged (Ok Step) = tt
  log_undamaged (Ok (Durable n)) = tt
  log_undamaged (Err Fault) = tt
  log_undamaged (Err (Stopped n)) = tt

  stops_same : l.stopped ≡ k.log.stopped → stops_of (record k { log = l }) ≡ stops_of k
  stops_same same = ap (λ (s : Option ℕ). s ∷ (map (λ t. t.section.stopped) k.shards ++ map (λ b. b.calls.stopped) (option_to_list k.bloom))) same

  kept_stops : (out : Out) → l.stopped ≡ k.log.stopped → KeepsStops out k (record k { log = l })
  kept_stops out same = let e = stops_same same in record { stay = λ i call at. ap (λ (ss : List (Option ℕ)). slice_get ss i) e ∙ at; cause = λ _. e }

  pub log_stops : (r : Result Progress LogErr) → LogAdvances r k.log l → ((r ≢ Ok Idle) → ((n : ℕ) → r ≢ Err (Stopped n)) → k.log.stopped ≡ None)
      → KeepsStops (out_of_progress r) k (record k { log = l })
  log_stops (Ok Idle) it none = kept_stops Nothing (ap (λ (m : LogState D). m.stopped) it.1)
  log_stops (Ok Step) it none = kept_stops Moved (it.1 ∙ sym (none (λ e. cc) (λ n e. cc)))
  log_stops (Ok (Durable n)) it none = kept_stops Moved (it.2 ∙ sym (none (λ e. cc) (λ n e. cc)))
  log_stops (Err Fault) it none =
      let was : k.log.stopped ≡ None = none (λ e. cc) (λ n e. cc) in
      record { stay = stay was; cause = λ other. absurd (other refl) }
    where
      stay : k.log.stopped ≡ None → (i call : ℕ) → slice_get (stops_of k) i ≡ Some (Some call) → slice_get (stops_of (record k { log = l })) i ≡ Some (Some call)
      stay was zero call at = absurd (cc)
      stay was (suc i) call at = at
  log_stops (Err (Stopped n)) it none = kept_stops (Failed (WhyStopped n)) (ap (λ (m : LogState D). m.stopped) it.1)

  pub log_sizes : (r : Result Progress LogErr) → LogAdvances r k.log l → ((r ≢ Ok Idle) → ((n : ℕ) → r ≢ Err (Stopped n)) → map disk.size l.disks ≡ map disk.size k.log.disks)
      → each_of disk.size (record k { log = l }) ≡ each_of disk.size k
  log_sizes (Ok Idle) it same = counts_same disk.size (ap (λ (m : LogState D). map disk.size m.disks) it.1)
  log_sizes (Ok Step) it same = counts_same disk.size (same (λ e. cc) (λ n e. cc))
  log_sizes (Ok (Durable n)) it same = counts_same disk.size (same (λ e. cc) (λ n e. cc))
  log_sizes (Err Fault) it same = counts_same disk.size (same (λ e. cc) (λ n e. cc))
  log_sizes (Err (Stopped n)) it same = counts_same disk.size (ap (λ (m : LogState D). map disk.size m.disks) it.1)

-- All of it.
pub log_steps : {D : Type 0} (score : List ℕ → List ℕ) (disk : DiskOf D) (k : CoreState D) (l : LogState D) (answer : Result Progress LogErr) (step : LogTakesStep disk answer k.log l)
    → MoreDurable disk → EachPrefix disk → CoversMore → IsWhole disk k → (k.log.layout ≡ layout_of k.log.tables → HaveTables disk k.log → HaveTables disk l)
    → (IsTrue disk.tells → (h : History) → IsSoundLog score disk k.log h → IsSoundLog score disk l h)
    → (IsTrue disk.tells → (h : History) → IsSoundLog score disk k.log h → (files : List (List ℕ)) → AreWithinCallOf disk k.log.disks l.disks files → LogStandsForPrefix score k.log files h)
    → Steps score disk LogAdvance (out_of_progress answer) k (record k { log = l })
log_steps score disk k l answer step grows each more whole tables sound crash =
    let low = durable_stays answer k.log l step.advances in
    record {
      machine = log_machine score disk k l answer step grows more tables sound;
      crash = log_crash score disk k l answer step each tables crash;
      undamaged = λ _ _ _. log_undamaged disk k l answer;
      does = record { answer = answer; step = step; out_is = refl; same = refl };
      calls = log_calls disk k l answer step.advances
          (λ busy goes. calls_all score disk k l answer step (log_called disk k l answer step busy goes).1)
          (same_devices score disk k l answer step);
      counts = log_counts disk k l answer step.cause;
      stops = log_stops disk k l answer step.advances (λ busy goes. (log_called disk k l answer step busy goes).0);
      goes_on = record {
        store = record {
          tables = step.kept.1;
          layout = step.kept.0;
          setup = setup score disk k l answer step;
          shards = refl;
          filter = refl;
          counts = (refl, refl);
          sizes = log_sizes disk k l answer step.advances
              (λ busy goes. same_sizes score disk k l answer step (log_called disk k l answer step busy goes).1);
          sessions = refl;
          len = omega (arith, step.front_is);
          durable = low;
          synced = omega arith;
        };
        one_more = omega (arith, step.front_is);
        synced_before = whole.synced;
      };
    }
