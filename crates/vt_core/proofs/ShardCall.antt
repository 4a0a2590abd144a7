-- A shard's device call, among those of the store.
use Rattle.std.proofs.Common.{◌≡◌, ◌≢◌, ◌⊎◌, ⊎_elim, inl, inr, ℕ, zero, suc, ◌<◌, ◌≤◌, List, [], ◌∷◌, ◌++◌, length, map, take, Option, Some, None, refl, sym, ◌∙◌, ap, subst, arith}
use Rattle.std.specs.Prelude.{slice_get, slice_set, IsTrue, IsSome, IfErr, Result, Ok, Err}
use Rattle.std.specs.Option.{option_to_list}
use Rattle.std.proofs.lemmas.List.{length-map}
use Rattle.std.proofs.lemmas.Option.{same_Some}
use Rattle.vt_base.specs.Faults.{HasRisen, CountsFault}
use Rattle.vt_disk.specs.Calls.{MadeCalls}
use Rattle.vt_disk.specs.Disk.{WithinCall}
use Rattle.vt_disk.specs.Members.{DiskOf}
use Rattle.vt_log.specs.Faults.{OneHasRisen}
use Rattle.vt_log.specs.Sound.{AreWithinCallOf}
use Rattle.vt_model.specs.History.{History}
use Rattle.vt_isect.specs.Faults.{is_section_fault}
use Rattle.vt_isect.specs.Section.{SectionState}
use Rattle.vt_isect.specs.Writeback.{SectionAdvances}
use Rattle.vt_isect.specs.declared.head.Head.{Head}
use Rattle.vt_isect.specs.declared.phase.Phase.{Phase}
use Rattle.vt_isect.specs.declared.phase.Phase.TheVariants.{Rest, ReadSelector, ReadFrame, WriteFrame, SyncFrames, WriteSelector, SyncSelectors, ChangeHead}
use Rattle.vt_isect.specs.declared.error.ShardErr.{ShardErr}
use Rattle.vt_isect.specs.declared.error.ShardErr.TheVariants.{Fault, Damaged, Stopped}
use Rattle.vt_twin.specs.declared.step.Step.{Step}
use Rattle.vt_twin.specs.declared.step.Step.TheVariants.{More, Done}
use Rattle.vt_shard.specs.Shard.{ShardState}
use Rattle.vt_shard.specs.Sound.{IsSoundShard, KeepsSound, LeavesLive}
use Rattle.vt_shard.specs.Writeback.{ShardTakesStep, ReadsFrame, ShardMakesCall, without_list}
use Rattle.vt_core.specs.declared.event.Out.{Out}
use Rattle.vt_core.specs.declared.event.Out.TheVariants.{Moved, Nothing}
use Rattle.vt_core.specs.declared.event.Event.TheVariants.{FileAdvance}
use Rattle.vt_core.specs.Causes.{CallsOnce, CallsOne, CountsOut, IsUndamaged, KeepsStops}
use Rattle.vt_core.specs.Core.{CoreState, setup_of, machine_of, devices_of, each_of, stops_of}
use Rattle.vt_core.specs.Events.{IsWork}
use Rattle.vt_core.specs.Files.{DeviceFiles, PerDevice, all_of}
use Rattle.vt_core.specs.Sound.{IsSound}
use Rattle.vt_recover.specs.Sections.{SectionStandsFor}
use Rattle.vt_core.specs.Machine.{Machine}
use Rattle.vt_core.specs.Steps.{Steps, LeavesPrefix}
use Rattle.vt_core.specs.Whole.{IsWhole, IsShardOf}
use Rattle.vt_core.specs.Work.{out_of_writeback}
use Rattle.vt_recover.proofs.Places.{get_set, get_other, length-set, within_get, map_set, map_then, one_or_other, map_over_set}
use Rattle.vt_core.proofs.Calls.{map_all, joined, with_ends, calls_set, calls_front, calls_behind}
use Rattle.vt_recover.proofs.Counts.{risen_front, risen_behind, risen_set}
use Rattle.vt_core.proofs.Combined.{within_same, section_stands}
use Rattle.vt_recover.proofs.Lists.{at_map, index_map}
use Rattle.vt_core.proofs.Recovered.{GivesPrefix}
use Rattle.vt_core.proofs.ShardWork.{Keeps, in_memory, quiet_steps, shard_sound, shard_quiet, shard_goes_on}
use Rattle.vt_recover.proofs.WritingBack.{fewer}

-- ---- a place of a list

pub set_is : {X : Type 0} (xs : List X) (i : ℕ) (x y : X) → slice_get (slice_set xs i x) i ≡ Some y → x ≡ y
set_is [] i x y at = absurd (cc)
set_is (z ∷ xs) zero x y at = same_Some x y at
set_is (z ∷ xs) (suc i) x y at = set_is xs i x y at

-- a stop stays where another part stops
pub stays_set : (xs : List (Option ℕ)) (i j call : ℕ) (x : Option ℕ) → slice_get xs i ≡ Some None → slice_get xs j ≡ Some (Some call) → slice_get (slice_set xs i x) j ≡ Some (Some call)
stays_set xs i j call x none at = ⊎_elim
    (λ (e : j ≡ i). let no : Some None ≡ Some (Some call) = sym none ∙ ap (λ (n : ℕ). slice_get xs n) (sym e) ∙ at in absurd (cc))
    (λ (other : j ≢ i). get_other xs i j x other ∙ at)
    (one_or_other j i)

pub stays_front : (xs ys zs : List (Option ℕ)) (call : ℕ) → length ys ≡ length xs → ((j : ℕ) → slice_get xs j ≡ Some (Some call) → slice_get ys j ≡ Some (Some call))
    → (j : ℕ) → slice_get (xs ++ zs) j ≡ Some (Some call) → slice_get (ys ++ zs) j ≡ Some (Some call)
stays_front [] [] zs call many stay j at = at
stays_front [] (y ∷ ys) zs call many stay j at = absurd (omega (arith, many))
stays_front (x ∷ xs) [] zs call many stay j at = absurd (omega (arith, many))
stays_front (x ∷ xs) (y ∷ ys) zs call many stay zero at = stay zero at
stays_front (x ∷ xs) (y ∷ ys) zs call many stay (suc j) at = stays_front xs ys zs call (omega (arith, many)) (λ n here. stay (suc n) here) j at

-- ---- the store around the shard

pub none_of : (stop : Option ℕ) → ((n : ℕ) → stop ≡ Some n → ⊥) → stop ≡ None
none_of None none = refl
none_of (Some n) none = absurd (none n refl)

module _ {D : Type 0} (score : List ℕ → List ℕ) (disk : DiskOf D) (k : CoreState D) (i : ℕ) (before after : ShardState D)
    (at : slice_get k.shards i ≡ Some before) where
  sections_are : (devices_of (record k { shards = slice_set k.shards i after })).sections ≡ slice_set (devices_of k).sections i after.section.disk
  sections_are = map_over_set (λ s. s.section.disk) k.shards i after

  -- each other section is as it was, and this one is taken as it reads
  images : ((d : D) → IsTrue disk.tells → disk.images d (disk.bytes d)) → IsTrue disk.tells → (files : DeviceFiles)
      → AreWithinCallOf disk (devices_of k).sections (devices_of (record k { shards = slice_set k.shards i after })).sections files.sections
      → slice_get (devices_of k).sections i ≡ Some before.section.disk → (j : ℕ) (device : D) (file : List ℕ) → slice_get (devices_of k).sections j ≡ Some device
      → slice_get (slice_set files.sections i (disk.bytes before.section.disk)) j ≡ Some file → disk.images device file
  images reads tells files within there j device file at_j is = ⊎_elim
      (λ (e : j ≡ i).
      let here : before.section.disk ≡ device = same_Some before.section.disk device (sym there ∙ ap (λ (m : ℕ). slice_get (devices_of k).sections m) (sym e) ∙ at_j) in
      let read : disk.bytes before.section.disk ≡ file = set_is files.sections i (disk.bytes before.section.disk) file (ap (λ (m : ℕ). slice_get (slice_set files.sections i (disk.bytes before.section.disk)) m) (sym e) ∙ is) in
      subst (λ (d : D). disk.images d file) here (subst (λ (f : List ℕ). disk.images before.section.disk f) read (reads before.section.disk tells)))
      (λ (other : j ≢ i).
      let new_at : slice_get (devices_of (record k { shards = slice_set k.shards i after })).sections j ≡ Some device =
      ap (λ (ds : List D). slice_get ds j) sections_are ∙ get_other (devices_of k).sections i j after.section.disk other ∙ at_j in
      ⊎_elim (λ left. left) (λ left. left) (within.each j device device file at_j new_at (sym (get_other files.sections i j (disk.bytes before.section.disk) other) ∙ is)))
      (one_or_other j i)

  -- within its call a crash leaves what the log says, with a section that goes with it
  pub shard_crash : GivesPrefix disk → ((d : D) → IsTrue disk.tells → disk.images d (disk.bytes d))
      → ((h : History) (n : ℕ) → IsSoundShard score (setup_of k) disk before h k.log.durable → k.log.durable ≤ n → n ≤ length h → (file : List ℕ)
      → WithinCall (disk.images before.section.disk) (disk.images after.section.disk) file → LeavesLive score (setup_of k) (take n h) before file)
      → IsTrue disk.tells → LeavesPrefix score disk k (record k { shards = slice_set k.shards i after })
  shard_crash gives reads leaves tells h files was within =
      let there : slice_get (devices_of k).sections i ≡ Some before.section.disk = at_map (λ s. s.section.disk) k.shards i before at in
      let new_there : slice_get (devices_of (record k { shards = slice_set k.shards i after })).sections i ≡ Some after.section.disk =
      at_map (λ s. s.section.disk) (slice_set k.shards i after) i after (get_set k.shards i after before at) in
      let rest : DeviceFiles = record files { sections = slice_set files.sections i (disk.bytes before.section.disk) } in
      let it = gives score k h rest was (record {
        partitions = within_same disk k.log.disks files.partitions within.partitions;
        sections = record { many = length-set files.sections i (disk.bytes before.section.disk) ∙ within.sections.many; each = images reads tells files within.sections there };
        filter = within_same disk (devices_of k).filter files.filter within.filter;
      }) in
      record {
        n = it.n;
        keeps = it.keeps;
        within = it.within;
        stands = record {
          partitions = it.stands.partitions;
          log = it.stands.log;
          many = sym (length-set files.sections i (disk.bytes before.section.disk)) ∙ it.stands.many;
          sections = λ j file here. ⊎_elim
              (λ (e : j ≡ i).
              let at_i : slice_get files.sections i ≡ Some file = ap (λ (m : ℕ). slice_get files.sections m) (sym e) ∙ here in
              subst (λ (m : ℕ). SectionStandsFor score (setup_of k) (take it.n h) m file) (sym e)
              (section_stands score (setup_of k) (take it.n h) i before file (sym (index_map (λ t. t.section.buckets) k.shards i before at)) (was.whole.shards i before at).live
              (leaves h it.n (was.shards i before at) it.keeps it.within file (within.sections.each i before.section.disk after.section.disk file there new_there at_i))))
              (λ (other : j ≢ i). it.stands.sections j file (get_other files.sections i j (disk.bytes before.section.disk) other ∙ here))
              (one_or_other j i);
          filter = it.stands.filter;
        };
      }

  all_called : MadeCalls disk 1 before.section.disk after.section.disk → CallsOne disk (all_of (devices_of k)) (all_of (devices_of (record k { shards = slice_set k.shards i after })))
  all_called made =
      let one : CallsOne disk (devices_of k).sections (devices_of (record k { shards = slice_set k.shards i after })).sections =
      subst (λ (ds : List D). CallsOne disk (devices_of k).sections ds) (sym sections_are)
      (calls_set disk (devices_of k).sections i before.section.disk after.section.disk (at_map (λ s. s.section.disk) k.shards i before at) made) in
      calls_front disk (k.log.disks ++ (devices_of k).sections) (k.log.disks ++ (devices_of (record k { shards = slice_set k.shards i after })).sections) (devices_of k).filter
      (calls_behind disk k.log.disks (devices_of k).sections (devices_of (record k { shards = slice_set k.shards i after })).sections one)

  runs : (r : Result Step ShardErr) → ShardTakesStep r before after → ((n : ℕ) → r ≢ Err (Stopped n)) → before.section.stopped ≡ None
  runs r step goes = none_of before.section.stopped (λ n is. goes n ((step.stopped n).1 is))

  same_all : after ≡ before → all_of (devices_of (record k { shards = slice_set k.shards i after })) ≡ all_of (devices_of k)
  same_all same = ap (λ (ds : List D). joined k.log.disks ds (devices_of k).filter) (map_set (λ s. s.section.disk) k.shards i after before at (ap (λ (s : ShardState D). s.section.disk) same))

  pub shard_calls : (r : Result Step ShardErr) → ShardTakesStep r before after → ShardMakesCall disk r before after
      → CallsOnce disk (out_of_writeback r) (all_of (devices_of k)) (all_of (devices_of (record k { shards = slice_set k.shards i after })))
  shard_calls (Ok step) takes made = all_called (made.calls (runs (Ok step) takes (λ n e. cc)))
  shard_calls (Err Fault) takes made = all_called (made.calls (runs (Err Fault) takes (λ n e. cc)))
  shard_calls (Err (Damaged bucket want found)) takes made = all_called (made.calls (runs (Err (Damaged bucket want found)) takes (λ n e. cc)))
  shard_calls (Err (Stopped n)) takes made = same_all (takes.untouched (subst (λ (o : Option ℕ). IsSome o) (sym ((takes.stopped n).0 refl)) refl))

  -- a count of each device
  pub counts_same : (f : D → ℕ) → f after.section.disk ≡ f before.section.disk → each_of f (record k { shards = slice_set k.shards i after }) ≡ each_of f k
  counts_same f same =
      let new : PerDevice D = devices_of (record k { shards = slice_set k.shards i after }) in
      let sections : map f new.sections ≡ map f (devices_of k).sections =
      sym (map_then (λ (s : ShardState D). s.section.disk) f (slice_set k.shards i after))
      ∙ map_set (λ (s : ShardState D). f s.section.disk) k.shards i after before at same
      ∙ map_then (λ (s : ShardState D). s.section.disk) f k.shards in
      map_all f new ∙ ap (λ (ns : List ℕ). joined (map f k.log.disks) ns (map f (devices_of k).filter)) sections ∙ sym (map_all f (devices_of k))

  pub counts_rose : HasRisen (disk.faults before.section.disk) (disk.faults after.section.disk) → OneHasRisen (each_of disk.faults k) (each_of disk.faults (record k { shards = slice_set k.shards i after }))
  counts_rose rose =
      let f : D → ℕ = disk.faults in
      let there : slice_get (devices_of k).sections i ≡ Some before.section.disk = at_map (λ s. s.section.disk) k.shards i before at in
      let new : map f (devices_of (record k { shards = slice_set k.shards i after })).sections ≡ slice_set (map f (devices_of k).sections) i (f after.section.disk) =
      ap (map f) sections_are ∙ map_over_set f (devices_of k).sections i after.section.disk in
      let below : i < length (map f (devices_of k).sections) = omega (arith, length-map (devices_of k).sections f, within_get (devices_of k).sections i before.section.disk there) in
      let one : OneHasRisen (map f (devices_of k).sections) (map f (devices_of (record k { shards = slice_set k.shards i after })).sections) =
      subst (λ (ns : List ℕ). OneHasRisen (map f (devices_of k).sections) ns) (sym new)
      (risen_set (map f (devices_of k).sections) i (f after.section.disk) below
      (subst (λ (n : ℕ). HasRisen n (f after.section.disk)) (sym (index_map f (devices_of k).sections i before.section.disk there)) rose)) in
      subst (λ (xs : List ℕ). OneHasRisen xs (each_of f (record k { shards = slice_set k.shards i after }))) (sym (map_all f (devices_of k)))
      (subst (λ (ys : List ℕ). OneHasRisen (joined (map f k.log.disks) (map f (devices_of k).sections) (map f (devices_of k).filter)) ys) (sym (map_all f (devices_of (record k { shards = slice_set k.shards i after }))))
      (risen_front (map f k.log.disks ++ map f (devices_of k).sections) (map f k.log.disks ++ map f (devices_of (record k { shards = slice_set k.shards i after })).sections) (map f (devices_of k).filter)
      (risen_behind (map f k.log.disks) (map f (devices_of k).sections) (map f (devices_of (record k { shards = slice_set k.shards i after })).sections) one)))

  pub shard_counts : (r : Result Step ShardErr) → CountsFault is_section_fault r (disk.faults before.section.disk) (disk.faults after.section.disk)
      → CountsOut (out_of_writeback r) (each_of disk.faults k) (each_of disk.faults (record k { shards = slice_set k.shards i after }))
  shard_counts (Ok step) same = counts_same disk.faults same
  shard_counts (Err Fault) rose = counts_rose rose
  shard_counts (Err (Damaged bucket want found)) same = counts_same disk.faults same
  shard_counts (Err (Stopped n)) same = counts_same disk.faults same

  -- a stop
  stops_are : stops_of (record k { shards = slice_set k.shards i after }) ≡ with_ends k.log.stopped (slice_set (map (λ s. s.section.stopped) k.shards) i after.section.stopped) (map (λ b. b.calls.stopped) (option_to_list k.bloom))
  stops_are = ap (λ (ss : List (Option ℕ)). with_ends k.log.stopped ss (map (λ b. b.calls.stopped) (option_to_list k.bloom))) (map_over_set (λ s. s.section.stopped) k.shards i after)

  same_stops : after.section.stopped ≡ before.section.stopped → stops_of (record k { shards = slice_set k.shards i after }) ≡ stops_of k
  same_stops same = ap (λ (ss : List (Option ℕ)). with_ends k.log.stopped ss (map (λ b. b.calls.stopped) (option_to_list k.bloom)))
      (map_set (λ s. s.section.stopped) k.shards i after before at same)

  kept_stops : (out : Out) → after.section.stopped ≡ before.section.stopped → KeepsStops out k (record k { shards = slice_set k.shards i after })
  kept_stops out same = let e = same_stops same in record { stay = λ j call here. ap (λ (ss : List (Option ℕ)). slice_get ss j) e ∙ here; cause = λ _. e }

  others_stay : before.section.stopped ≡ None → (j call : ℕ) → slice_get (stops_of k) j ≡ Some (Some call) → slice_get (stops_of (record k { shards = slice_set k.shards i after })) j ≡ Some (Some call)
  others_stay none zero call here = here
  others_stay none (suc j) call here =
      let there : slice_get (map (λ s. s.section.stopped) k.shards) i ≡ Some None = at_map (λ s. s.section.stopped) k.shards i before at ∙ ap Some none in
      ap (λ (ss : List (Option ℕ)). slice_get ss (suc j)) stops_are
      ∙ stays_front (map (λ s. s.section.stopped) k.shards) (slice_set (map (λ s. s.section.stopped) k.shards) i after.section.stopped) (map (λ b. b.calls.stopped) (option_to_list k.bloom)) call
      (length-set (map (λ s. s.section.stopped) k.shards) i after.section.stopped)
      (λ n is. stays_set (map (λ s. s.section.stopped) k.shards) i n call after.section.stopped there is) j here

-- ---- what a step leaves of the section

-- the memory of the list is all that goes at rest
list_stop : {D : Type 0} (p : Phase) (t : SectionState D) → (without_list p t).stopped ≡ t.stopped
list_stop Rest t = refl
list_stop ReadSelector t = refl
list_stop (ReadFrame s) t = refl
list_stop (WriteFrame s) t = refl
list_stop SyncFrames t = refl
list_stop (WriteSelector j) t = refl
list_stop SyncSelectors t = refl
list_stop ChangeHead t = refl

pub list_head : {D : Type 0} (p : Phase) (t : SectionState D) → (without_list p t).head ≡ t.head
list_head Rest t = refl
list_head ReadSelector t = refl
list_head (ReadFrame s) t = refl
list_head (WriteFrame s) t = refl
list_head SyncFrames t = refl
list_head (WriteSelector j) t = refl
list_head SyncSelectors t = refl
list_head ChangeHead t = refl

pub list_next : {D : Type 0} (p : Phase) (t : SectionState D) → (without_list p t).next ≡ t.next
list_next Rest t = refl
list_next ReadSelector t = refl
list_next (ReadFrame s) t = refl
list_next (WriteFrame s) t = refl
list_next SyncFrames t = refl
list_next (WriteSelector j) t = refl
list_next SyncSelectors t = refl
list_next ChangeHead t = refl

at_rest_or_not : (p : Phase) → (p ≡ Rest) ⊎ (p ≢ Rest)
at_rest_or_not Rest = inl refl
at_rest_or_not ReadSelector = inr (λ e. cc)
at_rest_or_not (ReadFrame s) = inr (λ e. cc)
at_rest_or_not (WriteFrame s) = inr (λ e. cc)
at_rest_or_not SyncFrames = inr (λ e. cc)
at_rest_or_not (WriteSelector j) = inr (λ e. cc)
at_rest_or_not SyncSelectors = inr (λ e. cc)
at_rest_or_not ChangeHead = inr (λ e. cc)

-- none of them stops but at a disk fault
section_stop : {D : Type 0} (r : Result Step ShardErr) (old new : SectionState D) → SectionAdvances r old new → r ≢ Err Fault → old.stopped ≡ None → new.stopped ≡ None
section_stop (Ok More) old new it other none = it.1
section_stop (Ok Done) old new it other none = it.2.stopped
section_stop (Err Fault) old new it other none = absurd (other refl)
section_stop (Err (Damaged bucket want found)) old new it other none = it.1.stopped
section_stop {D} (Err (Stopped n)) old new it other none = ap (λ (t : SectionState D). t.stopped) it.1 ∙ none

goes_stop : {D : Type 0} (before after : ShardState D) (r : Result Step ShardErr) → ShardTakesStep r before after → r ≢ Err Fault → before.section.stopped ≡ None
    → after.section.stopped ≡ before.section.stopped
goes_stop {D} before after r takes other none =
    let it = takes.advances.section in
    ap (λ (t : SectionState D). t.stopped) it.2 ∙ list_stop it.0.phase it.0 ∙ section_stop r before.section it.0 it.1 other none ∙ sym none

-- and the marks are those that were there
marks_within : {D : Type 0} (r : Result Step ShardErr) (old new : SectionState D) (m : ℕ) → SectionAdvances r old new → old.head.mark ≤ m → old.next.mark ≤ m
    → (new.head.mark ≤ m) × (new.next.mark ≤ m)
marks_within (Ok More) old new m it head next = (omega (arith, ap (λ (h : Head). h.mark) it.0.head_is, head), omega (arith, ap (λ (h : Head). h.mark) it.0.next_is, next))
marks_within (Ok Done) old new m it head next = (omega (arith, ap (λ (h : Head). h.mark) it.2.head_is, next), omega (arith, ap (λ (h : Head). h.mark) it.2.next_is, next))
marks_within (Err Fault) old new m it head next = ⊎_elim
    (λ read. (omega (arith, ap (λ (h : Head). h.mark) read.1.head_is, head), omega (arith, ap (λ (h : Head). h.mark) read.1.next_is, head)))
    (λ goes. (omega (arith, ap (λ (h : Head). h.mark) goes.1.head_is, head), omega (arith, ap (λ (h : Head). h.mark) goes.1.next_is, next)))
    it
marks_within (Err (Damaged bucket want found)) old new m it head next = (omega (arith, ap (λ (h : Head). h.mark) it.1.head_is, head), omega (arith, ap (λ (h : Head). h.mark) it.1.next_is, head))
marks_within {D} (Err (Stopped n)) old new m it head next = (omega (arith, ap (λ (t : SectionState D). t.head.mark) it.1, head), omega (arith, ap (λ (t : SectionState D). t.next.mark) it.1, next))

no_some : (o : Option ℕ) → o ≡ None → IsSome o → ⊥
no_some None is some = absurd (cc)
no_some (Some n) is some = absurd (cc)

-- what a shard keeps in a step of its writeback
pub step_keeps : {D : Type 0} (disk : DiskOf D) (k : CoreState D) (i : ℕ) (before after : ShardState D) (r : Result Step ShardErr) → IsShardOf disk k i k.log.durable before
    → IsSome before.writeback → ShardTakesStep r before after → ShardMakesCall disk r before after → Keeps disk k.log.durable before after
step_keeps {D} disk k i before after r was under takes made =
    let it = takes.advances.section in
    let marks = marks_within r before.section it.0 k.log.durable it.1 was.mark was.next in
    let head : after.section.head ≡ it.0.head = ap (λ (t : SectionState D). t.head) it.2 ∙ list_head it.0.phase it.0 in
    let next : after.section.next ≡ it.0.next = ap (λ (t : SectionState D). t.next) it.2 ∙ list_next it.0.phase it.0 in
    record {
      place = takes.place;
      size = made.writes.size;
      rest = λ none. ⊎_elim
          (λ there. there)
          (λ goes. absurd (no_some before.writeback (sym (takes.advances.goes_on goes) ∙ none) under))
          (at_rest_or_not after.section.phase);
      filed = omega (arith, takes.advances.filed, was.filed);
      writeback = λ below is. ⊎_elim
          (λ rest. let none : None ≡ Some below = sym (takes.advances.ends rest) ∙ is in absurd (cc))
          (λ goes. was.writeback below (sym (takes.advances.goes_on goes) ∙ is))
          (at_rest_or_not after.section.phase);
      mark = omega (arith, ap (λ (h : Head). h.mark) head, marks.0);
      next = omega (arith, ap (λ (h : Head). h.mark) next, marks.1);
      dirty = fewer before.writeback refl under takes;
    }

-- its outs are the store's own work
writeback_is_work : (r : Result Step ShardErr) (old new : Machine) → new ≡ old → IsWork (out_of_writeback r) old new
writeback_is_work (Ok step) old new same = same
writeback_is_work (Err bad) old new same = same

-- a stop stays, and comes only with a disk fault
pub shard_stops : {D : Type 0} (score : List ℕ → List ℕ) (disk : DiskOf D) (k : CoreState D) (i : ℕ) (before after : ShardState D) (at : slice_get k.shards i ≡ Some before)
    (r : Result Step ShardErr) → ShardTakesStep r before after → KeepsStops (out_of_writeback r) k (record k { shards = slice_set k.shards i after })
shard_stops score disk k i before after at (Ok step) takes = kept_stops score disk k i before after at Moved
    (goes_stop before after (Ok step) takes (λ e. cc) (runs score disk k i before after at (Ok step) takes (λ n e. cc)))
shard_stops score disk k i before after at (Err Fault) takes = record {
  stay = others_stay score disk k i before after at (runs score disk k i before after at (Err Fault) takes (λ n e. cc));
  cause = λ other. absurd (other refl);
}
shard_stops score disk k i before after at (Err (Damaged bucket want found)) takes = kept_stops score disk k i before after at (out_of_writeback (Err (Damaged bucket want found)))
    (goes_stop before after (Err (Damaged bucket want found)) takes (λ e. cc) (runs score disk k i before after at (Err (Damaged bucket want found)) takes (λ n e. cc)))
shard_stops score disk k i before after at (Err (Stopped n)) takes = kept_stops score disk k i before after at (out_of_writeback (Err (Stopped n)))
    (ap (λ (s : ShardState _). s.section.stopped) (takes.untouched (subst (λ (o : Option ℕ). IsSome o) (sym ((takes.stopped n).0 refl)) refl)))

-- All of it, where a writeback is under way.
pub call_steps : {D : Type 0} (score : List ℕ → List ℕ) (disk : DiskOf D) (k : CoreState D) (i : ℕ) (before after : ShardState D) (at : slice_get k.shards i ≡ Some before)
    (r : Result Step ShardErr) → GivesPrefix disk → IsWhole disk k → ((d : D) → IsTrue disk.tells → disk.images d (disk.bytes d))
    → (under : IsSome before.writeback) → (takes : ShardTakesStep r before after) → (reads : ReadsFrame disk r before after) → (made : ShardMakesCall disk r before after)
    → (IsTrue disk.tells → KeepsSound disk before after)
    → (IsTrue disk.tells → (h : History) (n : ℕ) → IsSoundShard score (setup_of k) disk before h k.log.durable → k.log.durable ≤ n → n ≤ length h → (file : List ℕ)
    → WithinCall (disk.images before.section.disk) (disk.images after.section.disk) file → LeavesLive score (setup_of k) (take n h) before file)
    → (IsTrue disk.tells → (h : History) → IsSound score disk k h → IsUndamaged (out_of_writeback r))
    → Steps score disk (FileAdvance i) (out_of_writeback r) k (record k { shards = slice_set k.shards i after })
call_steps score disk k i before after at r gives w images under takes reads made sound leaves undamaged =
    let keeps = step_keeps disk k i before after r (w.shards i before at) under takes made in
    record {
      machine = λ tells h was. (
        h,
        writeback_is_work r (machine_of k h) (machine_of (record k { shards = slice_set k.shards i after }) h) (shard_quiet score disk k i before after at keeps h),
        shard_sound score disk k i before after at keeps h was (sound tells score (setup_of k) h k.log.durable 0 (was.shards i before at)),
      );
      crash = λ tells. shard_crash score disk k i before after at gives images (leaves tells) tells;
      undamaged = λ h tells was. undamaged tells h was;
      does = record { before = before; after = after; at = at; changes = inr (under, (r, takes, reads, made, refl)); same = refl };
      calls = shard_calls score disk k i before after at r takes made;
      counts = shard_counts score disk k i before after at r made.faults;
      stops = shard_stops score disk k i before after at r takes;
      goes_on = shard_goes_on score disk k i before after at keeps w;
    }

-- it tells of no damage where there is none
pub never_damaged : (r : Result Step ShardErr) → IfErr r (λ bad. (bad ≡ Fault) ⊎ ((n : ℕ) × (bad ≡ Stopped n))) → IsUndamaged (out_of_writeback r)
never_damaged (Ok step) it = tt
never_damaged (Err bad) it = ⊎_elim
    (λ fault. subst (λ (b : ShardErr). IsUndamaged (out_of_writeback (Err b))) (sym fault) tt)
    (λ stopped. subst (λ (b : ShardErr). IsUndamaged (out_of_writeback (Err b))) (sym stopped.1) tt)
    it

-- Nothing happens where none is under way.
pub idle_steps : {D : Type 0} (score : List ℕ → List ℕ) (disk : DiskOf D) (k : CoreState D) (i : ℕ) (before : ShardState D) (at : slice_get k.shards i ≡ Some before)
    → GivesPrefix disk → IsWhole disk k → before.writeback ≡ None → Steps score disk (FileAdvance i) Nothing k (record k { shards = slice_set k.shards i before })
idle_steps score disk k i before at gives w none =
    quiet_steps score disk k i before before at (in_memory score disk k i before at gives w Nothing before refl refl refl (λ info has. has)) refl refl gives w (λ tells h was. was) (FileAdvance i) Nothing
    (λ old new same. same) (λ old new same. same) (λ old new same. same) tt
    (record { before = before; after = before; at = at; changes = inl (none, refl, refl); same = refl })
