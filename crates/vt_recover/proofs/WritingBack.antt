-- A shard that writes all its dirty entries back, while a log is read back.
use Rattle.std.proofs.Common.{◌≡◌, ◌≢◌, ◌⊎◌, ⊎_elim, inl, inr, ℕ, ◌+◌, ◌%◌, ◌<◌, ◌≤◌, List, [], ◌∷◌, length, Option, Some, None, refl, sym, ◌∙◌, ap, subst, arith, ◌++◌}
use Rattle.std.specs.Prelude.{max, IsTrue, IsSome, ⊤, Result, Ok, Err, ◌↔◌}
use Rattle.std.specs.List.{Contains}
use Rattle.vt_base.specs.declared.place.Info.{Info}
use Rattle.vt_disk.specs.Members.{DiskOf}
use Rattle.vt_isect.specs.Section.{SectionState, IsAtRest, entering}
use Rattle.vt_isect.specs.Writeback.{SectionAdvances, NextPhase}
use Rattle.vt_isect.proofs.IsRead.{read_runs}
use Rattle.vt_isect.specs.declared.error.ShardErr.{ShardErr}
use Rattle.vt_isect.specs.declared.error.ShardErr.TheVariants.{Fault, Damaged, Stopped}
use Rattle.vt_isect.specs.declared.phase.Phase.{Phase}
use Rattle.vt_isect.specs.declared.phase.Phase.TheVariants.{Rest, ReadSelector, ReadFrame, WriteFrame, SyncFrames, WriteSelector, SyncSelectors, ChangeHead}
use Rattle.vt_model.specs.History.{History}
use Rattle.vt_model.specs.Places.{Setup, bucket_count, crowd}
use Rattle.vt_model.specs.declared.TheConstants.{BUCKET_ROOM}
use Rattle.vt_shard.specs.declared.TheConstants.{ROOM}
use Rattle.vt_shard.specs.Shard.{ShardState, IsAboveAll}
use Rattle.vt_shard.specs.Sound.{IsSoundFrom, KeepsSound}
use Rattle.vt_shard.specs.Writeback.{BeginsShardWriteback, ShardMakesCall, ReadsFrame, ShardTakesStep, without_list}
use Rattle.vt_twin.specs.declared.step.Step.{Step}
use Rattle.vt_twin.specs.declared.step.Step.TheVariants.{More, Done}
use Rattle.vt_recover.specs.Recalling.{IsAtRestUnstopped, KeepsSection}
use Rattle.vt_mount_errors.specs.MountErrors.{of_shard}
use Rattle.vt_recover.specs.TakingBack.{CountsShard, FaultOrDamage, WritesAllBack}
use Rattle.vt_recover.proofs.Places.{within_get}
use Rattle.vt_recover.proofs.TakingBack.{keeps_then, tells_bucket}
use Rattle.std.proofs.lemmas.List.Elements.{Contains-append_right}
use Rattle.std.proofs.lemmas.List.Sorted.{Contains-permutation, IsPermutation-sym}

-- A writeback of all that was dirty goes on or, where it is through, nothing is dirty any more.
pub record IsWriting {D : Type 0} (disk : DiskOf D) (old now : ShardState D) : Type 0 where
  pub below : ℕ
  pub above : IsAboveAll old.index.dirty below
  pub keeps : KeepsSection disk old now
  pub next : now.section.next ≡ now.section.head
  pub stopped : now.section.stopped ≡ None
  pub stands : (now.writeback ≡ Some below) ⊎ ((now.writeback ≡ None) × IsAtRest now.section × (now.index.dirty ≡ []))
  pub filed : now.filed ≡ max old.filed below
  pub dirty : (info : Info) → Contains now.index.dirty info → Contains old.index.dirty info
  pub faults : disk.faults now.section.disk ≡ disk.faults old.section.disk
  pub sound : IsTrue disk.tells → (score : List ℕ → List ℕ) (c : Setup) (h : History) (from : ℕ)
      → IsSoundFrom score c disk old h (length h) from → IsSoundFrom score c disk now h (length h) from

-- ---- lists

-- a list that has nothing is empty
none_in : {X : Type 0} (xs : List X) → ((x : X) → Contains xs x → ⊥) → xs ≡ []
none_in [] none = refl
none_in (x ∷ xs) none = absurd (none x (0, omega arith, refl))

-- ---- what is dirty is of a block of the history

pub dirty_below : {D : Type 0} (score : List ℕ → List ℕ) (c : Setup) (disk : DiskOf D) (s : ShardState D) (h : History) (from : ℕ) → IsSoundFrom score c disk s h (length h) from
    → (info : Info) → Contains s.index.dirty info → info.number < length h
dirty_below score c disk s h from sound info has = let it = sound.dirty info has in within_get h info.number it.block it.stands.block

-- ---- how it begins

pub begun_writing : {D : Type 0} (disk : DiskOf D) (old new : ShardState D) (below : ℕ) → IsAtRestUnstopped old → IsAboveAll old.index.dirty below → BeginsShardWriteback below old.section.head.mark old new
    → (IsTrue disk.tells → (score : List ℕ → List ℕ) (c : Setup) (h : History) (from : ℕ) → IsSoundFrom score c disk old h (length h) from → IsSoundFrom score c disk new h (length h) from)
    → IsWriting disk old new
begun_writing {D} disk old new below quiet above it sound = record {
  below = below;
  above = above;
  keeps = record {
    name = ap (λ (t : SectionState D). t.name) it.section;
    buckets = ap (λ (t : SectionState D). t.buckets) it.section;
    head = ap (λ (t : SectionState D). t.head) it.section;
    size = ap (λ (t : SectionState D). disk.size t.disk) it.section;
    lumps = ap (λ (s : ShardState D). s.lumps) it.shard;
    clean_room = ap (λ (s : ShardState D). s.index.clean_room) it.shard;
  };
  next = ap (λ (t : SectionState D). t.next) it.section ∙ sym (ap (λ (t : SectionState D). t.head) it.section);
  stopped = ap (λ (t : SectionState D). t.stopped) it.section ∙ quiet.stopped;
  stands = inl (ap (λ (s : ShardState D). s.writeback) it.shard);
  filed = ap (λ (s : ShardState D). s.filed) it.shard;
  dirty = λ info has. subst (λ (s : ShardState D). Contains s.index.dirty info) it.shard has;
  faults = ap (λ (t : SectionState D). disk.faults t.disk) it.section;
  sound = sound;
}

-- ---- a step

list_same : {D : Type 0} (p : Phase) (t : SectionState D)
    → ((without_list p t).head ≡ t.head) × ((without_list p t).next ≡ t.next) × ((without_list p t).stopped ≡ t.stopped) × ((without_list p t).phase ≡ t.phase)
list_same Rest t = (refl, refl, refl, refl)
list_same ReadSelector t = (refl, refl, refl, refl)
list_same (ReadFrame s) t = (refl, refl, refl, refl)
list_same (WriteFrame s) t = (refl, refl, refl, refl)
list_same SyncFrames t = (refl, refl, refl, refl)
list_same (WriteSelector j) t = (refl, refl, refl, refl)
list_same SyncSelectors t = (refl, refl, refl, refl)
list_same ChangeHead t = (refl, refl, refl, refl)

-- the head stays, where the next one is the same
head_stays : {D : Type 0} (r : Result Step ShardErr) (old new : SectionState D) → SectionAdvances r old new → old.next ≡ old.head → (new.head ≡ old.head) × (new.next ≡ new.head)
head_stays (Ok More) old new it same = (it.0.head_is, it.0.next_is ∙ same ∙ sym it.0.head_is)
head_stays (Ok Done) old new it same = (it.2.head_is ∙ same, it.2.next_is ∙ sym it.2.head_is)
head_stays (Err Fault) old new it same = ⊎_elim
    (λ read. (read.1.head_is, read.1.next_is ∙ sym read.1.head_is))
    (λ goes. (goes.1.head_is, goes.1.next_is ∙ same ∙ sym goes.1.head_is))
    it
head_stays (Err (Damaged bucket want found)) old new it same = (it.1.head_is, it.1.next_is ∙ sym it.1.head_is)
head_stays {D} (Err (Stopped n)) old new it same =
    (ap (λ (t : SectionState D). t.head) it.1, ap (λ (t : SectionState D). t.next) it.1 ∙ same ∙ sym (ap (λ (t : SectionState D). t.head) it.1))

-- a step that succeeds doesn't stop it
step_goes : {D : Type 0} (step : Step) (old new : SectionState D) → SectionAdvances (Ok step) old new → new.stopped ≡ None
step_goes More old new it = it.1
step_goes Done old new it = it.2.stopped

-- more is under way
pub goes_on : {D : Type 0} (p : Phase) (old new : SectionState D) → NextPhase p old new → new.phase ≢ Rest
goes_on Rest old new it rest = absurd it
goes_on ReadSelector old new it rest = let e : ReadFrame it.0.0 ≡ Rest = sym it.0.1 ∙ rest in absurd (cc)
goes_on (ReadFrame s) old new it rest = let e : WriteFrame (s % 2) ≡ Rest = sym it.0 ∙ rest in absurd (cc)
goes_on (WriteFrame s) old new it rest = ⊎_elim
    (λ next. absurd (read_runs new.phase next.1.0 rest))
    (λ full. let e : SyncFrames ≡ Rest = sym full.0 ∙ rest in absurd (cc))
    it.1
goes_on SyncFrames old new it rest = let e : WriteSelector 0 ≡ Rest = sym it.0 ∙ rest in absurd (cc)
goes_on (WriteSelector j) old new it rest = ⊎_elim
    (λ more. let e : WriteSelector (j + 1) ≡ Rest = sym more.1 ∙ rest in absurd (cc))
    (λ last. let e : SyncSelectors ≡ Rest = sym last.1 ∙ rest in absurd (cc))
    it.1
goes_on SyncSelectors old new it rest = ⊎_elim
    (λ group. absurd (read_runs new.phase group.0.0 rest))
    (λ head. let e : ChangeHead ≡ Rest = sym head.0 ∙ rest in absurd (cc))
    it
goes_on ChangeHead old new it rest = let e : ChangeHead ≡ Rest = sym it.1 ∙ rest in absurd (cc)

-- no entry becomes dirty
pub fewer : {D : Type 0} {r : Result Step ShardErr} {before after : ShardState D} (writeback : Option ℕ) → before.writeback ≡ writeback → IsSome writeback → ShardTakesStep r before after
    → (info : Info) → Contains after.index.dirty info → Contains before.index.dirty info
fewer None is some takes info has = absurd (cc)
fewer {before = before} {after = after} (Some below) is some takes info has =
    let it = takes.settles below is in
    Contains-permutation (it.settled ++ after.index.dirty) before.index.dirty info (IsPermutation-sym before.index.dirty (it.settled ++ after.index.dirty) it.dirty)
    (Contains-append_right it.settled after.index.dirty info has)

module _ {D : Type 0} (disk : DiskOf D) (old now next : ShardState D) (was : IsWriting disk old now) (under : IsSome now.writeback) where
  -- it is under way
  under_way : now.writeback ≡ Some was.below
  under_way = ⊎_elim (λ some. some) (λ rest. absurd (no_some now.writeback rest.0 under)) was.stands
    where
      no_some : (o : Option ℕ) → o ≡ None → IsSome o → ⊥
      no_some None is some = absurd (cc)
      no_some (Some n) is some = absurd (cc)

  module _ (r : Result Step ShardErr) (takes : ShardTakesStep r now next) (made : ShardMakesCall disk r now next) where
    step_keeps : KeepsSection disk old next
    step_keeps =
        let it = takes.advances.section in
        let head : next.section.head ≡ now.section.head =
        ap (λ (t : SectionState D). t.head) it.2 ∙ (list_same it.0.phase it.0).0 ∙ (head_stays r now.section it.0 it.1 was.next).0 in
        keeps_then disk old now next was.keeps (record {
          name = takes.place.name;
          buckets = takes.place.buckets;
          head = head;
          size = made.writes.size;
          lumps = takes.advances.lumps;
          clean_room = (takes.settles was.below under_way).clean_room;
        })

    step_next : next.section.next ≡ next.section.head
    step_next =
        let it = takes.advances.section in
        ap (λ (t : SectionState D). t.next) it.2 ∙ (list_same it.0.phase it.0).1 ∙ (head_stays r now.section it.0 it.1 was.next).1
        ∙ sym (ap (λ (t : SectionState D). t.head) it.2 ∙ (list_same it.0.phase it.0).0)

    step_dirty : (info : Info) → Contains next.index.dirty info → Contains old.index.dirty info
    step_dirty info has = was.dirty info (fewer now.writeback refl under takes info has)

  pub one_step : (step : Step) → ShardTakesStep (Ok step) now next → ShardMakesCall disk (Ok step) now next → (IsTrue disk.tells → KeepsSound disk now next) → IsWriting disk old next
  one_step step takes made sound = record {
    below = was.below;
    above = was.above;
    keeps = step_keeps (Ok step) takes made;
    next = step_next (Ok step) takes made;
    stopped = let it = takes.advances.section in ap (λ (t : SectionState D). t.stopped) it.2 ∙ (list_same it.0.phase it.0).2 ∙ step_goes step now.section it.0 it.1;
    stands = stands step takes;
    filed = takes.advances.filed ∙ was.filed;
    dirty = step_dirty (Ok step) takes made;
    faults = made.faults ∙ was.faults;
    sound = λ tells score c h from before. sound tells score c h (length h) from (was.sound tells score c h from before);
  }
    where
      stands : (done : Step) → ShardTakesStep (Ok done) now next → (next.writeback ≡ Some was.below) ⊎ ((next.writeback ≡ None) × IsAtRest next.section × (next.index.dirty ≡ []))
      stands More t =
          let it = t.advances.section in
          let phase : next.section.phase ≡ it.0.phase = ap (λ (x : SectionState D). x.phase) it.2 ∙ (list_same it.0.phase it.0).3 in
          inl (t.advances.goes_on (λ rest. goes_on now.section.phase now.section it.0 it.1.2 (sym phase ∙ rest)) ∙ under_way)
      stands Done t =
          let it = t.advances.section in
          let rest : next.section.phase ≡ Rest = ap (λ (x : SectionState D). x.phase) it.2 ∙ (list_same it.0.phase it.0).3 ∙ it.1.2.phase in
          inr (
            t.advances.ends rest,
            rest,
            none_in next.index.dirty (λ info has.
                t.filed was.below refl under_way (info, has, was.above.above info (was.dirty info (fewer now.writeback refl under t info has)))),
          )

  pub ends_early : (bad : ShardErr) → ShardTakesStep (Err bad) now next → ShardMakesCall disk (Err bad) now next → ReadsFrame disk (Err bad) now next
      → (IsTrue disk.tells → KeepsSound disk now next)
      → (IsTrue disk.tells → (score : List ℕ → List ℕ) (c : Setup) (h : History) (from : ℕ) → IsSoundFrom score c disk now h (length h) from
      → ((n : ℕ) → crowd score (bucket_count c) h n ≤ BUCKET_ROOM) → (bad ≡ Fault) ⊎ ((n : ℕ) × (bad ≡ Stopped n)))
      → WritesAllBack {U = ⊤} disk (Err (of_shard bad)) old next
  ends_early bad takes made reads sound undamaged = record {
    keeps = step_keeps (Err bad) takes made;
    rests = λ bits below before. tt;
    quiet = tt;
    emptied = tt;
    counts = counts bad takes made;
    tells = tells bad takes reads;
    sound = λ tells score c h from before.
        let mid = was.sound tells score c h from before in
        (sound tells score c h (length h) from mid, λ fits. ⊎_elim (λ e. ap of_shard e) (λ it. ap of_shard it.1) (undamaged tells score c h from mid fits));
  }
    where
      not_stopped : (n : ℕ) → ShardTakesStep (Err (Stopped n)) now next → ⊥
      not_stopped n t = let e : None ≡ Some n = sym was.stopped ∙ (t.stopped n).0 refl in absurd (cc)

      counts : (b : ShardErr) → ShardTakesStep (Err b) now next → ShardMakesCall disk (Err b) now next
          → CountsShard {U = ⊤} (Err (of_shard b)) (disk.faults old.section.disk) (disk.faults next.section.disk)
      counts Fault t m = subst (λ (n : ℕ). CountsShard {U = ⊤} (Err (of_shard Fault)) n (disk.faults next.section.disk)) was.faults m.faults
      counts (Damaged bucket want found) t m = m.faults ∙ was.faults
      counts (Stopped n) t m = absurd (not_stopped n t)

      tells : (b : ShardErr) → ShardTakesStep (Err b) now next → ReadsFrame disk (Err b) now next → FaultOrDamage (of_shard b)
      tells Fault t read = inl refl
      tells (Damaged bucket want found) t read =
          let phase = t.advances.section.1.0 in
          let it = read.damaged phase.0 (λ e. cc) was.stopped phase.1 in
          tells_bucket now.section.bucket (entering now.section) it.0 (Damaged bucket want found) it.1 read.names
      tells (Stopped n) t read = inl refl

-- ---- how it ends

pub writes_all : {D : Type 0} (disk : DiskOf D) (old now : ShardState D) (done : ⊤) → IsWriting disk old now → now.writeback ≡ None → WritesAllBack disk (Ok done) old now
writes_all {D} disk old now done was none = record {
  keeps = was.keeps;
  rests = λ bits below before. record {
    quiet = at_rest;
    filed = omega (arith, was.filed, before.filed, least below before.numbers);
    numbers = λ info has. before.numbers info (was.dirty info has);
    bits_of = λ info has. before.bits_of info (was.dirty info has);
  };
  quiet = at_rest;
  emptied = subst (λ (l : List Info). length l < ROOM) (sym rest.2) (omega arith);
  counts = was.faults;
  tells = tt;
  sound = λ tells score c h from before. (was.sound tells score c h from before, tt);
}
  where
    rest : (now.writeback ≡ None) × IsAtRest now.section × (now.index.dirty ≡ [])
    rest = ⊎_elim (λ some. let e : None ≡ Some was.below = sym none ∙ some in absurd (cc)) (λ it. it) was.stands

    at_rest : IsAtRestUnstopped now
    at_rest = record { phase = rest.1; next = was.next; stopped = was.stopped; writeback = none }

    least : (below : ℕ) → ((info : Info) → Contains old.index.dirty info → info.number < below) → was.below ≤ below
    least below each = let it = was.above.least in omega (arith, each it.0 it.1, it.2)
