-- What one device call of a commit makes of a log, for each of its answers.
use Rattle.std.proofs.Common.{◌≡◌, ◌↔◌, ℕ, ◌+◌, ◌%◌, ◌<◌, ◌≤◌, true, false, List, [], ◌++◌, length, get_or, drop, map, set, refl, sym, ◌∙◌, ap, subst, arith, Some, None, Option, option_map, Ok, Err, Result}
use Rattle.std.specs.Prelude.{slice_get, IsTrue}
use Rattle.std.proofs.lemmas.List.{drop_at, length-set}
use Rattle.std.proofs.lemmas.Option.{slice_get_within, slice_get-map, slice_get-get_or, slice_get_read, same_Some}
use Rattle.vt_base.specs.Faults.{CountsFault, one_more}
use Rattle.vt_disk.specs.declared.call.CallError.{CallError}
use Rattle.vt_disk.specs.declared.call.CallCount.{CallCount}
use Rattle.vt_disk.specs.DeviceCalls.{CallMade, call_counted, stopped_at}
use Rattle.vt_disk.specs.Members.{DiskOf}
use Rattle.vt_disk.specs.declared.region.Region.{Region}
use Rattle.vt_disk.specs.Calls.{WritesWithin, IsSynced}
use Rattle.vt_disk.specs.Disk.{WithinCall}
use Rattle.vt_disk.specs.Region.{region_bytes}
use Rattle.vt_twin.specs.declared.step.Step.{Step}
use Rattle.vt_twin.specs.declared.step.Step.TheVariants.{More, Done}
use Rattle.vt_clump.specs.declared.packed.Packed.{Packed}
use Rattle.vt_model.specs.History.{History}
use Rattle.vt_part.specs.declared.layout.ArenaRegion.{ArenaRegion}
use Rattle.vt_part.specs.declared.part.Part.{Part}
use Rattle.vt_part.specs.Parts.{disk_of, tables_of}
use Rattle.vt_arena.specs.declared.head.ArenaHead.{ArenaHead}
use Rattle.vt_arena.specs.declared.head.Found.{Found}
use Rattle.vt_arena.specs.Arena.{ArenaState, ArenaAdvances, next_content, content_after, calls_made, commit_calls, fresh_arena}
use Rattle.vt_arena.specs.Layout.{Content, IsArena}
use Rattle.vt_arena.specs.Places.{IsArenaLen, directory_room, arena_room}
use Rattle.vt_arena.specs.Sound.{IsSoundArena, GivesOldOrNext}
use Rattle.vt_arena.specs.Written.{next_commit_call}
use Rattle.vt_log.specs.declared.error.Progress.{Progress}
use Rattle.vt_log.specs.declared.error.Progress.TheVariants.{Step as StepMade, Durable}
use Rattle.vt_log.specs.declared.error.LogErr.{LogErr}
use Rattle.vt_log.specs.declared.error.LogErr.TheVariants.{Fault}
use Rattle.vt_log.specs.declared.queue.Waiting.{Waiting}
use Rattle.vt_log.specs.Answers.{LogMakesCall, EndsCommit, CallsArena}
use Rattle.vt_log.specs.Committing.{IsCommitReady, TakesAllWaiting, MakesOneCall}
use Rattle.vt_log.specs.Faults.{is_fault_now}
use Rattle.vt_log.specs.Log.{LogState, queued, packed_of}
use Rattle.vt_log.specs.Sound.{IsArenaAt, IsSoundLog, AreWithinCallOf, LogStandsForPrefix}
use Rattle.vt_log.specs.Queue.{QueueState}
use Rattle.vt_log.specs.Whole.{IsOnDisk, IsWholeLog}
use Rattle.vt_log.proofs.Advances.{committing_there}
use Rattle.vt_log.proofs.CallsArena.{KeepsArena, ChangesRegion, step_keeps, fault_keeps, call_whole, call_sound, call_stands}
use Rattle.vt_log.proofs.Disks.{parts_disks, parts_tables}
use Rattle.vt_log.proofs.EndsCommit.{EndsArena, last_ends, ended, ended_whole, ended_sound, turned, turned_whole, turned_sound, IsEnding, next_there}
use Rattle.vt_log.proofs.HoldTheSame.{with_disk, part_there}
use Rattle.vt_log.proofs.Lists.{no_region, slice_get_other, at_slice, slice_get_set_same, slice_get_set_other}
use Rattle.vt_log.proofs.Owed.{step_made, call_owed, ended_owed, turned_owed}

-- what a call of an arena's commit tells
pub record IsAdvanced {D : Type 0} (score_of : List ℕ → List ℕ) (disk : DiskOf D)
    (a : ArenaState) (region : Region) (d e : D) (b : ArenaState) (step : Result Step CallError) : Type 0 where
  pub sound : (old : Content) → IsTrue disk.tells → IsSoundArena score_of a region old (disk.bytes d) (disk.images d) → IsSoundArena score_of b region (content_after step a old) (disk.bytes e) (disk.images e)
  pub crash : (old : Content) → IsTrue disk.tells → IsSoundArena score_of a region old (disk.bytes d) (disk.images d) → (c : List ℕ) → WithinCall (disk.images d) (disk.images e) c
      → GivesOldOrNext (commit_calls a ≤ calls_made a + 2) score_of region a.number old (next_content a old) c
  pub last : (old : Content) → IsTrue disk.tells → IsSoundArena score_of a region old (disk.bytes d) (disk.images d) → step ≡ Ok Done → (c : List ℕ) → disk.images e c → IsArena score_of region a.number (next_content a old) c
  pub settled : step ≡ Ok Done → IsSynced disk e
  pub steps : ArenaAdvances step a b
  pub left : calls_made a < commit_calls a
  pub done : step ≡ Ok Done → calls_made a + 1 ≡ commit_calls a
  pub n : CallCount
  pub m : CallCount
  pub makes : CallMade disk (next_commit_call a region) step n m d e
  pub writes : WritesWithin disk region 1 d e

-- what is known once the device call was made
pub record IsCalled {D : Type 0} (score_of : List ℕ → List ℕ) (disk : DiskOf D)
    (l : LogState D) (r : ArenaRegion) (d e : D) (b : ArenaState) (step : Result Step CallError) : Type 0 where
  pub whole : IsWholeLog disk l
  pub runs : l.stopped ≡ None
  pub ready : IsCommitReady l
  pub at : IsArenaAt l l.committing r d
  pub made : IsAdvanced score_of disk l.arena r.region d e b step

-- ---- what a call leaves in memory

abbrev pub count_of : {D : Type 0} → LogState D → CallCount
count_of l = record { made = l.calls; stopped = l.stopped }

abbrev called : {D : Type 0} → LogState D → (part : ℕ) → (e : D) → (b : ArenaState) → (calls : ℕ) → (stopped : Option ℕ) → LogState D
called l part e b calls stopped = record l { disks = set l.disks part e; arena = b; calls = calls; stopped = stopped }

makes_call : {D : Type 0} (l : LogState D) (part : ℕ) (e : D) (b : ArenaState) (stopped : Option ℕ) → KeepsArena l.arena b → LogMakesCall l (called l part e b (one_more l.calls) stopped)
makes_call l part e b stopped keeps = record {
  calls = refl;
  heads = refl;
  durable = refl;
  packed = ap (λ (ps : List Packed). ps ++ map (λ (w : Waiting). w.packed) l.queue.waiting) keeps.staged;
  places = refl;
  commit = λ on. (keeps.staged, keeps.next);
}

takes_all : {D : Type 0} (l : LogState D) (part : ℕ) (e : D) (b : ArenaState) (calls : ℕ) (stopped : Option ℕ) → KeepsArena l.arena b → TakesAllWaiting l → TakesAllWaiting (called l part e b calls stopped)
takes_all l part e b calls stopped keeps all = record {
  blocks = all.blocks;
  seal = subst (λ (h : ArenaHead). IsTrue h.sealed ↔ (0 < length l.queue.waiting)) (sym keeps.next) all.seal;
}

-- what else is known where the last call was made
pub record IsLast {D : Type 0} (l : LogState D) (r : ArenaRegion) (found : Found) (b : ArenaState) : Type 0 where
  pub has : slice_get l.heads l.committing ≡ Some found
  pub fit : b.head.used + directory_room b.head.version b.head.clumps ≤ arena_room r.region.len

-- the blocks leave the queue
ends_commit : {D : Type 0} (l : LogState D) (found : Found) (b : ArenaState) (m : LogState D) → slice_get l.heads l.committing ≡ Some found → b.head ≡ l.arena.next
    → m.calls ≡ one_more l.calls → m.heads ≡ set l.heads l.committing (record found { head = b.head }) → m.durable ≡ l.durable + length l.arena.staged
    → m.arena.staged ≡ [] → m.queue.waiting ≡ l.queue.waiting → m.queue.places ≡ drop (length l.arena.staged) l.queue.places → EndsCommit (length l.arena.staged) l m
ends_commit l found b m has head_is calls heads durable staged waiting places = record {
  calls = calls;
  head = λ other at.
      let same : found ≡ other = same_Some found other (sym has ∙ at) in
      let new : record found { head = b.head } ≡ record other { head = l.arena.next } = λ j. record (same j) { head = head_is j } in
      ap (λ (fs : List Found). slice_get fs l.committing) heads ∙ slice_get_set_same l.heads l.committing (record found { head = b.head }) (slice_get_within l.heads l.committing found has)
      ∙ ap (λ (x : Found). Some x) new;
  heads = λ i other. ap (λ (fs : List Found). slice_get fs i) heads ∙ slice_get_set_other l.heads l.committing i (record found { head = b.head }) other;
  durable = durable;
  packed = packed;
  places = places;
}
  where
    packed : packed_of m ≡ drop (length l.arena.staged) (packed_of l)
    packed =
        let gone : packed_of m ≡ map (λ (w : Waiting). w.packed) l.queue.waiting = λ j. staged j ++ map (λ (w : Waiting). w.packed) (waiting j) in
        gone ∙ sym (drop_at l.arena.staged (map (λ (w : Waiting). w.packed) l.queue.waiting) (length l.arena.staged) refl)

-- ---- one call, by its answer

module _ {D : Type 0} (score_of : List ℕ → List ℕ) (disk : DiskOf D) (l : LogState D) (r : ArenaRegion) (d e : D) (b : ArenaState) where
  calls_arena : (k : LogState D) (step : Result Step CallError) (result : Result Progress LogErr)
      → IsCalled score_of disk l r d e b step → k.disks ≡ set l.disks r.part e
      → CountsFault is_fault_now result (disk.faults d) (disk.faults e) → CallsArena disk result l k
  calls_arena k step result it disks cause = record {
    r = r;
    arena = it.at.arena;
    before = d;
    after = e;
    was = it.at.disk_is;
    disks = disks;
    writes = it.made.writes;
    calls = it.made.makes.calls;
    cause = cause;
  }

  changes : (step : Result Step CallError) → IsCalled score_of disk l r d e b step → IsTrue disk.tells → ChangesRegion disk r.region d e
  changes step it told =
      record { size_is = it.made.writes.size; images_are = it.made.writes.images; bytes_are = it.made.writes.bytes told }

  -- a crash at any moment of the call
  stands : (step : Result Step CallError) → IsCalled score_of disk l r d e b step
      → (h : History) → IsTrue disk.tells → IsSoundLog score_of disk l h → (files : List (List ℕ)) → AreWithinCallOf disk l.disks (set l.disks r.part e) files → LogStandsForPrefix score_of l files h
  stands step it h told sound files left =
      call_stands score_of disk l r d e it.at (changes step it told) h (commit_calls l.arena ≤ calls_made l.arena + 2) files sound
      (λ a has c moment. it.made.crash a told (sound.current r d a it.at has) c moment) left

  -- ---- a call that ends no commit

  -- its last call isn't made yet
  pub more_made : IsCalled score_of disk l r d e b (Ok More)
      → MakesOneCall score_of disk l (called l r.part e b (one_more l.calls) l.stopped) (Ok StepMade)
  more_made it = record {
    whole = call_whole disk l r.part d e b (one_more l.calls) l.stopped it.whole it.ready keeps runs it.at.disk_is it.made.writes.size;
    sound = λ h told sound. call_sound score_of disk l r d e it.at (changes (Ok More) it told) h b (one_more l.calls) l.stopped sound it.ready keeps runs
        (λ a has. it.made.sound a told (sound.current r d a it.at has));
    crash = stands (Ok More) it;
    makes = (makes_call l r.part e b l.stopped keeps, it.runs, call_owed l b (set l.disks r.part e) (one_more l.calls) l.stopped keeps.staged keeps.next it.ready made it.made.left);
    batch = λ all more. takes_all l r.part e b (one_more l.calls) l.stopped keeps all;
    last = λ n is. absurd (cc);
    versions = refl;
    kept = (refl, refl, refl, refl);
    calls = calls_arena (called l r.part e b (one_more l.calls) l.stopped) (Ok More) (Ok StepMade) it refl it.made.makes.cause;
  }
    where
      keeps : KeepsArena l.arena b
      keeps = subst (λ (x : ArenaState). KeepsArena l.arena x) (sym it.made.steps) (step_keeps l.arena).0

      runs : l.stopped ≡ None → b.failed ≡ false
      runs none = ap (λ (x : ArenaState). x.failed) it.made.steps ∙ (step_keeps l.arena).1 ∙ it.whole.runs none

      made : calls_made b ≡ calls_made l.arena + 1
      made = ap (λ (x : ArenaState). calls_made x) it.made.steps ∙ step_made l.arena

  -- it failed
  pub fault_made : (err : CallError) → IsCalled score_of disk l r d e b (Err err)
      → MakesOneCall score_of disk l (called l r.part e b (one_more l.calls) (Some l.calls)) (Err Fault)
  fault_made err it = record {
    whole = call_whole disk l r.part d e b (one_more l.calls) (Some l.calls) it.whole it.ready keeps runs it.at.disk_is it.made.writes.size;
    sound = λ h told sound. call_sound score_of disk l r d e it.at (changes (Err err) it told) h b (one_more l.calls) (Some l.calls) sound it.ready keeps runs
        (λ a has. it.made.sound a told (sound.current r d a it.at has));
    crash = stands (Err err) it;
    makes = (makes_call l r.part e b (Some l.calls) keeps, refl);
    batch = λ all more. takes_all l r.part e b (one_more l.calls) (Some l.calls) keeps all;
    last = λ n is. absurd (cc);
    versions = refl;
    kept = (refl, refl, refl, refl);
    calls = calls_arena (called l r.part e b (one_more l.calls) (Some l.calls)) (Err err) (Err Fault) it refl it.made.makes.cause;
  }
    where
      keeps : KeepsArena l.arena b
      keeps = subst (λ (x : ArenaState). KeepsArena l.arena x) (sym it.made.steps) (fault_keeps l.arena)

      runs : Some l.calls ≡ None → b.failed ≡ false
      runs none = absurd (cc)

  -- ---- one that ends a commit

  content_there : (h : History) → (sound : IsSoundLog score_of disk l h) → slice_get l.layout l.committing ≡ Some r → (a : Content) × (slice_get sound.contents l.committing ≡ Some a)
  content_there h sound at = slice_get_other sound.contents l.layout l.committing r (sym sound.many) at

  ends_arena : IsCalled score_of disk l r d e b (Ok Done) → EndsArena l.arena b
  ends_arena it =
      subst (λ (x : ArenaState). EndsArena l.arena x) (sym it.made.steps) (last_ends l.arena (it.whole.runs it.runs))

  is_ending : (found : Found) → IsCalled score_of disk l r d e b (Ok Done) → IsLast l r found b → IsTrue disk.tells
      → IsEnding score_of disk l r found d e b
  is_ending found it last told = record {
    ends = ends_arena it;
    has = last.has;
    at = it.at;
    changes = changes (Ok Done) it told;
    fit = last.fit;
  }

  -- and the arena isn't sealed
  pub ended_made : (found : Found) → IsCalled score_of disk l r d e b (Ok Done) → IsLast l r found b → b.next.sealed ≡ false
      → MakesOneCall score_of disk l (ended l r.part e found b (one_more l.calls)) (Ok (Durable (l.durable + length l.arena.staged)))
  ended_made found it last no_seal = record {
    whole = ended_whole disk l r found d e b (one_more l.calls) it.whole ends unsealed it.at.arena last.has last.fit it.at.disk_is it.made.writes.size;
    sound = λ h told sound.
        let content = content_there h sound it.at.arena in
        ended_sound score_of disk l h r found d e b sound (is_ending found it last told) (one_more l.calls) content.0 unsealed content.1
        (it.made.sound content.0 told (sound.current r d content.0 it.at content.1));
    crash = stands (Ok Done) it;
    makes = (
      ends_commit l found b m last.has ends.head refl refl refl ends.staged refl refl,
      refl,
      it.runs,
      ended_owed l m ends.staged (ap (λ (h : ArenaHead). h.sealed) ends.next ∙ unsealed) refl unsealed refl it.ready it.made.left,
    );
    batch = λ all more. absurd (omega (arith, more, it.made.done refl));
    last = λ n is. it.made.done refl;
    versions = refl;
    kept = (refl, refl, refl, refl);
    calls = calls_arena m (Ok Done) (Ok (Durable (l.durable + length l.arena.staged))) it refl it.made.makes.cause;
  }
    where
      m : LogState D
      m = ended l r.part e found b (one_more l.calls)

      ends : EndsArena l.arena b
      ends = ends_arena it

      unsealed : l.arena.next.sealed ≡ false
      unsealed = sym (ap (λ (h : ArenaHead). h.sealed) ends.next) ∙ no_seal

  -- or it is, and the next one is turned to
  pub turned_made : (q : ArenaRegion) (found next : Found) (len : ℕ) → ((device : D) → IsTrue disk.tells → disk.images device (disk.bytes device)) → IsCalled score_of disk l r d e b (Ok Done) → IsLast l r found b
      → b.next.sealed ≡ true → slice_get l.layout (l.committing + 1) ≡ Some q → slice_get l.heads (l.committing + 1) ≡ Some next → len ≡ q.region.len
      → MakesOneCall score_of disk l (turned l r.part e found b (one_more l.calls) len next) (Ok (Durable (l.durable + length l.arena.staged)))
  turned_made q found next len read it last seals next_here next_has len_is = record {
    whole = turned_whole disk l r q found next d e b (one_more l.calls) len it.whole ends sealed it.at.arena last.has last.fit it.at.disk_is it.made.writes.size next_here next_has len_is;
    sound = λ h told sound.
        let content = content_there h sound it.at.arena in
        let was = sound.current r d content.0 it.at content.1 in
        turned_sound score_of disk l h r found d e b sound (is_ending found it last told) q next (one_more l.calls) len content.0 sealed content.1 next_here next_has len_is
        (record {
          sound = it.made.sound content.0 told was;
          settled = λ c left. ap (region_bytes r.region) (it.made.settled refl told c left);
          arena = subst (λ (n : ℕ). IsArena score_of r.region n (next_content l.arena content.0) (disk.bytes e)) (sym ends.number) (it.made.last content.0 told was refl (disk.bytes e) (read e told));
        });
    crash = stands (Ok Done) it;
    makes = (
      ends_commit l found b m last.has ends.head refl refl refl refl refl refl,
      refl,
      it.runs,
      turned_owed l m refl (it.whole.unsealed (l.committing + 1) next (omega arith) next_has) refl sealed (it.whole.way sealed) it.made.left,
    );
    batch = λ all more. absurd (omega (arith, more, it.made.done refl));
    last = λ n is. it.made.done refl;
    versions = refl;
    kept = (refl, refl, refl, refl);
    calls = calls_arena m (Ok Done) (Ok (Durable (l.durable + length l.arena.staged))) it refl it.made.makes.cause;
  }
    where
      m : LogState D
      m = turned l r.part e found b (one_more l.calls) len next

      ends : EndsArena l.arena b
      ends = ends_arena it

      sealed : l.arena.next.sealed ≡ true
      sealed = sym (ap (λ (h : ArenaHead). h.sealed) ends.next) ∙ seals

-- ---- the log as its partitions have it

-- with another disk in one of them
parts_state : {D : Type 0} (ps : List (Part D)) (i : ℕ) (p : Part D) (e : D) (v : LogState D) → v.disks ≡ map (λ part. disk_of part) ps → v.tables ≡ tables_of ps → slice_get ps i ≡ Some p
    → with_disk ps i p e v ≡ record v { disks = set v.disks i e }
parts_state {D = D} ps i p e v disks tables at =
    let ds : map (λ (part : Part D). disk_of part) (set ps i (record p { disk = e })) ≡ set v.disks i e = parts_disks ps i p e ∙ ap (λ (xs : List D). set xs i e) (sym disks) in
    let ts : tables_of (set ps i (record p { disk = e })) ≡ v.tables = parts_tables ps i p e at ∙ sym tables in
    λ j. record v { disks = ds j; tables = ts j }

-- the region of an arena, as an index reads it
abbrev pub region_at : List ArenaRegion → ℕ → ArenaRegion
region_at rs i = get_or rs i no_region

-- the partitions' disks, and the one of an arena's partition
pub record AreParts {D : Type 0} (ps : List (Part D)) (i : ℕ) (p : Part D) (v : LogState D) : Type 0 where
  pub disks : v.disks ≡ map (λ part. disk_of part) ps
  pub tables : v.tables ≡ tables_of ps
  pub at : slice_get ps i ≡ Some p

-- the arena that is committed in, and its place on the disk of a partition, as the log has them in memory
pub record IsThere {D : Type 0} (disk : DiskOf D) (ps : List (Part D)) (p : Part D) (v m : LogState D) (r : ArenaRegion) : Type 0 where
  pub view : v ≡ m
  pub whole : IsWholeLog disk v
  pub runs : v.stopped ≡ None
  pub ready : IsCommitReady v
  pub at : IsArenaAt v v.committing r (disk_of p)
  pub parts : AreParts ps r.part p v

pub arena_there : {D : Type 0} (disk : DiskOf D) (ps : List (Part D)) (p : Part D) (v m : LogState D) (rs : List ArenaRegion) (r : ArenaRegion)
    → v ≡ m → IsWholeLog disk v → v.disks ≡ map (λ part. disk_of part) ps → v.tables ≡ tables_of ps → m.stopped ≡ None → 0 < queued m → IsCommitReady m
    → rs ≡ v.layout → r ≡ region_at rs v.committing → p ≡ get_or ps r.part p → IsThere disk ps p v m r
arena_there {D = D} disk ps p v m rs r view whole disks tables runs some ready layout r_is p_is = record {
  view = view;
  whole = whole;
  runs = ap (λ (x : LogState D). x.stopped) view ∙ runs;
  ready = subst (λ (x : LogState D). IsCommitReady x) (sym view) ready;
  at = record { arena = here; disk_is = device };
  parts = record { disks = disks; tables = tables; at = at };
}
  where
    within : v.committing < length v.layout
    within = committing_there disk v whole (subst (λ (x : LogState D). 0 < queued x) (sym view) some)

    same : r ≡ region_at v.layout v.committing
    same = r_is ∙ ap (λ (xs : List ArenaRegion). region_at xs v.committing) layout

    here : slice_get v.layout v.committing ≡ Some r
    here = slice_get-get_or v.layout v.committing (region_at [] 0) within ∙ ap (λ (x : ArenaRegion). Some x) (sym same)

    at : slice_get ps r.part ≡ Some p
    at = slice_get_read ps (length ps) r.part p refl (part_there disk ps v v.committing r (region_at [] 0) whole disks within same) p_is

    device : slice_get v.disks r.part ≡ Some (disk_of p)
    device = ap (λ (ds : List D). slice_get ds r.part) disks ∙ slice_get-map (λ (part : Part D). disk_of part) ps r.part ∙ ap (option_map (λ (part : Part D). disk_of part)) at

-- its region is as long as the arena in memory
pub same_len : {D : Type 0} (disk : DiskOf D) (v m : LogState D) (rs : List ArenaRegion) (r : ArenaRegion) → v ≡ m → IsWholeLog disk v → 0 < queued m → rs ≡ v.layout → r ≡ region_at rs v.committing
    → r.region.len ≡ v.arena.len
same_len {D = D} disk v m rs r view whole some layout r_is =
    let within : v.committing < length v.layout = committing_there disk v whole (subst (λ (x : LogState D). 0 < queued x) (sym view) some) in
    let here : slice_get v.layout v.committing ≡ Some r =
    slice_get-get_or v.layout v.committing (region_at [] 0) within ∙ ap (λ (x : ArenaRegion). Some x) (sym (r_is ∙ ap (λ (xs : List ArenaRegion). region_at xs v.committing) layout)) in
    let found = slice_get_other v.heads v.layout v.committing r (sym whole.many) here in
    sym (whole.arena r found.0 here found.1).len

-- and its head is the one that the log has
pub last_call : {D : Type 0} {disk : DiskOf D} {ps : List (Part D)} {p : Part D} {v m : LogState D} {r : ArenaRegion} {found : Found} {head : ArenaHead} {b : ArenaState}
    → IsThere disk ps p v m r → found ≡ get_or v.heads v.committing found → head ≡ b.head → b.len ≡ v.arena.len
    → head.used + directory_room head.version head.clumps ≤ arena_room b.len → IsLast v r found b
last_call {v = v} {r = r} {found = found} {head = head} {b = b} it found_is head_is len fit =
    let other = slice_get_other v.heads v.layout v.committing r (sym it.whole.many) it.at.arena in
    let within : v.committing < length v.heads = slice_get_within v.heads v.committing other.0 other.1 in
    let long : b.len ≡ r.region.len = len ∙ (it.whole.arena r other.0 it.at.arena other.1).len in
    record {
      has = slice_get_read v.heads (length v.heads) v.committing found refl within found_is;
      fit = subst (λ (n : ℕ). b.head.used + directory_room b.head.version b.head.clumps ≤ arena_room n) long
          (subst (λ (h : ArenaHead). h.used + directory_room h.version h.clumps ≤ arena_room b.len) head_is fit);
    }

-- where it seals, the next arena is there, and may be turned to
pub record IsNextArena {D : Type 0} (v : LogState D) (q : ArenaRegion) (next : Found) : Type 0 where
  pub here : slice_get v.layout (v.committing + 1) ≡ Some q
  pub has : slice_get v.heads (v.committing + 1) ≡ Some next
  pub len : IsArenaLen q.region.len
  pub fit : next.head.used + directory_room next.head.version next.head.clumps ≤ arena_room q.region.len

pub seals_too : (E : Type 0) (a b : ArenaState) (step : Step) → ArenaAdvances {E = E} (Ok step) a b → step ≡ Done → b.next.sealed ≡ true → a.next.sealed ≡ true
seals_too E a b step it done seals =
    let steps : ArenaAdvances {E = E} (Ok Done) a b = subst (λ (s : Step). ArenaAdvances {E = E} (Ok s) a b) done it in
    sym (ap (λ (x : ArenaState). x.next.sealed) steps) ∙ seals

pub next_arena_there : {D : Type 0} (disk : DiskOf D) (v : LogState D) (rs : List ArenaRegion) (q : ArenaRegion) (x next : Found) → IsWholeLog disk v → v.arena.next.sealed ≡ true
    → rs ≡ v.layout → q ≡ region_at rs (v.committing + 1) → next ≡ get_or (set v.heads v.committing x) (v.committing + 1) next → IsNextArena v q next
next_arena_there {D = D} disk v rs q x next whole seals layout q_is next_is = record {
  here = here;
  has = has;
  len = (at_slice (IsOnDisk disk v.disks) v.layout (v.committing + 1) q whole.regions here).region.len;
  fit = (whole.heads (v.committing + 1) q next here has).fit;
}
  where
    below : v.committing + 1 < length v.layout
    below = next_there disk v whole seals

    here : slice_get v.layout (v.committing + 1) ≡ Some q
    here = slice_get-get_or v.layout (v.committing + 1) (region_at [] 0) below ∙ ap (λ (r : ArenaRegion). Some r) (sym (q_is ∙ ap (λ (xs : List ArenaRegion). region_at xs (v.committing + 1)) layout))

    inside : v.committing + 1 < length (set v.heads v.committing x)
    inside = omega (arith, below, whole.many, length-set v.heads v.committing x)

    has : slice_get v.heads (v.committing + 1) ≡ Some next
    has = sym (slice_get_set_other v.heads v.committing (v.committing + 1) x (λ same. omega (arith, same)))
        ∙ slice_get_read (set v.heads v.committing x) (length (set v.heads v.committing x)) (v.committing + 1) next refl inside next_is

-- and what is known once its call was made
pub record IsCalledIn {D : Type 0} (score_of : List ℕ → List ℕ) (disk : DiskOf D)
    (ps : List (Part D)) (p : Part D) (v m : LogState D) (r : ArenaRegion) (e : D) (b : ArenaState) (step : Result Step CallError) : Type 0 where
  pub made : IsAdvanced score_of disk v.arena r.region (disk_of p) e b step
  pub there : IsThere disk ps p v m r

-- how the blocks of a commit leave the log's memory
pub record Settles {D : Type 0} (v : LogState D) (found : Found) (b : ArenaState) (heads : List Found) (queue : QueueState) (durable : ℕ) (n : CallCount) : Type 0 where
  pub heads_are : heads ≡ set v.heads v.committing (record found { head = b.head })
  pub waiting : queue.waiting ≡ v.queue.waiting
  pub places : queue.places ≡ drop (length v.arena.staged) v.queue.places
  pub durable_is : durable ≡ v.durable + length v.arena.staged
  pub count_is : n ≡ call_counted (count_of v)

module _ {D : Type 0} {score_of : List ℕ → List ℕ} {disk : DiskOf D}
    {ps : List (Part D)} {p : Part D} {v m : LogState D} {r : ArenaRegion} {e : D} {b : ArenaState} where
  called_in : (step : Result Step CallError) → IsCalledIn score_of disk ps p v m r e b step → IsCalled score_of disk v r (disk_of p) e b step
  called_in step it =
      record { whole = it.there.whole; runs = it.there.runs; ready = it.there.ready; at = it.there.at; made = it.made }

  pub more_in_parts : {step : Step} {n : CallCount}
      → IsCalledIn score_of disk ps p v m r e b (Ok step) → step ≡ More → n ≡ call_counted (count_of v)
      → MakesOneCall score_of disk m (with_disk ps r.part p e (record v { arena = b; calls = n.made; stopped = n.stopped })) (Ok StepMade)
  more_in_parts {step = step} {n = n} it more is =
      subst (λ (x : LogState D). MakesOneCall score_of disk x (with_disk ps r.part p e (record v { arena = b; calls = n.made; stopped = n.stopped })) (Ok StepMade)) made.there.view
      (subst (λ (x : LogState D). MakesOneCall score_of disk v x (Ok StepMade)) (sym state)
      (more_made score_of disk v r (disk_of p) e b (called_in (Ok More) made)))
    where
      made : IsCalledIn score_of disk ps p v m r e b (Ok More)
      made = subst (λ (s : Step). IsCalledIn score_of disk ps p v m r e b (Ok s)) more it

      are : AreParts ps r.part p v
      are = made.there.parts

      state : with_disk ps r.part p e (record v { arena = b; calls = n.made; stopped = n.stopped }) ≡ called v r.part e b (one_more v.calls) v.stopped
      state =
          let same : record v { disks = set v.disks r.part e; arena = b; calls = n.made; stopped = n.stopped } ≡ called v r.part e b (one_more v.calls) v.stopped =
          λ j. record v { disks = set v.disks r.part e; arena = b; calls = (is j).made; stopped = (is j).stopped } in
          parts_state ps r.part p e (record v { arena = b; calls = n.made; stopped = n.stopped }) are.disks are.tables are.at ∙ same

  pub fault_in_parts : {err : CallError} {n : CallCount}
      → IsCalledIn score_of disk ps p v m r e b (Err err) → n ≡ stopped_at (count_of v)
      → MakesOneCall score_of disk m (with_disk ps r.part p e (record v { arena = b; calls = n.made; stopped = n.stopped })) (Err Fault)
  fault_in_parts {err = err} {n = n} made is =
      subst (λ (x : LogState D). MakesOneCall score_of disk x (with_disk ps r.part p e (record v { arena = b; calls = n.made; stopped = n.stopped })) (Err Fault)) made.there.view
      (subst (λ (x : LogState D). MakesOneCall score_of disk v x (Err Fault)) (sym state)
      (fault_made score_of disk v r (disk_of p) e b err (called_in (Err err) made)))
    where
      are : AreParts ps r.part p v
      are = made.there.parts

      state : with_disk ps r.part p e (record v { arena = b; calls = n.made; stopped = n.stopped }) ≡ called v r.part e b (one_more v.calls) (Some v.calls)
      state =
          let same : record v { disks = set v.disks r.part e; arena = b; calls = n.made; stopped = n.stopped } ≡ called v r.part e b (one_more v.calls) (Some v.calls) =
          λ j. record v { disks = set v.disks r.part e; arena = b; calls = (is j).made; stopped = (is j).stopped } in
          parts_state ps r.part p e (record v { arena = b; calls = n.made; stopped = n.stopped }) are.disks are.tables are.at ∙ same

  pub ended_in_parts : {found : Found} {step : Step} {heads : List Found} {queue : QueueState} {durable : ℕ} {n : CallCount}
      → IsCalledIn score_of disk ps p v m r e b (Ok step) → step ≡ Done → IsLast v r found b → Settles v found b heads queue durable n → b.next.sealed ≡ false
      → MakesOneCall score_of disk m (with_disk ps r.part p e (record v { heads = heads; arena = b; queue = queue; durable = durable; calls = n.made; stopped = n.stopped })) (Ok (Durable durable))
  ended_in_parts {found = found} {step = step} {heads = heads} {queue = queue} {durable = durable} {n = n} it done last settles no_seal =
      subst (λ (x : LogState D). MakesOneCall score_of disk x k (Ok (Durable durable))) made.there.view
      (subst (λ (x : LogState D). MakesOneCall score_of disk v x (Ok (Durable durable))) (sym state)
      (subst (λ (n : ℕ). MakesOneCall score_of disk v (ended v r.part e found b (one_more v.calls)) (Ok (Durable n))) (sym settles.durable_is)
      (ended_made score_of disk v r (disk_of p) e b found (called_in (Ok Done) made) last no_seal)))
    where
      made : IsCalledIn score_of disk ps p v m r e b (Ok Done)
      made = subst (λ (s : Step). IsCalledIn score_of disk ps p v m r e b (Ok s)) done it

      are : AreParts ps r.part p v
      are = made.there.parts

      k : LogState D
      k = with_disk ps r.part p e (record v { heads = heads; arena = b; queue = queue; durable = durable; calls = n.made; stopped = n.stopped })

      state : with_disk ps r.part p e (record v { heads = heads; arena = b; queue = queue; durable = durable; calls = n.made; stopped = n.stopped }) ≡ ended v r.part e found b (one_more v.calls)
      state =
          let same : record v { disks = set v.disks r.part e; heads = heads; arena = b; queue = queue; durable = durable; calls = n.made; stopped = n.stopped } ≡ ended v r.part e found b (one_more v.calls) =
          λ j. record v {
            disks = set v.disks r.part e;
            heads = settles.heads_are j;
            arena = b;
            queue = record { waiting = settles.waiting j; places = settles.places j };
            durable = settles.durable_is j;
            calls = (settles.count_is j).made;
            stopped = (settles.count_is j).stopped;
          } in
          parts_state ps r.part p e (record v { heads = heads; arena = b; queue = queue; durable = durable; calls = n.made; stopped = n.stopped }) are.disks are.tables are.at ∙ same

  pub turned_in_parts : {q : ArenaRegion} {found next : Found} {turn : ArenaState} {step : Step} {heads : List Found} {queue : QueueState} {durable : ℕ} {n : CallCount}
      → ((device : D) → IsTrue disk.tells → disk.images device (disk.bytes device)) → IsCalledIn score_of disk ps p v m r e b (Ok step) → step ≡ Done → IsLast v r found b
      → Settles v found b heads queue durable n → b.next.sealed ≡ true → IsNextArena v q next → turn ≡ fresh_arena q.region.len (next.selector % 2) next.head
      → MakesOneCall score_of disk m
      (with_disk ps r.part p e (record v { heads = heads; committing = v.committing + 1; arena = turn; queue = queue; durable = durable; calls = n.made; stopped = n.stopped })) (Ok (Durable durable))
  turned_in_parts {q = q} {found = found} {next = next} {turn = turn} {step = step} {heads = heads} {queue = queue} {durable = durable} {n = n}
      read it done last settles seals is_next turn_is =
      subst (λ (x : LogState D). MakesOneCall score_of disk x k (Ok (Durable durable))) made.there.view
      (subst (λ (x : LogState D). MakesOneCall score_of disk v x (Ok (Durable durable))) (sym state)
      (subst (λ (n : ℕ). MakesOneCall score_of disk v (turned v r.part e found b (one_more v.calls) q.region.len next) (Ok (Durable n))) (sym settles.durable_is)
      (turned_made score_of disk v r (disk_of p) e b q found next q.region.len read (called_in (Ok Done) made) last seals is_next.here is_next.has refl)))
    where
      made : IsCalledIn score_of disk ps p v m r e b (Ok Done)
      made = subst (λ (s : Step). IsCalledIn score_of disk ps p v m r e b (Ok s)) done it

      are : AreParts ps r.part p v
      are = made.there.parts

      k : LogState D
      k = with_disk ps r.part p e (record v { heads = heads; committing = v.committing + 1; arena = turn; queue = queue; durable = durable; calls = n.made; stopped = n.stopped })

      state : with_disk ps r.part p e (record v { heads = heads; committing = v.committing + 1; arena = turn; queue = queue; durable = durable; calls = n.made; stopped = n.stopped }) ≡ turned v r.part e found b (one_more v.calls) q.region.len next
      state =
          let same : record v { disks = set v.disks r.part e; heads = heads; committing = v.committing + 1; arena = turn; queue = queue; durable = durable; calls = n.made; stopped = n.stopped }
          ≡ turned v r.part e found b (one_more v.calls) q.region.len next =
          λ j. record v {
            disks = set v.disks r.part e;
            heads = settles.heads_are j;
            committing = v.committing + 1;
            arena = turn_is j;
            queue = record { waiting = settles.waiting j; places = settles.places j };
            durable = settles.durable_is j;
            calls = (settles.count_is j).made;
            stopped = (settles.count_is j).stopped;
          } in
          parts_state ps r.part p e (record v { heads = heads; committing = v.committing + 1; arena = turn; queue = queue; durable = durable; calls = n.made; stopped = n.stopped }) are.disks are.tables are.at ∙ same
