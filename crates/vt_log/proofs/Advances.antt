-- A call of `advance`, from its two steps.
use Rattle.std.proofs.Common.{◌≡◌, ◌≢◌, ⊎_elim, ℕ, ◌+◌, ◌<◌, ◌&&◌, List, [], ◌∷◌, length, refl, sym, ◌∙◌, ap, subst, arith, Option, Some, None, Ok, Err, Result}
use Rattle.std.specs.Option.{option_map_or}
use Rattle.std.specs.Prelude.{IsTrue, IsFalse, slice_get, if◌then◌else◌}
use Rattle.std.proofs.lemmas.Bool.{cases_eq}
use Rattle.std.proofs.lemmas.List.{length-drop}
use Rattle.std.proofs.lemmas.Option.{slice_get_within}
use Rattle.vt_base.specs.declared.place.Place.{Place}
use Rattle.vt_disk.specs.Members.{DiskOf}
use Rattle.vt_base.specs.Faults.{one_more}
use Rattle.vt_clump.specs.declared.packed.Packed.{Packed}
use Rattle.vt_model.specs.History.{History}
use Rattle.vt_part.specs.declared.layout.ArenaRegion.{ArenaRegion}
use Rattle.vt_arena.specs.Arena.{is_committing, calls_made, commit_calls}
use Rattle.vt_arena.specs.declared.head.Found.{Found}
use Rattle.vt_log.specs.declared.error.Progress.{Progress}
use Rattle.vt_log.specs.declared.error.Progress.TheVariants.{Idle, Step, Durable}
use Rattle.vt_log.specs.declared.error.LogErr.{LogErr}
use Rattle.vt_log.specs.declared.error.LogErr.TheVariants.{Fault, Stopped}
use Rattle.vt_log.specs.Answers.{LogAdvances, LogMakesCall, EndsCommit, CallsArena}
use Rattle.vt_log.specs.Committing.{TakesAllWaiting, LogTakesStep, Prepares, MakesOrEnds, MakesOneCall}
use Rattle.vt_log.specs.Faults.{CountsFaults, is_fault_now}
use Rattle.vt_log.specs.declared.filling.Filling.{Filling}
use Rattle.vt_log.specs.declared.queue.Waiting.{Waiting}
use Rattle.vt_log.specs.Log.{LogState, queued, front, can_close, filled_as, fits_in, next_filling}
use Rattle.vt_log.specs.Queue.{WaitsFor}
use Rattle.vt_log.specs.Sound.{AreWithinCallOf, LogStandsForPrefix}
use Rattle.vt_log.specs.Whole.{IsWholeLog, Fill, turned_to}
use Rattle.vt_log.proofs.Disks.{tells_set}
use Rattle.vt_log.proofs.Fill.{fits_within, turned_arena, fill_arena}
use Rattle.vt_log.proofs.Owed.{none_made}

makes_call : {D : Type 0} (old m new : LogState D) → Prepares old m → LogMakesCall m new → LogMakesCall old new
makes_call {D = D} old m new prep it = record {
  calls = it.calls ∙ ap (λ (l : LogState D). one_more l.calls) prep.same;
  heads = it.heads ∙ ap (λ (l : LogState D). l.heads) prep.same;
  durable = it.durable ∙ ap (λ (l : LogState D). l.durable) prep.same;
  packed = it.packed ∙ prep.packed;
  places = it.places ∙ prep.places;
  commit = λ on. subst (λ (l : LogState D). IsTrue (is_committing l.arena) → (new.arena.staged ≡ l.arena.staged) × (new.arena.next ≡ l.arena.next)) (prep.commit on) it.commit on;
}

pub advances : {D : Type 0} (old m new : LogState D) (result : Result Progress LogErr) → Prepares old m → MakesOrEnds result m new
    → ((n : ℕ) → result ≡ Ok (Durable n) → calls_made m.arena + 1 ≡ commit_calls m.arena) → LogAdvances result old new
advances old m new (Ok Idle) prep it last = absurd it
advances old m new (Ok Step) prep it last = (makes_call old m new prep it.0, it.1, omega (arith, it.2, prep.owed_is))
advances {D = D} old m new (Ok (Durable n)) prep it last = (ended, it.1, it.2, omega (arith, it.3, prep.owed_is))
  where
    ended : EndsCommit (length old.arena.staged) old new
    ended = ⊎_elim (λ (same : m ≡ old). subst (λ (l : LogState D). EndsCommit (length l.arena.staged) l new) same it.0)
        (λ (rest : IsFalse (is_committing m.arena)). absurd (omega (arith, none_made m.arena rest, last n refl))) prep.begun
advances {D = D} old m new (Err Fault) prep it last = (makes_call old m new prep it.0, it.1 ∙ ap (λ (l : LogState D). Some l.calls) prep.same)
advances old m new (Err (Stopped n)) prep it last = absurd it

-- the call is the first of a commit, and doesn't end it
pub batch_begins : {D : Type 0} (old m new : LogState D) → Prepares old m → (TakesAllWaiting m → calls_made m.arena + 1 < commit_calls m.arena → TakesAllWaiting new) → IsFalse (is_committing old.arena) → TakesAllWaiting new
batch_begins {D = D} old m new prep stays rest = stays (prep.batch rest) (omega (arith, none_made m.arena rests))
  where
    rests : IsFalse (is_committing m.arena)
    rests = ⊎_elim (λ (same : m ≡ old). subst (λ (l : LogState D). IsFalse (is_committing l.arena)) (sym same) rest) (λ (still : IsFalse (is_committing m.arena)). still) prep.begun

-- where nothing is queued there is no commit to be had
pub batch_of_none : {D : Type 0} (disk : DiskOf D) (l : LogState D) → IsWholeLog disk l → queued l ≡ 0 → TakesAllWaiting l
batch_of_none disk l whole idle = at l.queue.waiting refl
  where
    at : (ws : List Waiting) → l.queue.waiting ≡ ws → TakesAllWaiting l
    at [] none = record {
      blocks = λ waits. subst (WaitsFor l.committing) none waits;
      seal = (λ sealed. absurd (subst (WaitsFor (l.committing + 1)) none (whole.way sealed)), λ some. absurd (omega (arith, some, ap (λ (ws : List Waiting). length ws) none)));
    }
    at (w ∷ ws) some = absurd (omega (arith, whole.places, idle, ap (λ (ws : List Waiting). length ws) some))

pub stand_as_prepared : {D : Type 0} (score_of : List ℕ → List ℕ) (old m : LogState D) (files : List (List ℕ)) (h : History) → Prepares old m → LogStandsForPrefix score_of m files h → LogStandsForPrefix score_of old files h
stand_as_prepared {D = D} score_of old m files h prep it = subst (λ (k : LogState D). LogStandsForPrefix score_of k files h) prep.same it

pub within_as_prepared : {D : Type 0} (disk : DiskOf D) (old m : LogState D) (ds : List D) (files : List (List ℕ)) → Prepares old m → AreWithinCallOf disk old.disks ds files → AreWithinCallOf disk m.disks ds files
within_as_prepared {D = D} disk old m ds files prep left = subst (λ (k : LogState D). AreWithinCallOf disk k.disks ds files) (sym prep.same) left

pub calls_as_prepared : {D : Type 0} (disk : DiskOf D) (result : Result Progress LogErr) (old m new : LogState D) → Prepares old m → CallsArena disk result m new → CallsArena disk result old new
calls_as_prepared {D = D} disk result old m new prep it =
    let made : CallsArena disk result (record old { arena = m.arena; queue = m.queue }) new = subst (λ (k : LogState D). CallsArena disk result k new) prep.same it in
    record {
      r = made.r;
      arena = made.arena;
      before = made.before;
      after = made.after;
      was = made.was;
      disks = made.disks;
      writes = made.writes;
      calls = made.calls;
      cause = made.cause;
    }

-- where something is queued, an arena is committed in, and its disk is there
pub committing_there : {D : Type 0} (disk : DiskOf D) (l : LogState D) → IsWholeLog disk l → 0 < queued l → l.committing < length l.layout
committing_there disk l whole some = ⊎_elim
    (λ (past : l.committing ≡ length l.layout). absurd (at l.queue.waiting whole.queue (omega (arith, some, whole.places, ap (λ (ps : List Packed). length ps) (whole.none past).0)) past))
    (λ (other : l.committing ≢ length l.layout). let most = whole.committing in omega (arith, most, other))
    (cases_eq l.committing (length l.layout))
  where
    at : (ws : List Waiting) → Fill l.layout l.versions l.heads (filled_as l.committing l.arena.next) ws l.filling → 0 < length ws → l.committing ≡ length l.layout → ⊥
    at [] fill more past = omega (arith, more)
    at (w ∷ ws) fill more past =
        let there = fits_within l.layout l.versions (turned_to l.heads w.arena (filled_as l.committing l.arena.next)) w.packed.len fill.3 in
        omega (arith, past, fill.0, slice_get_within l.layout _ there.0 there.1, turned_arena l.heads w.arena (filled_as l.committing l.arena.next))

-- what one disk's count tells is what the counts of all tell
pub cause_as_called : {D : Type 0} (disk : DiskOf D) (result : Result Progress LogErr) (old new : LogState D) → CallsArena disk result old new → CountsFaults disk is_fault_now result old.disks new.disks
cause_as_called disk result old new it = tells_set disk.faults is_fault_now old.disks new.disks it.r.part it.before it.after result it.was it.disks it.cause

-- no block is lost, and none comes in: those that a commit ends with leave the queue
pub front_kept : {D : Type 0} (disk : DiskOf D) (r : Result Progress LogErr) (old new : LogState D)
    → IsWholeLog disk old → LogAdvances r old new → front new ≡ front old
front_kept disk (Ok Idle) old new whole it = ap (λ (l : LogState _). front l) it.1
front_kept disk (Ok Step) old new whole it =
    omega (arith, it.0.durable, ap (λ (ps : List Place). length ps) it.0.places)
front_kept disk (Ok (Durable n)) old new whole it =
    omega (
      arith,
      it.0.durable,
      ap (λ (ps : List Place). length ps) it.0.places,
      whole.places,
      length-drop (length old.arena.staged) old.queue.places,
    )
front_kept disk (Err Fault) old new whole it =
    omega (arith, it.0.durable, ap (λ (ps : List Place). length ps) it.0.places)
front_kept disk (Err (Stopped call)) old new whole it = ap (λ (l : LogState _). front l) it.1

-- ---- where the next block goes

-- it is told by the regions, by what is being filled, and by the head of the arena behind that
abbrev next_by : List ArenaRegion → (versions : List ℕ) → Filling → Option Found → ℕ → Option Filling
next_by layout versions f found n =
    let next = option_map_or (λ (it : Found). filled_as (f.arena + 1) it.head) found (record { arena = f.arena + 1; used = 0; clumps = 0 }) in
    if fits_in layout versions f n then Some f else if can_close versions f.arena && fits_in layout versions next n then Some next else None

next_same : {D : Type 0} (old new : LogState D) (n : ℕ) → new.layout ≡ old.layout → new.versions ≡ old.versions → new.filling ≡ old.filling
    → slice_get new.heads (old.filling.arena + 1) ≡ slice_get old.heads (old.filling.arena + 1) → next_filling new n ≡ next_filling old n
next_same old new n layout versions filling head =
    ap (λ (rs : List ArenaRegion). next_by rs new.versions new.filling (slice_get new.heads (new.filling.arena + 1)) n) layout
    ∙ ap (λ (vs : List ℕ). next_by old.layout vs new.filling (slice_get new.heads (new.filling.arena + 1)) n) versions
    ∙ ap (λ (f : Filling). next_by old.layout old.versions f (slice_get new.heads (f.arena + 1)) n) filling
    ∙ ap (λ (o : Option Found). next_by old.layout old.versions old.filling o n) head

-- no commit reaches the arena behind the one that is being filled
pub next_kept : {D : Type 0} (disk : DiskOf D) (r : Result Progress LogErr) (old new : LogState D) (n : ℕ) → IsWholeLog disk old → LogAdvances r old new
    → new.layout ≡ old.layout → new.versions ≡ old.versions → new.filling ≡ old.filling → next_filling new n ≡ next_filling old n
next_kept disk (Ok Idle) old new n whole it layout versions filling = ap (λ (l : LogState _). next_filling l n) it.1
next_kept disk (Ok Step) old new n whole it layout versions filling =
    next_same old new n layout versions filling (ap (λ (found : List Found). slice_get found (old.filling.arena + 1)) it.0.heads)
next_kept disk (Ok (Durable blocks)) old new n whole it layout versions filling =
    let reached = fill_arena old.layout old.versions old.heads (filled_as old.committing old.arena.next) old.filling old.queue.waiting whole.queue in
    next_same old new n layout versions filling (it.0.heads (old.filling.arena + 1) (λ same. omega (arith, same, reached.0)))
next_kept disk (Err Fault) old new n whole it layout versions filling =
    next_same old new n layout versions filling (ap (λ (found : List Found). slice_get found (old.filling.arena + 1)) it.0.heads)
next_kept disk (Err (Stopped call)) old new n whole it layout versions filling = ap (λ (l : LogState _). next_filling l n) it.1

-- ---- all that a call does, on any disks

pub step_stopped : {D : Type 0} (disk : DiskOf D) (l : LogState D) (n : ℕ) → l.stopped ≡ Some n → LogTakesStep disk (Err (Stopped n)) l l
step_stopped disk l n is = record {
  advances = (is, refl);
  stopped = λ k. (λ same. is ∙ cc, λ other. let both : Some n ≡ Some k = sym is ∙ other in cc);
  idle = λ runs. absurd (let both : None ≡ Some n = sym runs ∙ is in cc);
  kept = (refl, refl, refl, refl);
  versions = refl;
  front_is = refl;
  next = λ k. refl;
  batch = λ runs. absurd (let both : None ≡ Some n = sym runs ∙ is in cc);
  one_call = λ runs. absurd (let both : None ≡ Some n = sym runs ∙ is in cc);
  cause = refl;
}

pub step_idle : {D : Type 0} (disk : DiskOf D) (l : LogState D) → IsWholeLog disk l → l.stopped ≡ None → queued l ≡ 0 → LogTakesStep disk (Ok Idle) l l
step_idle disk l whole runs none = record {
  advances = (none, refl);
  stopped = λ k. (λ same. absurd (cc), λ is. absurd (let both : None ≡ Some k = sym runs ∙ is in cc));
  idle = λ _ _. refl;
  kept = (refl, refl, refl, refl);
  versions = refl;
  front_is = refl;
  next = λ k. refl;
  batch = λ _ _. batch_of_none disk l whole none;
  one_call = λ _ some. absurd (omega (arith, none, some));
  cause = refl;
}

never_stopped : {D : Type 0} (result : Result Progress LogErr) (m new : LogState D) (n : ℕ) → MakesOrEnds result m new → result ≡ Err (Stopped n) → ⊥
never_stopped (Ok progress) m new n makes is = cc
never_stopped (Err Fault) m new n makes is = cc
never_stopped (Err (Stopped k)) m new n makes is = makes

pub step_made : {D : Type 0} (score_of : List ℕ → List ℕ) (disk : DiskOf D) (result : Result Progress LogErr) (old m new : LogState D) → IsWholeLog disk old → old.stopped ≡ None → 0 < queued old
    → Prepares old m → MakesOneCall score_of disk m new result → LogTakesStep disk result old new
step_made {D = D} score_of disk result old m new whole runs some prep made = record {
  advances = moves;
  stopped = λ n. (λ is. absurd (never_stopped result m new n made.makes is), λ is. absurd (let both : None ≡ Some n = sym runs ∙ is in cc));
  idle = λ _ none. absurd (omega (arith, none, some));
  kept = kept;
  versions = versions;
  front_is = front_kept disk result old new whole moves;
  next = λ n. next_kept disk result old new n whole moves kept.0 versions kept.3;
  batch = λ _. batch_begins old m new prep made.batch;
  one_call = λ _ _. called;
  cause = cause_as_called disk result old new called;
}
  where
    moves : LogAdvances result old new
    moves = advances old m new result prep made.makes made.last

    called : CallsArena disk result old new
    called = calls_as_prepared disk result old m new prep made.calls

    versions : new.versions ≡ old.versions
    versions = made.versions ∙ ap (λ (l : LogState D). l.versions) prep.same

    kept : (new.layout ≡ old.layout) × (new.tables ≡ old.tables) × (new.base ≡ old.base) × (new.filling ≡ old.filling)
    kept = (
      made.kept.0 ∙ ap (λ (l : LogState D). l.layout) prep.same,
      made.kept.1 ∙ ap (λ (l : LogState D). l.tables) prep.same,
      made.kept.2 ∙ ap (λ (l : LogState D). l.base) prep.same,
      made.kept.3 ∙ ap (λ (l : LogState D). l.filling) prep.same,
    )
