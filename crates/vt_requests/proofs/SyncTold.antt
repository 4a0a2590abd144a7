-- What is told of a sync that was waited for.
use Rattle.std.proofs.Common.{◌≡◌, ◌⊎◌, ⊎_elim, inl, inr, ◌+◌, ◌<◌, ◌≤◌, ℕ, List, length, Option, Some, None, Result, Ok, Err, refl, sym, ◌∙◌, ap, subst, arith}
use Rattle.std.specs.Prelude.{IsTrue, MatchResult, OnOk, max, slice_get, slice_set}
use Rattle.vt_base.specs.declared.answer.Answer.{Answer}
use Rattle.vt_base.specs.declared.answer.Said.{Said}
use Rattle.vt_base.specs.declared.answer.Said.TheVariants.{Score, Block, Synced, Refused}
use Rattle.vt_base.specs.declared.why.Why.{Why}
use Rattle.vt_base.specs.declared.why.Why.TheVariants.{BadType, TooBig, TooSmall, Absent, Collision, IndexFull, ArenasFull, DiskFault, Stopped, Damaged, NoMemory}
use Rattle.vt_base.specs.Protocol.{Operation, sync}
use Rattle.vt_disk.specs.Members.{DiskOf}
use Rattle.vt_model.specs.History.{History}
use Rattle.vt_log.specs.declared.error.LogErr.{LogErr}
use Rattle.vt_log.specs.declared.error.LogErr.TheVariants as log_err
use Rattle.vt_log.specs.declared.error.Progress.{Progress}
use Rattle.vt_log.specs.declared.error.Progress.TheVariants.{Idle, Step as LogStep, Durable}
use Rattle.vt_log.specs.Answers.{LogAdvances}
use Rattle.vt_log.specs.Faults.{OneHasRisen}
use Rattle.vt_log.specs.Log.{LogState}
use Rattle.vt_model.specs.Causes.{disk_fault}
use Rattle.vt_base.specs.declared.operation.Operation.{Operation as Asked}
use Rattle.vt_core.specs.declared.event.Event.{Event}
use Rattle.vt_core.specs.declared.event.Event.TheVariants.{Ask, Answer as AskAnswer, LogAdvance}
use Rattle.vt_core.specs.declared.event.Out.TheVariants.{Said as SaidOut, Waits, NotYet, Moved, Nothing, Failed}
use Rattle.vt_core.specs.declared.event.Out.{Out}
use Rattle.vt_core.specs.Asking.{AnswersSync, EndsSync, MayBeTold, with_waiting}
use Rattle.vt_core.specs.Causes.{CountsSaid, CountsWhy, IsUndamagedSaid, IsUndamagedWhy}
use Rattle.vt_core.specs.Core.{CoreState, each_of, history_len, machine_of, stops_of}
use Rattle.vt_base.specs.Operations.{operation_of}
use Rattle.vt_core.specs.Events.{EndsWaiting}
use Rattle.vt_core.specs.Machine.{Machine, WaitsForNone, WaitsAt}
use Rattle.vt_core.specs.Sound.{IsSound}
use Rattle.vt_core.specs.Steps.{KeepsStore, Steps}
use Rattle.vt_recover.proofs.Places.{get_set}
use Rattle.vt_core.proofs.Kept.{keeps_then}
use Rattle.vt_core.proofs.AskWork.{one_rose}
use Rattle.vt_recover.proofs.TakingAllBack.{set_same}
use Rattle.vt_core.proofs.NewWork.{set_set}
use Rattle.vt_core.specs.Work.{AdvancesLog, out_of_progress}
use Rattle.vt_handler.specs.Serving.{Suits}
use Rattle.vt_requests.specs.Requests.{EndsWait, refused}
use Rattle.vt_requests.specs.Working.{DoesWork, IsOwnWork, NeedsDurable}
use Rattle.vt_requests.proofs.AskGives.{IsWaiting}
use Rattle.vt_requests.proofs.Told.{Told}
use Rattle.vt_requests.proofs.Whys.{log_faults, log_stop_same, log_stopped}
use Rattle.vt_requests.proofs.WorkDone.{AreOwn, Did, Worked, did, works_well}

-- ---- what is said in the end

-- it is synced, or the log has stopped
record EndsWell {D : Type 0} (session at : ℕ) (said : Said) (old new : CoreState D) : Type 0 where
  said_is : said ≡ Synced
  waits : WaitsAt old.waiting session at
  goes : old.log.stopped ≡ None
  durable : at ≤ old.log.durable
  new_is : new ≡ with_waiting session None (record old { synced = max old.synced at })

record EndsStopped {D : Type 0} (session at : ℕ) (said : Said) (old new : CoreState D) : Type 0 where
  call : ℕ
  said_is : said ≡ Refused (Stopped call)
  waits : WaitsAt old.waiting session at
  stop : old.log.stopped ≡ Some call
  new_is : new ≡ with_waiting session None old

by_said : {D : Type 0} (session at : ℕ) (said : Said) (old new : CoreState D) → EndsSync session at said old new → EndsWell session at said old new ⊎ EndsStopped session at said old new
by_said session at Synced old new it = inl (record { said_is = refl; waits = it.0; goes = it.1; durable = it.2; new_is = it.3 })
by_said session at (Refused (Stopped call)) old new it = inr (record { call = call; said_is = refl; waits = it.0; stop = it.1; new_is = it.2 })
by_said session at (Refused DiskFault) old new it = absurd it
by_said session at (Refused (Damaged site want found)) old new it = absurd it
by_said session at (Refused NoMemory) old new it = absurd it
by_said session at (Refused BadType) old new it = absurd it
by_said session at (Refused TooBig) old new it = absurd it
by_said session at (Refused TooSmall) old new it = absurd it
by_said session at (Refused Absent) old new it = absurd it
by_said session at (Refused Collision) old new it = absurd it
by_said session at (Refused IndexFull) old new it = absurd it
by_said session at (Refused ArenasFull) old new it = absurd it
by_said session at (Score score) old new it = absurd it
by_said session at (Block bytes) old new it = absurd it

-- ---- the work

pub durable_is_own : {D : Type 0} (number : ℕ) → AreOwn (NeedsDurable {D = D} number)
durable_is_own number event k needed = subst (λ (e : Event). IsOwnWork e) (sym needed.0) tt

-- of a log that hadn't stopped it fails where a call does, which stops it
record Fell {D : Type 0} (why : Why) (new : CoreState D) : Type 0 where
  why_is : why ≡ DiskFault
  call : ℕ
  stopped : new.log.stopped ≡ Some call

sync_fell : {D : Type 0} (score : List ℕ → List ℕ) (disk : DiskOf D) (number : ℕ) (why : Why) (old new : CoreState D) → old.log.stopped ≡ None
    → DoesWork {T = Unit {0}} score disk (NeedsDurable number) (Err why) old new → Fell why new
sync_fell {D} score disk number why old new goes it =
    let well = works_well score disk (NeedsDurable number) (durable_is_own number) it.events it.outs old it.mid it.works in
    let goes_now : it.mid.log.stopped ≡ None = log_stop_same old it.mid well.stops ∙ goes in
    let step : Steps score disk LogAdvance (Failed why) it.mid new = subst (λ (e : Event). Steps score disk e (Failed why) it.mid new) it.ends.needed.0 it.ends.steps in
    let fault : why ≡ DiskFault = log_faults disk why it.mid new goes_now step.does in
    record { why_is = fault; call = it.mid.log.calls; stopped = log_stopped disk it.mid new (subst (λ (w : Why). AdvancesLog disk (Failed w) it.mid new) fault step.does) }

-- ---- a sync that waits is told

module _ {D : Type 0} (score : List ℕ → List ℕ) (disk : DiskOf D) (session now : ℕ) (r : Asked) (old w committed new : CoreState D) (free : WaitsForNone old.waiting session)
    (asks : Steps score disk (Ask session r now) Waits old w) (waits : IsWaiting score session (operation_of r) Waits old w)
    (said : Answer) (ends : Steps score disk (AskAnswer session) (SaidOut said) committed new) (worked : Worked score disk w committed) where
  len : history_len w ≡ history_len old
  len = ap (λ (k : CoreState D). history_len k) waits.new_is

  is_waiting : WaitsAt committed.waiting session (history_len old)
  is_waiting = ap (λ (ws : List (Option ℕ)). slice_get ws session) (worked.keeps.waiting ∙ ap (λ (k : CoreState D). k.waiting) waits.new_is)
      ∙ get_set old.waiting session (Some (history_len old)) None free

  -- the number that it waited for
  at_is : (at : ℕ) → WaitsAt committed.waiting session at → at ≡ history_len old
  at_is at it = let both : Some (Some at) ≡ Some (Some (history_len old)) = sym it ∙ is_waiting in cc

  kept : KeepsStore disk old new
  kept = keeps_then disk old w new asks.goes_on.store (keeps_then disk w committed new worked.keeps.store ends.goes_on.store)

  waits_no_more : new.waiting ≡ slice_set committed.waiting session None → new.waiting ≡ old.waiting
  waits_no_more is = is ∙ ap (λ (ws : List (Option ℕ)). slice_set ws session None) (worked.keeps.waiting ∙ ap (λ (k : CoreState D). k.waiting) waits.new_is)
      ∙ set_set old.waiting session (Some (history_len old)) None ∙ set_same old.waiting session None free

  one_more : history_len new ≡ history_len committed → history_len new ≤ history_len old + 1
  one_more same = omega (arith, same, worked.len, len)

  -- on sound devices the machine has what it had while the session waited
  abbrev waiting_machine : Machine → Machine
  waiting_machine x = record x { waiting = slice_set x.waiting session (Some (history_len old)) }

  sound_then : (h : History) → IsTrue disk.tells → IsSound score disk old h → IsSound score disk committed h × (machine_of committed h ≡ waiting_machine (machine_of old h))
  sound_then h tells sound =
      let first = asks.machine tells h sound in
      let m_is : machine_of w first.0 ≡ record (machine_of old h) { waiting = slice_set old.waiting session (Some (length h)) } = first.1.1.new_is in
      let g_is : first.0 ≡ h = ap (λ (x : Machine). x.history) m_is in
      let second = worked.quiet h tells (subst (λ (g : History). IsSound score disk w g) g_is first.2) in
      (second.0, second.1 ∙ ap (λ (k : CoreState D). machine_of k h) waits.new_is)

  back : (x : Machine) → x.waiting ≡ old.waiting → record (waiting_machine x) { waiting = slice_set (slice_set x.waiting session (Some (history_len old))) session None } ≡ x
  back x same =
      let here : slice_get x.waiting session ≡ Some None = ap (λ (ws : List (Option ℕ)). slice_get ws session) same ∙ free in
      ap (λ (ws : List (Option ℕ)). record x { waiting = ws }) (set_set x.waiting session (Some (history_len old)) None ∙ set_same x.waiting session None here)

  -- it is synced
  told_well : stops_of committed ≡ stops_of old → each_of disk.faults committed ≡ each_of disk.faults old → EndsWell session said.at said.said committed new
      → Told score disk sync said old new
  told_well stops counts it = record {
    at = at_is said.at it.waits;
    one_more = one_more (ap (λ (k : CoreState D). history_len k) it.new_is);
    suits = subst (λ (s : Said). Suits score sync s) (sym it.said_is) tt;
    keeps = record { store = kept; waiting = waits_no_more (ap (λ (k : CoreState D). k.waiting) it.new_is) };
    stops = record {
      stay = λ i call at. ends.stops.stay i call (subst (λ (l : List (Option ℕ)). slice_get l i ≡ Some (Some call)) (sym stops) at);
      cause = λ _. ends.stops.cause (λ e. cc) ∙ stops;
    };
    counts = subst (λ (ns : List ℕ). CountsSaid said.said ns (each_of disk.faults new)) counts ends.counts;
    cause = λ why e. absurd (let no = sym it.said_is ∙ e in cc);
    covered = λ _. omega (arith, it.durable, at_is said.at it.waits, ends.goes_on.store.durable);
    serves = λ h tells sound.
        let first = sound_then h tells sound in
        let last = ends.machine tells h first.0 in
        let syncs : EndsWaiting session said.at Synced (machine_of committed h) (machine_of new last.0) =
        subst (λ (s : Said). EndsWaiting session said.at s (machine_of committed h) (machine_of new last.0)) it.said_is last.1 in
        let at : said.at ≡ length h = at_is said.at it.waits ∙ sound.log.front in
        let new_is : machine_of new last.0 ≡ record (machine_of old h) { synced = max old.synced (length h) } =
        syncs.new_is
        ∙ ap (λ (x : Machine). record x { synced = max x.synced said.at; waiting = slice_set x.waiting session None }) first.1
        ∙ ap (λ (n : ℕ). record (waiting_machine (machine_of old h)) { synced = max old.synced n; waiting = slice_set (slice_set old.waiting session (Some (history_len old))) session None }) at
        ∙ ap (λ (x : Machine). record x { synced = max old.synced (length h) }) (back (machine_of old h) refl) in
        (last.0, inr (inl (refl, (it.said_is, new_is))), last.2);
    undamaged = λ h tells sound. subst IsUndamagedSaid (sym it.said_is) tt;
  }

  -- a call of the log failed
  told_fell : (why : Why) → Did {T = Unit {0}} score disk (Err why) w committed → Fell why committed → stops_of w ≡ stops_of old → each_of disk.faults w ≡ each_of disk.faults old
      → EndsStopped session said.at said.said committed new → Told score disk sync (refused why said.at) old new
  told_fell why made fell stops counts it = record {
    at = at_is said.at it.waits;
    one_more = one_more (ap (λ (k : CoreState D). history_len k) it.new_is);
    suits = tt;
    keeps = record { store = kept; waiting = waits_no_more (ap (λ (k : CoreState D). k.waiting) it.new_is) };
    stops = record {
      stay = λ i call at. ends.stops.stay i call (made.stops.stay i call (subst (λ (l : List (Option ℕ)). slice_get l i ≡ Some (Some call)) (sym stops) at));
      cause = λ other. absurd (other (ap Refused fell.why_is));
    };
    counts = subst (λ (ns : List ℕ). CountsWhy why (each_of disk.faults old) ns) (sym none_rose) rose;
    cause = λ v e. subst (λ (x : Why). MayBeTold score old sync x) (sym fell.why_is ∙ refused_why why v e) tt;
    covered = λ e. absurd (cc);
    serves = λ h tells sound.
        let first = sound_then h tells sound in
        let last = ends.machine tells h first.0 in
        let gives_up : EndsWaiting session said.at (Refused (Stopped it.call)) (machine_of committed h) (machine_of new last.0) =
        subst (λ (s : Said). EndsWaiting session said.at s (machine_of committed h) (machine_of new last.0)) it.said_is last.1 in
        let quiet : machine_of new last.0 ≡ machine_of old h =
        gives_up.new_is ∙ ap (λ (x : Machine). record x { waiting = slice_set x.waiting session None }) first.1 ∙ back (machine_of old h) refl in
        let fault : OneHasRisen (each_of disk.faults old) (each_of disk.faults committed) = subst (λ (v : Why). CountsWhy v (each_of disk.faults old) (each_of disk.faults committed)) fell.why_is rose in
        (last.0, inr (inr (disk_fault (each_of disk.faults old) (each_of disk.faults committed), ap Refused fell.why_is, (tt, one_rose (each_of disk.faults old) (each_of disk.faults committed) fault), quiet)), last.2);
    undamaged = λ h tells sound. subst IsUndamagedWhy (sym fell.why_is) tt;
  }
    where
      rose : CountsWhy why (each_of disk.faults old) (each_of disk.faults committed)
      rose = subst (λ (ns : List ℕ). CountsWhy why ns (each_of disk.faults committed)) counts made.counts

      none_rose : each_of disk.faults new ≡ each_of disk.faults committed
      none_rose = subst (λ (s : Said). CountsSaid s (each_of disk.faults committed) (each_of disk.faults new)) it.said_is ends.counts

      refused_why : (x y : Why) → Refused x ≡ Refused y → x ≡ y
      refused_why x y is = cc

pub told_wait : {D : Type 0} (score : List ℕ → List ℕ) (disk : DiskOf D) (session now : ℕ) (r : Asked) (a : Answer) (old w new : CoreState D) → WaitsForNone old.waiting session
    → Steps score disk (Ask session r now) Waits old w → IsWaiting score session (operation_of r) Waits old w → EndsWait score disk session a w new → Told score disk (operation_of r) a old new
told_wait {D} score disk session now r a old w new free asks waits it =
    subst (λ (m : Operation). Told score disk m a old new) (sym waits.m_is) (by_made it.made it.works it.answer_is)
  where
    stops_w : stops_of w ≡ stops_of old
    stops_w = asks.stops.cause (λ e. cc)

    goes : w.log.stopped ≡ None
    goes = ap (λ (k : CoreState D). k.log.stopped) waits.new_is ∙ waits.goes

    by_made : (made : Result (Unit {0}) Why) → DoesWork score disk (NeedsDurable (history_len w)) made w it.committed
        → MatchResult made (λ _. a ≡ it.said) (λ why. a ≡ refused why it.said.at) → Told score disk sync a old new
    by_made (Ok done) works is =
        let made = did score disk (NeedsDurable (history_len w)) (durable_is_own (history_len w)) (Ok done) w it.committed works in
        subst (λ (x : Answer). Told score disk sync x old new) (sym is) (⊎_elim
        (λ well. told_well score disk session now r old w it.committed new free asks waits it.said it.ends made.worked (made.stops ∙ stops_w) (made.counts ∙ asks.counts) well)
        (λ stop. absurd (let no = sym stop.stop ∙ log_stop_same w it.committed made.stops ∙ goes in cc))
        (by_said session it.said.at it.said.said it.committed new it.ends.does))
    by_made (Err why) works is =
        let made = did score disk (NeedsDurable (history_len w)) (durable_is_own (history_len w)) (Err why) w it.committed works in
        let fell = sync_fell score disk (history_len w) why w it.committed goes works in
        subst (λ (x : Answer). Told score disk sync x old new) (sym is) (⊎_elim
        (λ well. absurd (let no = sym well.goes ∙ fell.stopped in cc))
        (λ stop. told_fell score disk session now r old w it.committed new free asks waits it.said it.ends made.worked why made fell stops_w asks.counts stop)
        (by_said session it.said.at it.said.said it.committed new it.ends.does))

-- ---- a sync that waits is answered

-- a log whose work failed has stopped
stays_stopped : {D : Type 0} (answer : Result Progress LogErr) (old new : LogState D) (why : Why) → Failed why ≡ out_of_progress answer → LogAdvances answer old new → new.stopped ≡ None → ⊥
stays_stopped (Ok Idle) old new why is it goes = let no = is in cc
stays_stopped (Ok LogStep) old new why is it goes = let no = is in cc
stays_stopped (Ok (Durable blocks)) old new why is it goes = let no = is in cc
stays_stopped (Err log_err.Fault) old new why is it goes = let no = sym goes ∙ it.1 in cc
stays_stopped {D} (Err (log_err.Stopped n)) old new why is it goes = let no = sym goes ∙ ap (λ (l : LogState D). l.stopped) it.1 ∙ it.0 in cc

failed_stops : {D : Type 0} (score : List ℕ → List ℕ) (disk : DiskOf D) (number : ℕ) (why : Why) (old new : CoreState D) → DoesWork {T = Unit {0}} score disk (NeedsDurable number) (Err why) old new
    → new.log.stopped ≡ None → ⊥
failed_stops {D} score disk number why old new it goes =
    let step : Steps score disk LogAdvance (Failed why) it.mid new = subst (λ (e : Event). Steps score disk e (Failed why) it.mid new) it.ends.needed.0 it.ends.steps in
    stays_stopped step.does.answer it.mid.log new.log why step.does.out_is step.does.step.advances goes

pub answered : {D : Type 0} (score : List ℕ → List ℕ) (disk : DiskOf D) (session : ℕ) (old committed new : CoreState D) (made : Result (Unit {0}) Why) (out : Out)
    → WaitsAt old.waiting session (history_len old) → DoesWork score disk (NeedsDurable (history_len old)) made old committed → OnOk made (history_len old ≤ committed.log.durable)
    → AnswersSync session out committed new → (a : Answer) × (out ≡ SaidOut a)
answered {D} score disk session old committed new made out waits works durable does = by_out out does
  where
    waits_now : WaitsAt committed.waiting session (history_len old)
    waits_now = ap (λ (ws : List (Option ℕ)). slice_get ws session) (did score disk (NeedsDurable (history_len old)) (durable_is_own (history_len old)) made old committed works).worked.keeps.waiting ∙ waits

    early : (r : Result (Unit {0}) Why) → DoesWork score disk (NeedsDurable (history_len old)) r old committed → OnOk r (history_len old ≤ committed.log.durable)
        → (number : ℕ) → WaitsAt committed.waiting session number → committed.log.durable < number → committed.log.stopped ≡ None → ⊥
    early (Ok done) w low number at less goes = let same : Some (Some number) ≡ Some (Some (history_len old)) = sym at ∙ waits_now in let is : number ≡ history_len old = cc in omega (arith, low, less, is)
    early (Err why) w low number at less goes = failed_stops score disk (history_len old) why old committed w goes

    by_out : (o : Out) → AnswersSync session o committed new → (a : Answer) × (o ≡ SaidOut a)
    by_out (SaidOut a) it = (a, refl)
    by_out NotYet it = absurd (early made works durable it.0.0 it.0.1 it.0.2 it.1)
    by_out Nothing it = absurd (let no = sym it.0 ∙ waits_now in cc)
    by_out Waits it = absurd it
    by_out Moved it = absurd it
    by_out (Failed why) it = absurd it
