-- What pieces of a store's own work leave, one after another.
use Rattle.std.proofs.Common.{◌≡◌, ◌≢◌, ℕ, List, [], ◌∷◌, ◌++◌, Some, Ok, Err, Result, refl, sym, ◌∙◌, ap, subst}
use Rattle.std.specs.Prelude.{IsTrue, IfErr, MatchResult, slice_get}
use Rattle.std.specs.Result.{IsErrAnd}
use Rattle.vt_base.specs.declared.why.Why.{Why}
use Rattle.vt_base.specs.declared.why.Why.TheVariants.{DiskFault}
use Rattle.vt_disk.specs.Members.{DiskOf}
use Rattle.vt_model.specs.History.{History}
use Rattle.vt_core.specs.declared.event.Event.{Event}
use Rattle.vt_core.specs.declared.event.Event.TheVariants.{Ask, Answer as AskAnswer, LogAdvance, FileBegin, FileAdvance, BloomAdvance, EvictLump, EvictIndex}
use Rattle.vt_core.specs.declared.event.Out.{Out}
use Rattle.vt_core.specs.declared.event.Out.TheVariants.{Said as SaidOut, Waits, NotYet, Moved, Nothing, Failed}
use Rattle.vt_core.specs.Causes.{CountsOut, CountsWhy, IsUndamagedWhy, KeepsStops}
use Rattle.vt_core.specs.Core.{CoreState, each_of, history_len, machine_of, stops_of}
use Rattle.vt_core.specs.Events.{IsWork, MakesStep}
use Rattle.vt_core.specs.Machine.{Machine}
use Rattle.vt_core.specs.Sound.{IsSound}
use Rattle.vt_core.specs.Steps.{DoesEvent, Runs, Steps}
use Rattle.vt_core.proofs.Kept.{keeps_then, same_store}
use Rattle.vt_requests.specs.Answers.{KeepsAll, KeepsStopped}
use Rattle.vt_requests.specs.Working.{DoesWork, IsOwnWork, WentOn, WorksInPieces}

-- ---- what an event gives

went_counts : (out : Out) (old new : List ℕ) → WentOn out → CountsOut out old new → new ≡ old
went_counts Moved old new went counts = counts
went_counts Nothing old new went counts = counts
went_counts (SaidOut answer) old new went counts = absurd went
went_counts Waits old new went counts = absurd went
went_counts NotYet old new went counts = absurd went
went_counts (Failed why) old new went counts = absurd went

pub went_on : (out : Out) (why : Why) → WentOn out → out ≢ Failed why
went_on Moved why went is = cc
went_on Nothing why went is = cc
went_on (SaidOut answer) why went is = absurd went
went_on Waits why went is = absurd went
went_on NotYet why went is = absurd went
went_on (Failed other) why went is = absurd went

-- the machine's step of the store's own work is none
quiet_work : (out : Out) (old new : Machine) → IsWork out old new → new ≡ old
quiet_work Moved old new work = work
quiet_work Nothing old new work = work
quiet_work (Failed why) old new work = work
quiet_work (SaidOut answer) old new work = absurd work
quiet_work Waits old new work = absurd work
quiet_work NotYet old new work = absurd work

own_is_work : (score : List ℕ → List ℕ) (event : Event) (out : Out) (old new : Machine) → IsOwnWork event → MakesStep score event out old new → IsWork out old new
own_is_work score LogAdvance out old new own makes = makes
own_is_work score (FileBegin shard) out old new own makes = makes
own_is_work score (FileAdvance shard) out old new own makes = makes
own_is_work score BloomAdvance out old new own makes = makes
own_is_work score (Ask session request now) out old new own makes = absurd own
own_is_work score (AskAnswer session) out old new own makes = absurd own
own_is_work score (EvictLump shard) out old new own makes = absurd own
own_is_work score (EvictIndex shard) out old new own makes = absurd own

-- ---- what a piece keeps

pub record KeepsRest {D : Type 0} (old new : CoreState D) : Type 0 where
  pub waiting : new.waiting ≡ old.waiting
  pub synced : new.synced ≡ old.synced
  pub len : history_len new ≡ history_len old

own_keeps : {D : Type 0} (score : List ℕ → List ℕ) (disk : DiskOf D) (event : Event) (out : Out) (old new : CoreState D) → IsOwnWork event → DoesEvent score disk event out old new → KeepsRest old new
own_keeps {D} score disk LogAdvance out old new own does = record {
  waiting = ap (λ (k : CoreState D). k.waiting) does.same;
  synced = ap (λ (k : CoreState D). k.synced) does.same;
  len = does.step.front_is;
}
own_keeps {D} score disk (FileBegin shard) out old new own does = record {
  waiting = ap (λ (k : CoreState D). k.waiting) does.same;
  synced = ap (λ (k : CoreState D). k.synced) does.same;
  len = ap (λ (k : CoreState D). history_len k) does.same;
}
own_keeps {D} score disk (FileAdvance shard) out old new own does = record {
  waiting = ap (λ (k : CoreState D). k.waiting) does.same;
  synced = ap (λ (k : CoreState D). k.synced) does.same;
  len = ap (λ (k : CoreState D). history_len k) does.same;
}
own_keeps {D} score disk BloomAdvance out old new own does = record {
  waiting = ap (λ (k : CoreState D). k.waiting) does.same;
  synced = ap (λ (k : CoreState D). k.synced) does.same;
  len = ap (λ (k : CoreState D). history_len k) does.same;
}
own_keeps score disk (Ask session request now) out old new own does = absurd own
own_keeps score disk (AskAnswer session) out old new own does = absurd own
own_keeps score disk (EvictLump shard) out old new own does = absurd own
own_keeps score disk (EvictIndex shard) out old new own does = absurd own

-- what work leaves, whether it went on or failed
pub record Worked {D : Type 0} (score : List ℕ → List ℕ) (disk : DiskOf D) (old new : CoreState D) : Type 0 where
  pub keeps : KeepsAll disk old new
  pub len : history_len new ≡ history_len old
  pub synced : new.synced ≡ old.synced
  pub quiet : (h : History) → IsTrue disk.tells → IsSound score disk old h → IsSound score disk new h × (machine_of new h ≡ machine_of old h)

pub all_kept : {D : Type 0} (disk : DiskOf D) (k : CoreState D) → KeepsAll disk k k
all_kept disk k = record { store = same_store disk k; waiting = refl }

pub keeps_on : {D : Type 0} (disk : DiskOf D) (old mid new : CoreState D) → KeepsAll disk old mid → KeepsAll disk mid new → KeepsAll disk old new
keeps_on disk old mid new a b = record { store = keeps_then disk old mid new a.store b.store; waiting = b.waiting ∙ a.waiting }

pub step_worked : {D : Type 0} (score : List ℕ → List ℕ) (disk : DiskOf D) (event : Event) (out : Out) (old new : CoreState D) → IsOwnWork event → Steps score disk event out old new → Worked score disk old new
step_worked {D} score disk event out old new own step =
    let rest = own_keeps score disk event out old new own step.does in
    record {
      keeps = record { store = step.goes_on.store; waiting = rest.waiting };
      len = rest.len;
      synced = rest.synced;
      quiet = λ h tells sound.
          let it = step.machine tells h sound in
          let same = quiet_work out (machine_of old h) (machine_of new it.0) (own_is_work score event out (machine_of old h) (machine_of new it.0) own it.1) in
          let g_is : it.0 ≡ h = ap (λ (m : Machine). m.history) same in
          (subst (λ (g : History). IsSound score disk new g) g_is it.2, subst (λ (g : History). machine_of new g ≡ machine_of old h) g_is same);
    }

pub none_worked : {D : Type 0} (score : List ℕ → List ℕ) (disk : DiskOf D) (k : CoreState D) → Worked score disk k k
none_worked score disk k = record { keeps = all_kept disk k; len = refl; synced = refl; quiet = λ h tells sound. (sound, refl) }

pub worked_on : {D : Type 0} (score : List ℕ → List ℕ) (disk : DiskOf D) (old mid new : CoreState D) → Worked score disk old mid → Worked score disk mid new → Worked score disk old new
worked_on score disk old mid new a b = record {
  keeps = keeps_on disk old mid new a.keeps b.keeps;
  len = b.len ∙ a.len;
  synced = b.synced ∙ a.synced;
  quiet = λ h tells sound. let first = a.quiet h tells sound in let second = b.quiet h tells first.0 in (second.0, second.1 ∙ first.1);
}

-- ---- pieces that went on

pub record WorkedWell {D : Type 0} (score : List ℕ → List ℕ) (disk : DiskOf D) (old new : CoreState D) : Type 0 where
  pub worked : Worked score disk old new
  pub counts : each_of disk.faults new ≡ each_of disk.faults old
  pub stops : stops_of new ≡ stops_of old

-- pieces of work are the store's own
abbrev pub AreOwn : {D : Type 0} → (Needs : Event → CoreState D → Type 0) → Type 0
AreOwn {D} Needs = (event : Event) (k : CoreState D) → Needs event k → IsOwnWork event

pub works_well : {D : Type 0} (score : List ℕ → List ℕ) (disk : DiskOf D) (Needs : Event → CoreState D → Type 0) → AreOwn Needs → (events : List Event) (outs : List Out) (old new : CoreState D)
    → WorksInPieces score disk Needs events outs old new → WorkedWell score disk old new
works_well score disk Needs own [] [] old new same =
    subst (λ (k : CoreState _). WorkedWell score disk old k) (sym same) (record { worked = none_worked score disk old; counts = refl; stops = refl })
works_well score disk Needs own (event ∷ events) (out ∷ outs) old new it =
    let step = it.3 in
    let rest = works_well score disk Needs own events outs it.0 new it.4 in
    record {
      worked = worked_on score disk old it.0 new (step_worked score disk event out old it.0 (own event old it.1) step) rest.worked;
      counts = rest.counts ∙ went_counts out (each_of disk.faults old) (each_of disk.faults it.0) it.2 step.counts;
      stops = rest.stops ∙ step.stops.cause (went_on out DiskFault it.2);
    }
works_well score disk Needs own [] (out ∷ outs) old new it = absurd it
works_well score disk Needs own (event ∷ events) [] old new it = absurd it

-- ---- work that failed, or didn't

pub record Did {D T : Type 0} (score : List ℕ → List ℕ) (disk : DiskOf D) (result : Result T Why) (old new : CoreState D) : Type 0 where
  pub worked : Worked score disk old new
  pub counts : MatchResult result (λ _. each_of disk.faults new ≡ each_of disk.faults old) (λ why. CountsWhy why (each_of disk.faults old) (each_of disk.faults new))
  pub stops : MatchResult result (λ _. stops_of new ≡ stops_of old) (λ why. KeepsStopped (why ≡ DiskFault) old new)
  pub undamaged : (h : History) → IsTrue disk.tells → IsSound score disk old h → IfErr result IsUndamagedWhy

failed_other : (why : Why) → ¬ (why ≡ DiskFault) → Failed why ≢ Failed DiskFault
failed_other why other is = other (ap inside is)
  where
    inside : Out → Why
    inside (Failed w) = w
    inside Moved = DiskFault
    inside Nothing = DiskFault
    inside NotYet = DiskFault
    inside Waits = DiskFault
    inside (SaidOut answer) = DiskFault

-- a stop before is one afterwards, where none changed and then a step was made
pub keeps_stopped : {D : Type 0} (why : Why) (old mid new : CoreState D) → stops_of mid ≡ stops_of old → KeepsStops (Failed why) mid new → KeepsStopped (why ≡ DiskFault) old new
keeps_stopped why old mid new same keeps = record {
  stay = λ i call at. keeps.stay i call (subst (λ (s : List _). slice_get s i ≡ Some (Some call)) (sym same) at);
  cause = λ other. keeps.cause (failed_other why other) ∙ same;
}

pub did : {D T : Type 0} (score : List ℕ → List ℕ) (disk : DiskOf D) (Needs : Event → CoreState D → Type 0) → AreOwn Needs → (result : Result T Why) (old new : CoreState D)
    → DoesWork score disk Needs result old new → Did score disk result old new
did score disk Needs own (Ok done) old new it =
    let well = works_well score disk Needs own it.events it.outs old it.mid it.works in
    subst (λ (k : CoreState _). Did score disk (Ok done) old k) (sym it.ends) (record {
      worked = well.worked;
      counts = well.counts;
      stops = well.stops;
      undamaged = λ h tells sound. tt;
    })
did score disk Needs own (Err why) old new it =
    let well = works_well score disk Needs own it.events it.outs old it.mid it.works in
    let last = it.ends in
    record {
      worked = worked_on score disk old it.mid new well.worked (step_worked score disk last.event (Failed why) it.mid new (own last.event it.mid last.needed) last.steps);
      counts = subst (λ (ns : List ℕ). CountsWhy why ns (each_of disk.faults new)) well.counts last.steps.counts;
      stops = keeps_stopped why old it.mid new well.stops last.steps.stops;
      undamaged = λ h tells sound. last.steps.undamaged h tells (well.worked.quiet h tells sound).0;
    }

-- ---- one piece after another

pub works_then : {D : Type 0} (score : List ℕ → List ℕ) (disk : DiskOf D) (Needs : Event → CoreState D → Type 0) (first later : List Event) (gave gives : List Out) (old mid new : CoreState D)
    → WorksInPieces score disk Needs first gave old mid → WorksInPieces score disk Needs later gives mid new → WorksInPieces score disk Needs (first ++ later) (gave ++ gives) old new
works_then score disk Needs [] later [] gives old mid new same it = subst (λ (k : CoreState _). WorksInPieces score disk Needs later gives k new) same it
works_then score disk Needs (event ∷ first) later (out ∷ gave) gives old mid new a it =
    (a.0, a.1, a.2, a.3, works_then score disk Needs first later gave gives a.0 mid new a.4 it)
works_then score disk Needs [] later (out ∷ gave) gives old mid new a it = absurd a
works_then score disk Needs (event ∷ first) later [] gives old mid new a it = absurd a

pub work_then : {D T U : Type 0} (score : List ℕ → List ℕ) (disk : DiskOf D) (Needs : Event → CoreState D → Type 0) (done : T) (result : Result U Why) (old mid new : CoreState D)
    → DoesWork {T = T} score disk Needs (Ok done) old mid → DoesWork score disk Needs result mid new → DoesWork score disk Needs result old new
work_then score disk Needs done result old mid new a b =
    let here : WorksInPieces score disk Needs a.events a.outs old mid = subst (λ (k : CoreState _). WorksInPieces score disk Needs a.events a.outs old k) (sym a.ends) a.works in
    record {
      events = a.events ++ b.events;
      outs = a.outs ++ b.outs;
      mid = b.mid;
      works = works_then score disk Needs a.events b.events a.outs b.outs old mid b.mid here b.works;
      ends = b.ends;
    }

-- no piece, one that went on, and one that failed
pub no_work : {D T : Type 0} (score : List ℕ → List ℕ) (disk : DiskOf D) (Needs : Event → CoreState D → Type 0) (done : T) (k : CoreState D) → DoesWork score disk Needs (Ok done) k k
no_work score disk Needs done k = record { events = []; outs = []; mid = k; works = refl; ends = refl }

pub one_piece : {D T : Type 0} (score : List ℕ → List ℕ) (disk : DiskOf D) (Needs : Event → CoreState D → Type 0) (done : T) (event : Event) (out : Out) (old new : CoreState D)
    → Needs event old → WentOn out → Steps score disk event out old new → DoesWork score disk Needs (Ok done) old new
one_piece score disk Needs done event out old new needed went step =
    record { events = event ∷ []; outs = out ∷ []; mid = new; works = (new, needed, went, step, refl); ends = refl }

pub piece_fails : {D T : Type 0} (score : List ℕ → List ℕ) (disk : DiskOf D) (Needs : Event → CoreState D → Type 0) (why : Why) (event : Event) (old new : CoreState D)
    → Needs event old → Steps score disk event (Failed why) old new → DoesWork {T = T} score disk Needs (Err why) old new
piece_fails score disk Needs why event old new needed step =
    record { events = []; outs = []; mid = old; works = refl; ends = record { event = event; needed = needed; steps = step } }

-- needed for one thing is needed for another, of stores that have accepted as many blocks
pub works_for : {D : Type 0} (score : List ℕ → List ℕ) (disk : DiskOf D) (Needs Wants : Event → CoreState D → Type 0) (len : ℕ) → AreOwn Needs
    → ((event : Event) (k : CoreState D) → history_len k ≡ len → Needs event k → Wants event k) → (events : List Event) (outs : List Out) (old new : CoreState D) → history_len old ≡ len
    → WorksInPieces score disk Needs events outs old new → WorksInPieces score disk Wants events outs old new
works_for score disk Needs Wants len own turn [] [] old new is same = same
works_for score disk Needs Wants len own turn (event ∷ events) (out ∷ outs) old new is it =
    let after = (step_worked score disk event out old it.0 (own event old it.1) it.3).len ∙ is in
    (it.0, turn event old is it.1, it.2, it.3, works_for score disk Needs Wants len own turn events outs it.0 new after it.4)
works_for score disk Needs Wants len own turn [] (out ∷ outs) old new is it = absurd it
works_for score disk Needs Wants len own turn (event ∷ events) [] old new is it = absurd it

pub work_for : {D T : Type 0} (score : List ℕ → List ℕ) (disk : DiskOf D) (Needs Wants : Event → CoreState D → Type 0) → AreOwn Needs → (result : Result T Why) (old new : CoreState D)
    → ((event : Event) (k : CoreState D) → history_len k ≡ history_len old → Needs event k → Wants event k) → DoesWork score disk Needs result old new → DoesWork score disk Wants result old new
work_for score disk Needs Wants own (Ok done) old new turn it = record {
  events = it.events;
  outs = it.outs;
  mid = it.mid;
  works = works_for score disk Needs Wants (history_len old) own turn it.events it.outs old it.mid refl it.works;
  ends = it.ends;
}
work_for score disk Needs Wants own (Err why) old new turn it =
    let well = works_well score disk Needs own it.events it.outs old it.mid it.works in
    record {
      events = it.events;
      outs = it.outs;
      mid = it.mid;
      works = works_for score disk Needs Wants (history_len old) own turn it.events it.outs old it.mid refl it.works;
      ends = record { event = it.ends.event; needed = turn it.ends.event it.mid well.worked.len it.ends.needed; steps = it.ends.steps };
    }

-- ---- work is a run of events

pub works_run : {D : Type 0} (score : List ℕ → List ℕ) (disk : DiskOf D) (Needs : Event → CoreState D → Type 0) (events : List Event) (outs : List Out) (old new : CoreState D)
    → WorksInPieces score disk Needs events outs old new → Runs score disk events outs old new
works_run score disk Needs [] [] old new same = same
works_run score disk Needs (event ∷ events) (out ∷ outs) old new it = (it.0, it.3, works_run score disk Needs events outs it.0 new it.4)
works_run score disk Needs [] (out ∷ outs) old new it = absurd it
works_run score disk Needs (event ∷ events) [] old new it = absurd it

pub runs_then : {D : Type 0} (score : List ℕ → List ℕ) (disk : DiskOf D) (first later : List Event) (gave gives : List Out) (old mid new : CoreState D)
    → Runs score disk first gave old mid → Runs score disk later gives mid new → Runs score disk (first ++ later) (gave ++ gives) old new
runs_then score disk [] later [] gives old mid new same it = subst (λ (k : CoreState _). Runs score disk later gives k new) same it
runs_then score disk (event ∷ first) later (out ∷ gave) gives old mid new a it = (a.0, a.1, runs_then score disk first later gave gives a.0 mid new a.2 it)
runs_then score disk [] later (out ∷ gave) gives old mid new a it = absurd a
runs_then score disk (event ∷ first) later [] gives old mid new a it = absurd a

-- what `?` hands on
pub handed_on : {X E : Type 0} (r : Result X E) (e : E) → IsErrAnd r (λ v. v ≡ e) → r ≡ Err e
handed_on (Ok x) e is = absurd is
handed_on (Err v) e is = ap Err is
