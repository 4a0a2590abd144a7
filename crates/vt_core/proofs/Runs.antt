-- Runs of a store, with and without crashes.
use Rattle.std.proofs.Common.{◌≡◌, ℕ, zero, suc, ◌+◌, ◌<◌, List, [], ◌∷◌, ◌++◌, length, take, get_or, Some, refl, sym, ◌∙◌, ap, subst, arith}
use Rattle.std.proofs.lemmas.Option.{same_Some, slice_get-get_or}
use Rattle.std.specs.Prelude.{IsTrue, slice_get}
use Rattle.vt_disk.specs.Members.{DiskOf}
use Rattle.vt_model.specs.History.{History}
use Rattle.vt_core.specs.declared.event.Event.{Event}
use Rattle.vt_core.specs.declared.event.Out.{Out}
use Rattle.vt_core.specs.Core.{CoreState, machine_of}
use Rattle.vt_core.specs.Crashing.{Act, happens, crashes, Lives, LivesMachine, MayTurnInto, Recovers}
use Rattle.vt_core.specs.Machine.{Crashes}
use Rattle.vt_core.specs.Sound.{IsSound}
use Rattle.vt_core.specs.Steps.{KeepsStore, Runs, RunsMachine, Steps}
use Rattle.vt_core.proofs.Kept.{keeps_then, same_store}

-- a store whose devices are sound for the history behind a run
abbrev pub EndsRun : {D : Type 0} → (List ℕ → List ℕ) → DiskOf D → List Event → List Out → (old new : CoreState D) → History → Type 0
EndsRun score disk events outs old new h = (next : History) × RunsMachine score events outs (machine_of old h) (machine_of new next) × IsSound score disk new next

pub runs_machine : {D : Type 0} (score : List ℕ → List ℕ) (disk : DiskOf D) (events : List Event) (outs : List Out) (old new : CoreState D) (h : History)
    → IsTrue disk.tells → IsSound score disk old h → Runs score disk events outs old new → EndsRun score disk events outs old new h
runs_machine {D = D} score disk [] [] old new h tells sound same =
    subst (λ (k : CoreState D). EndsRun score disk [] [] old k h) (sym same) (h, refl, sound)
runs_machine score disk (event ∷ events) (out ∷ outs) old new h tells sound run =
    let step = run.1.machine tells h sound in
    let rest = runs_machine score disk events outs run.0 new step.0 tells step.2 run.2 in
    (rest.0, (machine_of run.0 step.0, step.1, rest.1), rest.2)
runs_machine score disk [] (out ∷ outs) old new h tells sound run = absurd run
runs_machine score disk (event ∷ events) [] old new h tells sound run = absurd run

-- one event more
pub one_more_event : {D : Type 0} (score : List ℕ → List ℕ) (disk : DiskOf D) (events : List Event) (outs : List Out) (event : Event) (out : Out) (old mid new : CoreState D)
    → Runs score disk events outs old mid → Steps score disk event out mid new → Runs score disk (events ++ event ∷ []) (outs ++ out ∷ []) old new
one_more_event {D = D} score disk [] [] event out old mid new same step = (new, subst (λ (k : CoreState D). Steps score disk event out k new) same step, refl)
one_more_event score disk (first ∷ events) (gave ∷ outs) event out old mid new run step =
    (run.0, run.1, one_more_event score disk events outs event out run.0 mid new run.2 step)
one_more_event score disk [] (gave ∷ outs) event out old mid new run step = absurd run
one_more_event score disk (first ∷ events) [] event out old mid new run step = absurd run

-- the first so many, and one more
pub one_longer : {X : Type 0} (xs : List X) (i : ℕ) (x : X) → slice_get xs i ≡ Some x → take (i + 1) xs ≡ take i xs ++ x ∷ []
one_longer [] i x at = absurd (cc)
one_longer {X} (y ∷ xs) zero x at = ap (λ (z : X). z ∷ []) (same_Some y x at)
one_longer {X} (y ∷ xs) (suc i) x at =
    let next : suc i + 1 ≡ suc (i + 1) = omega arith in
    ap (λ (n : ℕ). take n (y ∷ xs)) next ∙ ap (λ (zs : List X). y ∷ zs) (one_longer xs i x at)

-- a run of the first so many goes on with the next one
pub runs_on : {D : Type 0} (score : List ℕ → List ℕ) (disk : DiskOf D) (events : List Event) (outs : List Out) (i : ℕ) (d : Event) (out : Out) (old mid new : CoreState D) → i < length events
    → Runs score disk (take i events) outs old mid → Steps score disk (get_or events i d) out mid new → Runs score disk (take (i + 1) events) (outs ++ out ∷ []) old new
runs_on score disk events outs i d out old mid new within run step =
    subst (λ (es : List Event). Runs score disk es (outs ++ out ∷ []) old new) (sym (one_longer events i (get_or events i d) (slice_get-get_or events i d within)))
    (one_more_event score disk (take i events) outs (get_or events i d) out old mid new run step)

-- ---- what a run keeps

pub runs_keep : {D : Type 0} (score : List ℕ → List ℕ) (disk : DiskOf D) (events : List Event) (outs : List Out) (old new : CoreState D) → Runs score disk events outs old new → KeepsStore disk old new
runs_keep {D} score disk [] [] old new same = subst (λ (k : CoreState D). KeepsStore disk old k) (sym same) (same_store disk old)
runs_keep score disk (event ∷ events) (out ∷ outs) old new run =
    keeps_then disk old run.0 new run.1.goes_on.store (runs_keep score disk events outs run.0 new run.2)
runs_keep score disk [] (out ∷ outs) old new run = absurd run
runs_keep score disk (event ∷ events) [] old new run = absurd run

-- what is known of a recovery
abbrev pub RecoversSoundly : {D : Type 0} → DiskOf D → Type 0
RecoversSoundly {D} disk = (score : List ℕ → List ℕ) (old during again : CoreState D) (h : History) → IsTrue disk.tells → IsSound score disk old h
    → MayTurnInto score disk old during → Recovers score disk old during again
    → (g : History) × Crashes (machine_of old h) (machine_of again g) × IsSound score disk again g

abbrev pub EndsLife : {D : Type 0} → (List ℕ → List ℕ) → DiskOf D → List Act → (old new : CoreState D) → History → Type 0
EndsLife score disk acts old new h = (next : History) × LivesMachine score acts (machine_of old h) (machine_of new next) × IsSound score disk new next

pub lives_machine : {D : Type 0} (disk : DiskOf D) → RecoversSoundly disk → (score : List ℕ → List ℕ) (acts : List Act) (old new : CoreState D) (h : History)
    → IsTrue disk.tells → IsSound score disk old h → Lives score disk acts old new → EndsLife score disk acts old new h
lives_machine {D = D} disk recovers score [] old new h tells sound same =
    subst (λ (k : CoreState D). EndsLife score disk [] old k h) (sym same) (h, refl, sound)
lives_machine disk recovers score (happens event out ∷ acts) old new h tells sound life =
    let step = life.1.machine tells h sound in
    let rest = lives_machine disk recovers score acts life.0 new step.0 tells step.2 life.2 in
    (rest.0, (machine_of life.0 step.0, step.1, rest.1), rest.2)
lives_machine disk recovers score (crashes ∷ acts) old new h tells sound life =
    let back = recovers score old life.0 life.1 h tells sound life.2 life.3 in
    let rest = lives_machine disk recovers score acts life.1 new back.0 tells back.2 life.4 in
    (rest.0, (machine_of life.1 back.0, back.1, rest.1), rest.2)
