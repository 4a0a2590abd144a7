-- A store and the list beside it, behind events.
use Rattle.std.proofs.Common.{◌≡◌, ◌+◌, ◌<◌, ◌≤◌, ℕ, zero, suc, List, [], ◌∷◌, length, Option, refl, sym, ◌∙◌, ap, subst, arith}
use Rattle.vt_disk.specs.Members.{DiskOf}
use Rattle.vt_log.specs.Owed.{owed}
use Rattle.vt_model.specs.Places.{Setup}
use Rattle.vt_core.specs.declared.event.Event.{Event}
use Rattle.vt_core.specs.declared.event.Event.TheVariants.{LogAdvance}
use Rattle.vt_core.specs.declared.event.Out.{Out}
use Rattle.vt_core.specs.declared.event.Out.TheVariants.{Moved}
use Rattle.vt_core.specs.Core.{CoreState, history_len}
use Rattle.vt_core.specs.Events.{IsFor}
use Rattle.vt_core.specs.Steps.{Runs, Steps}
use Rattle.vt_rehearse.specs.declared.TheConstants.{SESSIONS, SHARDS}
use Rattle.vt_rehearse.specs.declared.summary.Summary.{Summary}
use Rattle.vt_rehearse.specs.Counts.{with_events}
use Rattle.vt_rehearse.specs.Rehearsal.{CommitsAll, RunsEvents}
use Rattle.vt_rehearse.specs.Stage.{AreAlike, HasWords, IsFilled, IsMemory, IsNoRequest, StageState}
use Rattle.vt_rehearse.proofs.Listed.{few_words, same_many}
use Rattle.vt_rehearse.proofs.Asking.{owed_most}
use Rattle.vt_rehearse.proofs.Stepping.{Stays, len_is, worked}

-- an event for the sessions and shards that there are
pub is_for : {D : Type 0} (score : List ℕ → List ℕ) (disk : DiskOf D) (s : StageState D) (event : Event) → AreAlike score disk s → IsFor SESSIONS SHARDS event → IsFor (length s.core.waiting) (length s.core.shards) event
is_for score disk s event alike it =
    let sessions : length s.core.waiting ≡ SESSIONS = ap (λ (ws : List (Option ℕ)). length ws) alike.free in
    subst (λ (n : ℕ). IsFor n (length s.core.shards) event) (sym sessions) (subst (λ (n : ℕ). IsFor SESSIONS n event) (sym alike.store.shards) it)

-- the list is as long as the history
pub as_long : {D : Type 0} (score : List ℕ → List ℕ) (disk : DiskOf D) (s : StageState D) → AreAlike score disk s → history_len s.core ≡ length s.listed
as_long score disk s alike = len_is score disk s.core alike.history alike.store ∙ same_many alike.history s.listed alike.list

pub few_listed : {D : Type 0} (score : List ℕ → List ℕ) (disk : DiskOf D) (s : StageState D) → AreAlike score disk s → length s.listed ≤ 64
few_listed score disk s alike =
    let few = few_words alike.history s.listed alike.list in
    let same = same_many alike.history s.listed alike.list in
    omega (arith, few, same)

pub owes_few : {D : Type 0} (score : List ℕ → List ℕ) (disk : DiskOf D) (s : StageState D) → AreAlike score disk s → owed s.core.log ≤ 1024
owes_few score disk s alike = owed_most score disk s.core alike.history alike.store (few_words alike.history s.listed alike.list)

-- so many events were counted, and nothing else
pub none_made : {D : Type 0} (s : StageState D) → s ≡ record s { core = s.core; summary = with_events 0 s.summary }
none_made s = let same : s.summary.events ≡ s.summary.events + 0 = omega arith in ap (λ (n : ℕ). record s { summary = record s.summary { events = n } }) same

pub made_more : {D : Type 0} (n m k : ℕ) (first old new : StageState D) → n + m ≡ k → old ≡ record first { core = old.core; summary = with_events n first.summary }
    → new ≡ record old { core = new.core; summary = with_events m old.summary } → new ≡ record first { core = new.core; summary = with_events k first.summary }
made_more {D} n m k first old new sum a b =
    let same : first.summary.events + n + m ≡ first.summary.events + k = omega (arith, sum) in
    b ∙ ap (λ (s : StageState D). record s { core = new.core; summary = with_events m s.summary }) a
    ∙ ap (λ (x : ℕ). record first { core = new.core; summary = record first.summary { events = x } }) same

module _ {D : Type 0} (score : List ℕ → List ℕ) (disk : DiskOf D) (memory : IsMemory disk) where
  -- where the machine stands still and the list stays
  pub alike_still : (old new : StageState D) (alike : AreAlike score disk old) → Stays score disk memory alike.history old.core new.core → new.listed ≡ old.listed → AreAlike score disk new
  alike_still old new alike still listed = record {
    history = alike.history;
    store = still.steady;
    free = still.waiting ∙ alike.free;
    list = subst (λ (l : List ℕ). HasWords alike.history l) (sym listed) alike.list;
    filled = subst (λ (c : Setup). IsFilled c alike.history) (sym still.setup) alike.filled;
  }

  pub alike_worked : (event : Event) (out : Out) (summary : Summary) (old new : StageState D) → IsNoRequest event → AreAlike score disk old → Steps score disk event out old.core new.core
      → new ≡ record old { core = new.core; summary = summary } → AreAlike score disk new
  alike_worked event out summary old new own alike step same =
      alike_still old new alike (worked score disk memory event out alike.history old.core new.core own alike.store step) (ap (λ (s : StageState D). s.listed) same)

  pub one_work : (event : Event) (out : Out) (old new : StageState D) → Steps score disk event out old.core new.core → new ≡ record old { core = new.core; summary = with_events 1 old.summary } → RunsEvents score disk (event ∷ []) old new
  one_work event out old new step same = record { outs = out ∷ []; runs = (new.core, step, refl); same = same }

  pub two_works : (first second : Event) (old mid new : StageState D) → RunsEvents score disk (first ∷ []) old mid → RunsEvents score disk (second ∷ []) mid new → RunsEvents score disk (first ∷ second ∷ []) old new
  two_works first second old mid new a b = by a.outs b.outs a.runs b.runs
    where
      by : (xs ys : List Out) → Runs score disk (first ∷ []) xs old.core mid.core → Runs score disk (second ∷ []) ys mid.core new.core → RunsEvents score disk (first ∷ second ∷ []) old new
      by (x ∷ []) (y ∷ []) (k, step, is) (l, then, was) = record {
        outs = x ∷ y ∷ [];
        runs = (k, step, (l, subst (λ (m : CoreState D). Steps score disk second y m l) is then, was));
        same = b.same ∙ ap (λ (s : StageState D). record s { core = new.core; summary = with_events 1 s.summary }) a.same ∙ ap (λ (n : ℕ). record old { core = new.core; summary = record old.summary { events = n } }) (omega arith);
      }
      by [] ys runs later = absurd runs
      by (x ∷ z ∷ xs) ys (k, step, never) later = absurd never
      by (x ∷ []) [] runs later = absurd later
      by (x ∷ []) (y ∷ z ∷ ys) runs (l, then, never) = absurd never

  -- one more call
  pub commit_more : (calls : ℕ) (old mid new : CoreState D) → CommitsAll score disk calls old mid → mid.log.durable < history_len mid → Steps score disk LogAdvance Moved mid new → CommitsAll score disk (suc calls) old new
  commit_more zero old mid new is less moves = (new, subst (λ (k : CoreState D). k.log.durable < history_len k) is less, subst (λ (k : CoreState D). Steps score disk LogAdvance Moved k new) is moves, refl)
  commit_more (suc calls) old mid new (m, before, first, rest) less moves = (m, before, first, commit_more calls m mid new rest less moves)
