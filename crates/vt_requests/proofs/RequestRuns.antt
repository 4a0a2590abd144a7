-- A request that was driven to its answer is a run of events.
use Rattle.std.proofs.Common.{◌≡◌, ⊎_elim, ℕ, List, [], ◌∷◌, ◌++◌, Result, Ok, Err, refl, sym, subst}
use Rattle.std.specs.List.{AllByRecursion}
use Rattle.std.specs.Prelude.{MatchResult}
use Rattle.vt_base.specs.declared.answer.Answer.{Answer}
use Rattle.vt_base.specs.declared.why.Why.{Why}
use Rattle.vt_disk.specs.Members.{DiskOf}
use Rattle.vt_base.specs.declared.operation.Operation.{Operation as Asked}
use Rattle.vt_core.specs.declared.event.Event.{Event}
use Rattle.vt_core.specs.declared.event.Event.TheVariants.{Ask, Answer as AskAnswer, LogAdvance, FileBegin, FileAdvance, BloomAdvance, EvictLump, EvictIndex}
use Rattle.vt_core.specs.declared.event.Out.{Out}
use Rattle.vt_core.specs.declared.event.Out.TheVariants.{Said as SaidOut, Waits, NotYet, Failed}
use Rattle.vt_core.specs.Asking.{shard_of}
use Rattle.vt_core.specs.Core.{CoreState, history_len}
use Rattle.vt_core.specs.Steps.{Runs, Steps}
use Rattle.vt_core.proofs.Runs.{one_more_event}
use Rattle.vt_core.proofs.Mounted.{recursion_append}
use Rattle.vt_requests.specs.Requests.{IsForRequest, IsRequested, WritesAgain, refused}
use Rattle.vt_requests.specs.Working.{DoesWork, IsOwnWork}
use Rattle.vt_requests.proofs.Ended.{are_own}
use Rattle.vt_requests.proofs.SyncTold.{durable_is_own}
use Rattle.vt_requests.proofs.Told.{room_is_own}
use Rattle.vt_requests.proofs.WorkDone.{AreOwn, works_run}

-- the store's own work is for any request
own_is_for : (session : ℕ) (r : Asked) (now : ℕ) (event : Event) → IsOwnWork event → IsForRequest session r now event
own_is_for session r now LogAdvance own = own
own_is_for session r now (FileBegin shard) own = own
own_is_for session r now (FileAdvance shard) own = own
own_is_for session r now BloomAdvance own = own
own_is_for session r now (Ask by asked time) own = absurd own
own_is_for session r now (AskAnswer by) own = absurd own
own_is_for session r now (EvictLump shard) own = absurd own
own_is_for session r now (EvictIndex shard) own = absurd own

module _ {D : Type 0} (score : List ℕ → List ℕ) (disk : DiskOf D) (session : ℕ) (r : Asked) (now : ℕ) where
  -- events for this request, by which a store turned into another
  abbrev pub IsRun : (old new : CoreState D) → Type 0
  IsRun old new = (events : List Event) × (outs : List Out) × AllByRecursion (IsForRequest session r now) events × Runs score disk events outs old new

  all_for : (events : List Event) → AllByRecursion IsOwnWork events → AllByRecursion (IsForRequest session r now) events
  all_for [] own = tt
  all_for (event ∷ events) own = (own_is_for session r now event own.0, all_for events own.1)

  first_of_run : (event : Event) (out : Out) (old mid new : CoreState D) → IsForRequest session r now event → Steps score disk event out old mid → IsRun mid new → IsRun old new
  first_of_run event out old mid new is step run = (event ∷ run.0, out ∷ run.1, (is, run.2), (mid, step, run.3))

  last_of_run : (event : Event) (out : Out) (old mid new : CoreState D) → IsForRequest session r now event → IsRun old mid → Steps score disk event out mid new → IsRun old new
  last_of_run event out old mid new is run step = (
    run.0 ++ event ∷ [],
    run.1 ++ out ∷ [],
    recursion_append (IsForRequest session r now) run.0 (event ∷ []) run.2 (is, tt),
    one_more_event score disk run.0 run.1 event out old mid new run.3 step,
  )

  work_runs : {T : Type 0} (Needs : Event → CoreState D → Type 0) → AreOwn Needs → (result : Result T Why) (old new : CoreState D) → DoesWork score disk Needs result old new → IsRun old new
  work_runs Needs own (Ok done) old new it = subst (λ (k : CoreState D). IsRun old k) (sym it.ends) (
    it.events,
    it.outs,
    all_for it.events (are_own score disk Needs own it.events it.outs old it.mid it.works),
    works_run score disk Needs it.events it.outs old it.mid it.works,
  )
  work_runs Needs own (Err why) old new it =
      last_of_run it.ends.event (Failed why) old it.mid new (own_is_for session r now it.ends.event (own it.ends.event it.mid it.ends.needed))
      (it.events, it.outs, all_for it.events (are_own score disk Needs own it.events it.outs old it.mid it.works), works_run score disk Needs it.events it.outs old it.mid it.works) it.ends.steps

  again_runs : (a : Answer) (old new : CoreState D) → WritesAgain score disk session r now a old new → IsRun old new
  again_runs a old new it = by_made it.made it.ends
    where
      made_run : IsRun old it.room
      made_run = work_runs _ (room_is_own (shard_of old (score it.bytes))) it.made old it.room it.works

      by_made : (made : Result (Unit {0}) Why) → MatchResult made (λ _. Steps score disk (Ask session r now) (SaidOut a) it.room new) (λ why. (a ≡ refused why (history_len old)) × (new ≡ it.room)) → IsRun old new
      by_made (Ok done) ends = last_of_run (Ask session r now) (SaidOut a) old it.room new (refl, refl, refl) made_run ends
      by_made (Err why) ends = subst (λ (k : CoreState D). IsRun old k) (sym ends.1) made_run

  pub request_events : (a : Answer) (old new : CoreState D) → IsRequested score disk session r now a old new → IsRun old new
  request_events a old new it = ⊎_elim
      (λ step. (Ask session r now ∷ [], SaidOut a ∷ [], ((refl, refl, refl), tt), (new, step, refl)))
      (λ later. ⊎_elim
      (λ again. first_of_run (Ask session r now) NotYet old later.mid new (refl, refl, refl) again.0 (again_runs a later.mid new again.1))
      (λ waits. first_of_run (Ask session r now) Waits old later.mid new (refl, refl, refl) waits.0
      (last_of_run (AskAnswer session) (SaidOut waits.1.said) later.mid waits.1.committed new refl
      (work_runs _ (durable_is_own (history_len later.mid)) waits.1.made later.mid waits.1.committed waits.1.works) waits.1.ends))
      later.later)
      it

pub requested_runs : {D : Type 0} (score : List ℕ → List ℕ) (disk : DiskOf D) (session : ℕ) (r : Asked) (now : ℕ) (a : Answer) (old new : CoreState D) → IsRequested score disk session r now a old new
    → (events : List Event) × (outs : List Out) × Runs score disk events outs old new
requested_runs score disk session r now a old new it = let run = request_events score disk session r now a old new it in (run.0, run.1, run.3)
