-- What a store was asked, as a run of events.
use Rattle.std.proofs.Common.{ℕ, List, [], ◌∷◌, ◌++◌, ap, subst, Option, None, Result}
use Rattle.vt_base.specs.Protocol.{Operation, ping, read, write, sync, RMessage}
use Rattle.vt_base.specs.declared.why.Why.{Why}
use Rattle.vt_disk.specs.Members.{DiskOf}
use Rattle.vt_handler.specs.Taking.{DoesOne, DoesCalls, DoesSome}
use Rattle.vt_core.specs.Core.{CoreState}
use Rattle.vt_core.specs.Steps.{Runs}
use Rattle.vt_core.specs.declared.event.Event.{Event}
use Rattle.vt_core.specs.declared.event.Out.{Out}
use Rattle.vt_requests.specs.Driven.{DrivenState, DoesRequest}
use Rattle.vt_requests.proofs.RequestRuns.{requested_runs}
use Rattle.vt_use.specs.Stores.{MakesRun, store_on}

module _ {D : Type 0} (score : List ℕ → List ℕ) (disk : DiskOf D) where
  runs_more : (events more : List Event) (outs gives : List Out) (old mid new : CoreState D)
      → Runs score disk events outs old mid → Runs score disk more gives mid new
      → Runs score disk (events ++ more) (outs ++ gives) old new
  runs_more [] more [] gives old mid new same next =
      subst (λ (k : CoreState D). Runs score disk more gives k new) same next
  runs_more (event ∷ events) more (out ∷ outs) gives old mid new run next =
      (run.0, run.1, runs_more events more outs gives run.0 mid new run.2 next)
  runs_more [] more (out ∷ outs) gives old mid new run next = absurd run
  runs_more (event ∷ events) more [] gives old mid new run next = absurd run

  -- one run behind another
  pub run_more : (old mid new : CoreState D) → MakesRun score disk old mid
      → MakesRun score disk mid new → MakesRun score disk old new
  run_more old mid new x y =
      (x.0 ++ y.0, x.1 ++ y.1, runs_more x.0 y.0 x.1 y.1 old mid new x.2 y.2)

  -- a request is one
  request_runs : (d d' : DrivenState D) (m : Operation) (given : Result RMessage Why)
      → DoesRequest score disk m given d d' → MakesRun score disk d.core d'.core
  request_runs d d' m given it =
      let run = requested_runs score disk 0 it.asked d.now it.answer d.core d'.core
      it.answers.requested in
      (run.0, run.1, run.2)

  pub one_runs : (d d' : DrivenState D) (m : Operation) (given : Result RMessage Why)
      → DoesOne (store_on score disk) d m given d' → MakesRun score disk d.core d'.core
  one_runs d d' ping given it = ([], [], ap (λ (d : DrivenState D). d.core) it.1)
  one_runs d d' (read s kind count) given it = request_runs d d' (read s kind count) given it
  one_runs d d' (write kind bytes) given it = request_runs d d' (write kind bytes) given it
  one_runs d d' sync given it = request_runs d d' sync given it

  -- and so are several
  pub calls_run : (d last : DrivenState D) (calls : List (Operation × Result RMessage Why))
      → DoesCalls (store_on score disk) d calls last → MakesRun score disk d.core last.core
  calls_run d last [] same = ([], [], ap (λ (d : DrivenState D). d.core) same)
  calls_run d last (call ∷ calls) it = run_more d.core it.0.core last.core
      (one_runs d it.0 call.0 call.1 it.1) (calls_run it.0 last calls it.2)

  pub asked_run : (d last : DrivenState D) (failure : Option Why)
      → DoesSome (store_on score disk) d last None failure
      → MakesRun score disk d.core last.core
  asked_run d last failure it = calls_run d last it.calls it.does
