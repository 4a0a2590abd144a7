-- A session, and the end of the store's use, as a use of the store.
use Rattle.std.proofs.Common.{◌≡◌, ℕ, ◌≤◌, ◌<◌, Bool, true, false, IsTrue, Option, None, Ok, List, [], ◌∷◌, sym, subst, arith}
use Rattle.std.specs.List.{All, AllByRecursion}
use Rattle.std.specs.Prelude.{◌^◌, IfSome}
use Rattle.vt_base.specs.declared.why.Why.{Why}
use Rattle.vt_base.specs.declared.why.Why.TheVariants as whys
use Rattle.vt_disk.specs.Members.{DiskOf}
use Rattle.vt_model.specs.History.{History}
use Rattle.vt_core.specs.Core.{CoreState, stops_of}
use Rattle.vt_core.specs.Sound.{IsSound}
use Rattle.vt_requests.specs.Answers.{KeepsAll}
use Rattle.vt_use.specs.Causes.{FailsFor, NoCallFails}
use Rattle.vt_use.specs.Stores.{MakesRun}
use Rattle.vt_use.specs.Uses.{AsksAndEnds}
use Rattle.vt_use.proofs.Memory.{calls_need, end_needs, first_needs, quiet_before}
use Rattle.vt_use.proofs.Uses.{end_cause, first_cause, use_keeps, use_runs}
use Rattle.vt_use.specs.declared.session.StoreServed.{StoreServed}
use Rattle.vt_use.specs.Sessions.{NeedsMemory, ServesStore, TellsCauses}

pub all_most : (numbers : List ℕ) (a b : ℕ) → a ≤ b → AllByRecursion (λ n. n ≤ a) numbers
    → AllByRecursion (λ n. n ≤ b) numbers
all_most [] a b low it = tt
all_most (n ∷ numbers) a b low it = (omega (arith, it.0, low), all_most numbers a b low it.1)

module _ {D : Type 0} (score : List ℕ → List ℕ) (disk : DiskOf D) (end : StoreServed) (now : ℕ)
    (old new : CoreState D) (tells : Bool) (input output : List ℕ)
    (x : ServesStore score disk end now old new tells input output) where
  pub asks : AsksAndEnds score disk now true x.asked.calls end.closed old x.served new
  asks = record {
    asked = x.asked.does;
    reads = λ no. let never : true ≡ false = no in absurd (cc);
    ends = x.ends;
  }

  pub store_runs : MakesRun score disk old new
  store_runs = use_runs score disk now true x.asked.calls end.closed old x.served new asks

  pub store_keeps : KeepsAll disk old new
  store_keeps = use_keeps score disk now true x.asked.calls end.closed old x.served new asks

  module _ (fits : (device : D) → disk.faults device < 2 ^ 64) where
    pub tells_causes : All (λ stop. stop ≡ None) (stops_of old) → TellsCauses disk end old new
    tells_causes none = record {
      failure = subst (λ (o : Option Why). IfSome o (λ why. FailsFor disk why old new))
          (sym x.asked.failure_is)
          (first_cause score disk now true x.asked.calls end.closed old x.served new asks
          fits none);
      closed = end_cause score disk now true x.asked.calls end.closed old x.served new asks
          fits none;
    }

    module _ (quiet : NoCallFails disk old new) (disk_tells : IsTrue disk.tells) where
      pub session_quiet : NoCallFails disk old x.served
      session_quiet = quiet_before score disk now true x.asked.calls end.closed old x.served
          new asks fits quiet disk_tells

      pub closes_well : (last : History) → IsSound score disk x.served last
          → end.closed ≡ Ok tt
      closes_well last sound = end_needs score disk now true x.asked.calls end.closed old
          x.served new asks fits quiet disk_tells last sound true x.ends

      pub needs_memory : (h last : History) → IsSound score disk old h
          → IsSound score disk x.served last → NeedsMemory end
      needs_memory h last sound left = record {
        failure = subst (λ (o : Option Why). IfSome o (λ why. why ≡ whys.NoMemory))
            (sym x.asked.failure_is)
            (first_needs x.asked.calls (calls_need score disk now true x.asked.calls
            end.closed old x.served new asks fits quiet disk_tells h sound));
        closed = closes_well last left;
      }
