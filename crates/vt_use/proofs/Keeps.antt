-- What requests leave as it is: what a store was mounted with, and the time of new clumps.
use Rattle.std.proofs.Common.{◌≡◌, ℕ, List, [], ◌∷◌, Option, None, Result, refl, sym, ◌∙◌, subst}
use Rattle.vt_base.specs.Protocol.{Operation, ping, read, write, sync, RMessage}
use Rattle.vt_base.specs.declared.why.Why.{Why}
use Rattle.vt_disk.specs.Members.{DiskOf}
use Rattle.vt_handler.specs.Taking.{DoesOne, DoesCalls, DoesSome}
use Rattle.vt_requests.specs.Answers.{KeepsAll}
use Rattle.vt_requests.specs.Driven.{DrivenState, DoesRequest}
use Rattle.vt_requests.proofs.WorkDone.{all_kept, keeps_on}
use Rattle.vt_use.specs.Stores.{store_on}

module _ {D : Type 0} (disk : DiskOf D) where
  pub record Kept (old new : DrivenState D) : Type 0 where
    pub core : KeepsAll disk old.core new.core
    pub time : new.now ≡ old.now

  kept_same : (d d' : DrivenState D) → d' ≡ d → Kept d d'
  kept_same d d' it = subst (λ (e : DrivenState D). Kept d e) (sym it)
      (record { core = all_kept disk d.core; time = refl })

  module _ (score : List ℕ → List ℕ) where
    request_keeps : (d d' : DrivenState D) (m : Operation) (given : Result RMessage Why)
        → DoesRequest score disk m given d d' → Kept d d'
    request_keeps d d' m given it = record { core = it.answers.keeps; time = it.time }

    pub one_keeps : (d d' : DrivenState D) (m : Operation) (given : Result RMessage Why)
        → DoesOne (store_on score disk) d m given d' → Kept d d'
    one_keeps d d' ping given it = kept_same d d' it.1
    one_keeps d d' (read s kind count) given it =
        request_keeps d d' (read s kind count) given it
    one_keeps d d' (write kind bytes) given it = request_keeps d d' (write kind bytes) given it
    one_keeps d d' sync given it = request_keeps d d' sync given it

    pub calls_keep : (d last : DrivenState D) (calls : List (Operation × Result RMessage Why))
        → DoesCalls (store_on score disk) d calls last → Kept d last
    calls_keep d last [] same = kept_same d last same
    calls_keep d last (call ∷ calls) it =
        let first = one_keeps d it.0 call.0 call.1 it.1 in
        let more = calls_keep it.0 last calls it.2 in
        record {
          core = keeps_on disk d.core it.0.core last.core first.core more.core;
          time = more.time ∙ first.time;
        }

    pub asked_keeps : (d last : DrivenState D) (failure : Option Why)
        → DoesSome (store_on score disk) d last None failure → KeepsAll disk d.core last.core
    asked_keeps d last failure it = (calls_keep d last it.calls it.does).core

    pub asked_time : (d last : DrivenState D) (failure : Option Why)
        → DoesSome (store_on score disk) d last None failure → last.now ≡ d.now
    asked_time d last failure it = (calls_keep d last it.calls it.does).time
