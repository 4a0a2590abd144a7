-- What came over a link and was answered, as a session over a store on devices.
use Rattle.std.proofs.Common.{◌≡◌, ◌≢◌, ℕ, ◌≤◌, ◌<◌, List, [], ◌++◌, length, refl, sym, ◌∙◌, ap, subst, append_assoc, arith, Option}
use Rattle.std.specs.Prelude.{◌^◌}
use Rattle.std.proofs.lemmas.Grind.{flat_map-append}
use Rattle.std.proofs.lemmas.List.{map-append}
use Rattle.vt_base.specs.declared.why.Why.{Why}
use Rattle.vt_disk.specs.Members.{DiskOf}
use Rattle.vt_model.specs.History.{History}
use Rattle.vt_session.specs.declared.Ended.{Ended}
use Rattle.vt_session.specs.declared.Ended.TheVariants.{Goodbye, Closed, Cut, Malformed, Spent, ReadFault, WriteFault, NoMemory}
use Rattle.vt_session.specs.Heard.{Item, Heard}
use Rattle.vt_session.specs.Turns.{Turn, cause_of, causes_of, items_of_turns, item_of_turn}
use Rattle.vt_session.specs.Answered.{AreToldBy}
use Rattle.vt_session.specs.Talk.{Carries, spent_len}
use Rattle.vt_session.proofs.Causes.{told_front}
use Rattle.vt_session.proofs.Turns.{turns_part}
use Rattle.vt_handler.specs.declared.serving.Served.{Served}
use Rattle.vt_handler.specs.Links.{AnswersLink, SaysOver, since}
use Rattle.vt_handler.specs.Taking.{DoesCalls}
use Rattle.vt_core.specs.Core.{CoreState, setup_of}
use Rattle.vt_requests.specs.Driven.{DrivenState}
use Rattle.vt_requests.specs.Ending.{Ends}
use Rattle.vt_use.specs.declared.session.StoreServed.{StoreServed}
use Rattle.vt_use.specs.Causes.{TellsStops}
use Rattle.vt_use.specs.Stores.{Exchange, at_time, store_on}
use Rattle.vt_use.specs.Members.{ClientOf}
use Rattle.vt_use.specs.Sessions.{IsSession, ServesSession, ServesStore, faults_over}
use Rattle.vt_use.proofs.Runs.{calls_run}
use Rattle.vt_use.proofs.Tells.{run_tells}
use Rattle.vt_use.proofs.Quiet.{only_memory}

-- what was heard, but not answered in what was written
cut_carries : (input output : List ℕ) (turns unsaid : List Turn)
    → SaysOver WriteFault input turns unsaid output → Carries input output turns WriteFault
cut_carries input output turns unsaid says =
    let items : items_of_turns (turns ++ unsaid) ++ says.0 ≡ items_of_turns turns ++ (items_of_turns unsaid ++ says.0) =
    ap (λ (i : List Item). i ++ says.0) (map-append item_of_turn turns unsaid)
    ∙ append_assoc (items_of_turns turns) (items_of_turns unsaid) says.0 in (
      items_of_turns unsaid ++ says.0,
      says.1,
      subst (λ (i : List Item). Heard input i says.1) items says.2,
      says.3,
    )

carries : (ended : Ended) (input output : List ℕ) (turns unsaid : List Turn)
    → SaysOver ended input turns unsaid output → Carries input output turns ended
carries Goodbye input output turns unsaid says = says.1
carries Closed input output turns unsaid says = says.1
carries Cut input output turns unsaid says = says.1
carries (Malformed place) input output turns unsaid says = says.1
carries Spent input output turns unsaid says = says.1
carries ReadFault input output turns unsaid says = says.1
carries WriteFault input output turns unsaid says = cut_carries input output turns unsaid says
carries NoMemory input output turns unsaid says = says.1

unsaid_none : (ended : Ended) (input output : List ℕ) (turns unsaid : List Turn)
    → SaysOver ended input turns unsaid output → ended ≢ WriteFault → unsaid ≡ []
unsaid_none WriteFault input output turns unsaid says other = absurd (other refl)
unsaid_none Goodbye input output turns unsaid says other = says.0
unsaid_none Closed input output turns unsaid says other = says.0
unsaid_none Cut input output turns unsaid says other = says.0
unsaid_none (Malformed place) input output turns unsaid says other = says.0
unsaid_none Spent input output turns unsaid says other = says.0
unsaid_none ReadFault input output turns unsaid says other = says.0
unsaid_none NoMemory input output turns unsaid says other = says.0

module _ {D : Type 0} (score : List ℕ → List ℕ) (disk : DiskOf D)
    (fits : (device : D) → disk.faults device < 2 ^ 64) (now : ℕ) (old new : CoreState D)
    (tells : TellsStops disk old new) (end : StoreServed) where
  pub is_session : (h : History) (failure : Option Why) (input output : List ℕ) (ended : Ended)
      → AnswersLink (store_on score disk) (at_time now old) (at_time now new) h failure input output
      ended → end.ended ≡ ended → end.failure ≡ failure → length input ≤ spent_len
      → IsSession score disk end now old new h input output
  is_session h failure input output ended x ended_is failure_is most =
      let answered = x.takes.alone refl in
      let parts = turns_part score (setup_of old) h x.takes.new x.turns x.unsaid answered in
      let says = subst (λ (w : Ended). SaysOver w input x.turns x.unsaid output) (sym ended_is)
      x.says in
      record {
        turns = x.turns;
        between = parts.0;
        alone = record {
          carried = carries end.ended input output x.turns x.unsaid says;
          taken = most;
          answered = parts.1;
          failures = told_front (faults_over disk old new) (causes_of x.turns)
              (causes_of x.unsaid) (subst (AreToldBy (faults_over disk old new))
              (flat_map-append cause_of x.turns x.unsaid) x.takes.causes);
        };
        unsaid = x.unsaid;
        last = x.takes.new;
        are_unsaid = record {
          none = unsaid_none end.ended input output x.turns x.unsaid says;
          heard = λ e.
              let cut = subst (λ (w : Ended). SaysOver w input x.turns x.unsaid output) e says in
              (cut.0, cut.1, cut.2);
          answered = parts.2;
        };
        asked = x.takes.does;
        sound = x.takes.holds_it.1;
        failure_is = failure_is ∙ x.failure_is;
        failures = x.takes.causes;
        undamaged = x.takes.undamaged;
        quiet = only_memory disk fits old new tells score h x.takes.new (x.turns ++ x.unsaid)
            answered x.takes.causes x.takes.undamaged;
        synced = x.takes.synced;
      }

-- ---- a session, and the end of the store's use

module _ {D C : Type 0} (score : List ℕ → List ℕ) (disk : DiskOf D)
    (fits : (device : D) → disk.faults device < 2 ^ 64) (client : ClientOf C) (now : ℕ)
    (before after : C) (old kept new : CoreState D) (asked : List Exchange) (end : StoreServed)
    (served : Served) (failure : Option Why) where
  abbrev came : List ℕ
  came = since (client.sent before) (client.sent after)

  abbrev went : List ℕ
  went = since (client.written before) (client.written after)

  pub serves_store : DoesCalls (store_on score disk) (at_time now old) asked (at_time now kept)
      → ServesSession (store_on score disk) client served failure before after asked
      (at_time now old) (at_time now kept)
      → Ends score disk end.closed kept new → end.ended ≡ served.ended → end.failure ≡ failure
      → ServesStore score disk end now old new client.tells came went
  serves_store does x ends ended_is failure_is =
      let counted = run_tells disk fits score old kept
      (calls_run score disk (at_time now old) (at_time now kept) asked does) in
      record {
        served = kept;
        session = λ h disk_tells sound told. is_session score disk fits now old kept counted end h
            failure came went served.ended (x.told h (disk_tells, sound) told) ended_is failure_is
            (omega (arith, x.taken told, x.most));
        asked = record {
          calls = asked;
          does = does;
          failure_is = failure_is ∙ x.failure_is;
        };
        memory = λ e. ap (λ (d : DrivenState D). d.core) (x.memory (sym ended_is ∙ e)).0;
        ends = ends;
      }
