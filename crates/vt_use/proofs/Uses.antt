-- What a store is asked, and the end of its use behind that.
use Rattle.std.proofs.Common.{◌≡◌, ℕ, ◌<◌, Bool, true, false, IsTrue, None, Result, Ok, List, [], length, refl, sym, subst, ◌∙◌}
use Rattle.std.specs.List.{All, AllByRecursion}
use Rattle.std.specs.Prelude.{◌-◌, ◌^◌, IfErr, IfSome}
use Rattle.vt_base.specs.declared.why.Why.{Why}
use Rattle.vt_disk.specs.Members.{DiskOf}
use Rattle.vt_model.specs.History.{History}
use Rattle.vt_handler.specs.Taking.{DoesCalls, DoesSome, first_told}
use Rattle.vt_core.specs.Core.{CoreState, history_len, stops_of}
use Rattle.vt_core.specs.Files.{PerDevice}
use Rattle.vt_core.specs.Sound.{IsSound}
use Rattle.vt_requests.specs.Answers.{KeepsAll}
use Rattle.vt_requests.specs.Driven.{DrivenState}
use Rattle.vt_requests.specs.Ending.{AreMarkedAt, Ends}
use Rattle.vt_requests.proofs.WorkDone.{all_kept, keeps_on}
use Rattle.vt_open.specs.Names.{HaveOneShape}
use Rattle.vt_use.specs.Causes.{FailsFor, HasItsCause, TellsStops}
use Rattle.vt_use.specs.Stores.{Exchange, AddsNothing, MakesRun, at_time, store_on}
use Rattle.vt_use.specs.Uses.{AsksAndEnds, ClosesIf, UsesCore}
use Rattle.vt_use.proofs.Causes.{all_told, by_failure, if_closed, if_failure}
use Rattle.vt_use.proofs.Keeps.{asked_keeps, asked_time}
use Rattle.vt_use.proofs.Runs.{calls_run, run_more}
use Rattle.vt_use.proofs.Tells.{run_tells, tells_same}

pub shape_more : {X Y Z : Type 0} (a : PerDevice X) (b : PerDevice Y) (c : PerDevice Z)
    → HaveOneShape a b → HaveOneShape b c → HaveOneShape a c
shape_more a b c x y = record {
  partitions = x.partitions ∙ y.partitions;
  sections = x.sections ∙ y.sections;
  filter = x.filter ∙ y.filter;
}

module _ {D : Type 0} (score : List ℕ → List ℕ) (disk : DiskOf D) where
  some_of : (d d' : DrivenState D) (calls : List Exchange)
      → DoesCalls (store_on score disk) d calls d'
      → DoesSome (store_on score disk) d d' None (first_told calls)
  some_of d d' calls it = record { calls = calls; does = it; failure_is = refl }

  -- the store that is given back has its time
  pub there : (now : ℕ) (core : CoreState D) (d : DrivenState D) (calls : List Exchange)
      → DoesCalls (store_on score disk) (at_time now core) calls d → d ≡ at_time now d.core
  there now core d calls it = λ i. record {
    core = d.core;
    now = asked_time disk score (at_time now core) d (first_told calls)
        (some_of (at_time now core) d calls it) i;
  }

  -- ---- the end

  module _ (closed : Result (Unit {0}) Why) (kept new : CoreState D) where
    pub end_run : (writes : Bool) → ClosesIf score disk writes closed kept new
        → MakesRun score disk kept new
    end_run true it = (it.parts.events, it.parts.outs, it.parts.runs)
    end_run false it = ([], [], it.1)

    pub end_keeps : (writes : Bool) → ClosesIf score disk writes closed kept new
        → KeepsAll disk kept new
    end_keeps true it = it.keeps
    end_keeps false it = subst (λ (k : CoreState D). KeepsAll disk kept k) (sym it.1)
        (all_kept disk kept)

    module _ (last : History) (tells : IsTrue disk.tells) (sound : IsSound score disk kept last) where
      pub end_sound : (writes : Bool) → ClosesIf score disk writes closed kept new
          → IsSound score disk new last
      end_sound true it = it.sound last tells sound
      end_sound false it = subst (λ (k : CoreState D). IsSound score disk k last) (sym it.1) sound

      pub end_marks : (writes : Bool) → ClosesIf score disk writes closed kept new
          → writes ≡ true → closed ≡ Ok tt → AreMarkedAt (length last) new
      end_marks true it is well = it.whole last tells sound well
      end_marks false it is well = let never : false ≡ true = is in absurd (cc)

  -- what came of the job's end
  pub ended : (writes : Bool) (closed : Result (Unit {0}) Why) (kept new : CoreState D)
      → writes ≡ true → Ends score disk closed kept new → ClosesIf score disk writes closed kept new
  ended writes closed kept new is ends =
      subst (λ (w : Bool). ClosesIf score disk w closed kept new) (sym is) ends

  pub read : (writes : Bool) (closed : Result (Unit {0}) Why) (kept new : CoreState D)
      → writes ≡ false → closed ≡ Ok tt → new ≡ kept → ClosesIf score disk writes closed kept new
  read writes closed kept new is well same =
      subst (λ (w : Bool). ClosesIf score disk w closed kept new) (sym is) (well, same)

  -- ---- what was asked, and the end

  module _ (now : ℕ) (writes : Bool) (calls : List Exchange) (closed : Result (Unit {0}) Why)
      (old kept new : CoreState D)
      (it : AsksAndEnds score disk now writes calls closed old kept new) where
    asks_run : MakesRun score disk old kept
    asks_run = calls_run score disk (at_time now old) (at_time now kept) calls it.asked

    some : DoesSome (store_on score disk) (at_time now old) (at_time now kept) None
        (first_told calls)
    some = some_of (at_time now old) (at_time now kept) calls it.asked

    pub use_runs : MakesRun score disk old new
    use_runs = run_more score disk old kept new asks_run (end_run closed kept new writes it.ends)

    pub use_keeps : KeepsAll disk old new
    use_keeps = keeps_on disk old kept new
        (asked_keeps disk score (at_time now old) (at_time now kept) (first_told calls) some)
        (end_keeps closed kept new writes it.ends)

    module _ (fits : (device : D) → disk.faults device < 2 ^ 64)
        (none : All (λ stop. stop ≡ None) (stops_of old)) where
      pub asks_tell : TellsStops disk old kept
      asks_tell = run_tells disk fits score old kept asks_run

      pub end_tells : TellsStops disk kept new
      end_tells = run_tells disk fits score kept new (end_run closed kept new writes it.ends)

      pub first_cause : IfSome (first_told calls) (λ why. FailsFor disk why old new)
      first_cause = if_failure score disk fits old none (first_told calls) kept new end_tells
          (by_failure score disk fits old none (first_told calls) (at_time now old)
          (at_time now kept) refl some)

      of_end : (w : Bool) → ClosesIf score disk w closed kept new
          → IfErr closed (λ why. FailsFor disk why old new)
      of_end true ends = if_closed score disk fits old none closed kept new asks_tell end_tells
          ends.cause
      of_end false ends = subst (λ (r : Result (Unit {0}) Why).
          IfErr r (λ why. FailsFor disk why old new)) (sym ends.0) tt

      pub end_cause : IfErr closed (λ why. FailsFor disk why old new)
      end_cause = of_end writes it.ends

      pub each_cause : AllByRecursion (HasItsCause disk old new) calls
      each_cause = all_told score disk fits old none calls (at_time now old) (at_time now kept) new
          it.asked (tells_same disk old old refl) end_tells

  -- ---- a use

  module _ (now : ℕ) (writes : Bool) (Does : List Exchange → (old new : DrivenState D) → Type 0)
      (old : CoreState D) (d : DrivenState D) (calls : List Exchange)
      (asked : DoesCalls (store_on score disk) (at_time now old) calls d)
      (reads : writes ≡ false → AllByRecursion AddsNothing calls)
      (does : Does calls (at_time now old) d) where
    pub used : (closed : Result (Unit {0}) Why) (new : CoreState D)
        → ClosesIf score disk writes closed d.core new → (added : ℕ)
        → added ≡ history_len new - history_len old
        → UsesCore score disk now writes Does added closed old new
    used closed new ends added is =
        let back = there now old d calls asked in record {
          exchanges = calls;
          kept = d.core;
          asks = record {
            asked = subst (λ (e : DrivenState D). DoesCalls (store_on score disk) (at_time now old)
                calls e) back asked;
            reads = reads;
            ends = ends;
          };
          does = subst (λ (e : DrivenState D). Does calls (at_time now old) e) back does;
          added_is = is;
        }
