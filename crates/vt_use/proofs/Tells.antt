-- What devices tell of their faults along a run of events.
use Rattle.std.proofs.Common.{◌≡◌, ◌⊎◌, ⊎_elim, inl, inr, ℕ, ◌<◌, List, [], ◌∷◌, refl, sym, ◌∙◌, subst, arith}
use Rattle.std.specs.Prelude.{◌^◌}
use Rattle.vt_base.specs.declared.answer.Said.{Said}
use Rattle.vt_base.specs.declared.answer.Said.TheVariants.{Refused}
use Rattle.vt_base.specs.declared.why.Why.{Why}
use Rattle.vt_base.specs.declared.why.Why.TheVariants.{BadType, TooBig, TooSmall, Absent, Collision, IndexFull, ArenasFull, DiskFault, Stopped, Damaged, NoMemory}
use Rattle.vt_disk.specs.Members.{DiskOf}
use Rattle.vt_model.specs.Causes.{NoneFell, OneRose}
use Rattle.vt_core.specs.Causes.{CountsWhy, CountsSaid, CountsOut, KeepsStops}
use Rattle.vt_core.specs.Core.{CoreState, each_of, stops_of}
use Rattle.vt_core.specs.Steps.{Runs}
use Rattle.vt_core.specs.declared.event.Event.{Event}
use Rattle.vt_core.specs.declared.event.Out.{Out}
use Rattle.vt_core.specs.declared.event.Out.TheVariants.{Said as SaidOut, Waits, NotYet, Moved, Nothing, Failed}
use Rattle.vt_core.proofs.AskWork.{one_rose}
use Rattle.vt_requests.proofs.Risen.{AllFit, fits_in, fell_then, rose_fell, same_fell}
use Rattle.vt_use.specs.Causes.{TellsStops}
use Rattle.vt_use.specs.Stores.{MakesRun}

-- a count that rose in a while rose in a longer one
pub rose_within : (a b c d : List ℕ) → AllFit d → NoneFell a b → OneRose b c → NoneFell c d
    → OneRose a d
rose_within a b c d fit low rose high = (
  rose.0,
  ⊎_elim
      (λ more. inl (omega (arith, more, low rose.0, high rose.0)))
      (λ full. inr (omega (arith, full, high rose.0, fit rose.0))) rose.1,
)

-- ---- one event

same_falls : (a b : List ℕ) → b ≡ a → NoneFell a b
same_falls a b same = subst (λ (c : List ℕ). NoneFell a c) (sym same) (same_fell a)

why_fell : (why : Why) (a b : List ℕ) → AllFit a → CountsWhy why a b → NoneFell a b
why_fell DiskFault a b fit it = rose_fell a b fit it
why_fell why a b fit it = same_falls a b it

said_fell : (said : Said) (a b : List ℕ) → AllFit a → CountsSaid said a b → NoneFell a b
said_fell (Refused why) a b fit it = why_fell why a b fit it
said_fell said a b fit it = same_falls a b it

out_fell : (out : Out) (a b : List ℕ) → AllFit a → CountsOut out a b → NoneFell a b
out_fell (SaidOut answer) a b fit it = said_fell answer.said a b fit it
out_fell (Failed why) a b fit it = why_fell why a b fit it
out_fell out a b fit it = same_falls a b it

module _ {D : Type 0} (disk : DiskOf D) where
  abbrev counts : CoreState D → List ℕ
  counts k = each_of disk.faults k

  abbrev StopsOr : (old new : CoreState D) → Type 0
  StopsOr old new = (stops_of new ≡ stops_of old) ⊎ OneRose (counts old) (counts new)

  why_stops : (why : Why) (old new : CoreState D) → CountsWhy why (counts old) (counts new)
      → KeepsStops (Failed why) old new → StopsOr old new
  why_stops DiskFault old new it keeps = inr (one_rose (counts old) (counts new) it)
  why_stops BadType old new it keeps = inl (keeps.cause (λ e. cc))
  why_stops TooBig old new it keeps = inl (keeps.cause (λ e. cc))
  why_stops TooSmall old new it keeps = inl (keeps.cause (λ e. cc))
  why_stops Absent old new it keeps = inl (keeps.cause (λ e. cc))
  why_stops Collision old new it keeps = inl (keeps.cause (λ e. cc))
  why_stops IndexFull old new it keeps = inl (keeps.cause (λ e. cc))
  why_stops ArenasFull old new it keeps = inl (keeps.cause (λ e. cc))
  why_stops (Stopped call) old new it keeps = inl (keeps.cause (λ e. cc))
  why_stops (Damaged site want found) old new it keeps = inl (keeps.cause (λ e. cc))
  why_stops NoMemory old new it keeps = inl (keeps.cause (λ e. cc))

  out_stops : (out : Out) (old new : CoreState D) → CountsOut out (counts old) (counts new)
      → KeepsStops out old new → StopsOr old new
  out_stops (Failed why) old new it keeps = why_stops why old new it keeps
  out_stops (SaidOut answer) old new it keeps = inl (keeps.cause (λ e. cc))
  out_stops Waits old new it keeps = inl (keeps.cause (λ e. cc))
  out_stops NotYet old new it keeps = inl (keeps.cause (λ e. cc))
  out_stops Moved old new it keeps = inl (keeps.cause (λ e. cc))
  out_stops Nothing old new it keeps = inl (keeps.cause (λ e. cc))

  -- ---- a run of them

  pub tells_same : (old new : CoreState D) → new ≡ old → TellsStops disk old new
  tells_same old new same = subst (λ (k : CoreState D). TellsStops disk old k) (sym same)
      (record { fell = same_fell (counts old); stops = inl refl })

  module _ (fits : (device : D) → disk.faults device < 2 ^ 64) where
    pub all_fit : (k : CoreState D) → AllFit (counts k)
    all_fit k = fits_in disk.faults fits _

    pub tells_more : (old mid new : CoreState D) → TellsStops disk old mid
        → TellsStops disk mid new → TellsStops disk old new
    tells_more old mid new x y = record {
      fell = fell_then (counts old) (counts mid) (counts new) x.fell y.fell;
      stops = ⊎_elim
          (λ same. ⊎_elim
          (λ same'. inl (same' ∙ same))
          (λ rose. inr (rose_within (counts old) (counts mid) (counts new) (counts new)
          (all_fit new) x.fell rose (same_fell (counts new))))
          y.stops)
          (λ rose. inr (rose_within (counts old) (counts old) (counts mid) (counts new)
          (all_fit new) (same_fell (counts old)) rose y.fell))
          x.stops;
    }

    events_tell : (score : List ℕ → List ℕ) (events : List Event) (outs : List Out)
        (old new : CoreState D) → Runs score disk events outs old new → TellsStops disk old new
    events_tell score [] [] old new same = tells_same old new same
    events_tell score (event ∷ events) (out ∷ outs) old new it =
        let first : TellsStops disk old it.0 = record {
          fell = out_fell out (counts old) (counts it.0) (all_fit old) it.1.counts;
          stops = out_stops out old it.0 it.1.counts it.1.stops;
        } in
        tells_more old it.0 new first (events_tell score events outs it.0 new it.2)
    events_tell score [] (out ∷ outs) old new it = absurd it
    events_tell score (event ∷ events) [] old new it = absurd it

    pub run_tells : (score : List ℕ → List ℕ) (old new : CoreState D) → MakesRun score disk old new
        → TellsStops disk old new
    run_tells score old new it = events_tell score it.0 it.1 old new it.2
