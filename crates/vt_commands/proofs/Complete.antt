-- Input that ends well is answered to its end, unless memory runs out.
use Rattle.std.specs.Prelude.{◌&&◌, IfSome, IsTrue}
use Rattle.std.proofs.Common.{◌≡◌, Bool, Option, Some, None, List, [], ◌++◌, ℕ, length, refl, sym, ◌∙◌, ap, subst, ◌⊎◌, inl, inr, append-nil, arith, length-append, Ok, Err}
use Rattle.vt_base.specs.Bytes.{AreBytes}
use Rattle.vt_base.specs.Faults.{HasRisen}
use Rattle.vt_base.specs.declared.why.Why.{Why}
use Rattle.vt_base.specs.declared.why.Why.TheVariants as whys
use Rattle.vt_session.specs.declared.Ended.{Ended}
use Rattle.vt_session.specs.declared.Ended.TheVariants.{Goodbye, Closed, Cut, Malformed, Spent, ReadFault, WriteFault, NoMemory}
use Rattle.vt_session.specs.Heard.{Item, Heard}
use Rattle.vt_session.specs.Turns.{Turn, items_of_turns}
use Rattle.vt_session.specs.Talk.{Carries}
use Rattle.vt_session.proofs.Hearings.{heard_one, heard_last}
use Rattle.vt_handler.specs.Links.{ReadCause}
use Rattle.vt_handler.specs.Sessions.{SinkCause}
use Rattle.vt_use.specs.declared.session.StoreServed.{StoreServed}
use Rattle.vt_use.specs.Sessions.{NeedsMemory}
use Rattle.run_base.specs.declared.error.CommandError.TheVariants as failures
use Rattle.run_base.specs.Change.{StreamChange}
use Rattle.run_sessions.specs.Session.{DoesSession}
use Rattle.run_base.specs.Errors.{CommandOutcome}
use Rattle.run_base.specs.Served.{InputEndsWell, PassesOver, closed_with, failed_in, failure_for, first_outcome, outcome_of, outcome_of_end}

-- an input that ends well ends no other way
well_is : (had : List ℕ) (items : List Item) (ended : Ended) → InputEndsWell had → Heard had items ended → (ended ≡ Goodbye) ⊎ (ended ≡ Closed)
well_is had items ended well heard =
    let same = heard_one had well.items items well.ended ended well.heard heard in
    elim (well.well) [ inl e ↦ inl (sym same.1 ∙ e) | inr e ↦ inr (sym same.1 ∙ e) ]

abbrev pub IsWell : CommandOutcome → Type 0
IsWell outcome = (outcome ≡ Ok tt) ⊎ (outcome ≡ Err failures.NoMemory)

module _ (had input left output : List ℕ) (turns : List Turn) (bytes : AreBytes had)
    (well : InputEndsWell had) (parts : had ≡ input ++ left) where
  pub end_outcome : (ended : Ended) (n source source' sink sink' : ℕ) → (ended ≡ Cut → left ≡ [])
      → Carries input output turns ended → ReadCause ended source source'
      → SinkCause ended sink sink' → ¬ (HasRisen source source') → ¬ (HasRisen sink sink')
      → IsWell (outcome_of_end ended n)
  end_outcome Goodbye n source source' sink sink' none carried read write no_read no_write = inl refl
  end_outcome Closed n source source' sink sink' none carried read write no_read no_write = inl refl
  end_outcome Cut n source source' sink sink' none carried read write no_read no_write =
      let whole : had ≡ input =
      parts ∙ ap (λ (l : List ℕ). input ++ l) (none refl) ∙ append-nil input in
      elim (well_is had (items_of_turns turns) Cut well
      (subst (λ (i : List ℕ). Heard i (items_of_turns turns) Cut) (sym whole) carried.0.0)) [
        | inl e ↦ absurd (cc)
        | inr e ↦ absurd (cc)
      ]
  end_outcome (Malformed place) n source source' sink sink' none carried read write no_read no_write =
      let heard = heard_last input left (items_of_turns turns) (Malformed place)
      (subst AreBytes parts bytes) carried.0 (λ e. cc) (λ e. cc) in
      elim (well_is had (items_of_turns turns) (Malformed place) well
      (subst (λ (i : List ℕ). Heard i (items_of_turns turns) (Malformed place)) (sym parts) heard)) [
        | inl e ↦ absurd (cc)
        | inr e ↦ absurd (cc)
      ]
  end_outcome Spent n source source' sink sink' none carried read write no_read no_write =
      absurd (omega (arith, well.short, ap length parts, length-append input left, carried.1))
  end_outcome ReadFault n source source' sink sink' none carried read write no_read no_write =
      absurd (no_read read)
  end_outcome WriteFault n source source' sink sink' none carried read write no_read no_write =
      absurd (no_write write)
  end_outcome NoMemory n source source' sink sink' none carried read write no_read no_write = inr refl

-- ---- the outcome of a store that needs memory alone

first_well : (first second : CommandOutcome) → IsWell first → IsWell second → IsWell (first_outcome first second)
first_well (Ok done) second x y = y
first_well (Err failure) second x y = x

failed_well : (failure : Option Why) → IfSome failure (λ why. why ≡ whys.NoMemory)
    → IsWell (failed_in failure)
failed_well None it = inl refl
failed_well (Some why) it = inr (ap (λ (w : Why). Err (failure_for w)) it)

pub served_well : {R K : Type 0} (end : StoreServed) (input output : List ℕ) (turns : List Turn)
    (source : StreamChange R) (sink : StreamChange K) → NeedsMemory end
    → PassesOver end input output source sink → Carries input output turns end.ended
    → ReadCause end.ended source.faults source.faults'
    → SinkCause end.ended sink.faults sink.faults' → InputEndsWell source.old
    → ¬ HasRisen source.faults source.faults' → ¬ HasRisen sink.faults sink.faults'
    → IsWell (outcome_of end)
served_well end input output turns source sink needs passes carried read write well no_read no_write =
    first_well (failed_in end.failure) _ (failed_well end.failure needs.failure)
    (first_well (outcome_of_end end.ended end.taken) (closed_with end.closed)
    (end_outcome source.old input source.new output turns passes.bytes well passes.took.parts
    end.ended end.taken source.faults source.faults' sink.faults sink.faults' passes.took.cut
    carried read write no_read no_write)
    (inl (ap closed_with needs.closed)))

-- in memory
pub memory_well : {R K : Type 0} (score : List ℕ → List ℕ) (outcome : CommandOutcome)
    (source : StreamChange R) (sink : StreamChange K) → DoesSession score outcome source sink
    → IsTrue (source.tells && sink.tells) → InputEndsWell source.old
    → ¬ HasRisen source.faults source.faults' → ¬ HasRisen sink.faults sink.faults'
    → IsWell outcome
memory_well score outcome source sink x tells well no_read no_write =
    let s = x.serves in
    let session = s.session tells in
    subst IsWell (sym x.outcome_is) (served_well x.end s.input s.output session.turns source sink
    s.needs (s.passes tells) session.alone.carried s.read s.write well no_read no_write)

-- streams that tell both
pub both_tell : (a b : Bool) → IsTrue a → IsTrue b → IsTrue (a && b)
both_tell Bool.true b x y = y
both_tell Bool.false b x y = absurd (cc)
