-- A store in memory: want of memory is its only failure.
use Rattle.std.proofs.Common.{◌≡◌, ⊎_elim, inl, inr, ℕ, zero, suc, Bool, List, [], ◌∷◌, ◌++◌, map, refl, sym, ◌∙◌, ap, subst, arith, Option, None, Result, Ok, Err}
use Rattle.std.specs.Prelude.{IfErr, IfOk, slice_index}
use Rattle.std.specs.List.{AllByRecursion}
use Rattle.std.proofs.lemmas.Grind.{flat_map-append}
use Rattle.vt_base.specs.Protocol.{Operation, RMessage, r_refused}
use Rattle.vt_base.specs.declared.why.Why.{Why}
use Rattle.vt_base.specs.declared.why.Why.TheVariants as whys
use Rattle.vt_disk.specs.Members.{DiskOf}
use Rattle.vt_model.specs.Answer.{answer}
use Rattle.vt_model.specs.Places.{Setup}
use Rattle.vt_session.specs.declared.Ended.TheVariants as ends
use Rattle.vt_model.specs.Causes.{Cause, OneRose}
use Rattle.vt_session.specs.Turns.{Turn, cause_of, causes_of}
use Rattle.vt_session.specs.Answered.{AreToldBy, CountsRise, IsKnownStop, no_faults}
use Rattle.vt_handler.specs.Serving.{answered, tells_failure}
use Rattle.vt_core.specs.Causes.{IsUndamagedWhy}
use Rattle.vt_core.specs.Core.{CoreState, each_of, setup_of}
use Rattle.vt_core.specs.Machine.{WaitsForNone}
use Rattle.vt_empty.specs.declared.shape.Shape.{Shape}
use Rattle.vt_empty.specs.Shape.{setup_for}
use Rattle.vt_empty.specs.Store.{IsFreshStore}
use Rattle.vt_shard.specs.declared.mounting.Sizes.{Sizes}
use Rattle.vt_use.specs.Blocks.{IsAnswer}
use Rattle.vt_use.specs.declared.session.StoreServed.{StoreServed}
use Rattle.vt_use.specs.Sessions.{FailsFor, NoCallFails, OnlyMemory}
use Rattle.run_base.specs.Blocks.{AnswersOfEmptyStore, FailsInMemory}
use Rattle.run_base.specs.Memory.{IsMemoryStore, memory_setup}

-- ---- want of memory is told by no count and no stop

memory_counts : (causes : List Cause) → OnlyMemory causes → CountsRise [] causes []
memory_counts [] only = λ k. omega arith
memory_counts (cause ∷ causes) only =
    subst (λ (x : Cause). CountsRise [] (x ∷ causes) []) (sym only.0)
    (memory_counts causes only.1)

memory_stops : (causes : List Cause) → OnlyMemory causes
    → AllByRecursion (IsKnownStop []) causes
memory_stops [] only = tt
memory_stops (cause ∷ causes) only =
    (subst (IsKnownStop []) (sym only.0) tt, memory_stops causes only.1)

pub told_by_none : (causes : List Cause) → OnlyMemory causes → AreToldBy no_faults causes
told_by_none causes only =
    record { counts = memory_counts causes only; stops = memory_stops causes only }

only_front : (a b : List Cause) → OnlyMemory (a ++ b) → OnlyMemory a
only_front [] b x = tt
only_front (cause ∷ a) b x = (x.0, only_front a b x.1)

pub front_only : (turns unsaid : List Turn) → OnlyMemory (causes_of (turns ++ unsaid))
    → OnlyMemory (causes_of turns)
front_only turns unsaid x = only_front (causes_of turns) (causes_of unsaid)
    (subst OnlyMemory (flat_map-append cause_of turns unsaid) x)

-- ---- no call of its disks fails

module _ {D : Type 0} (disk : DiskOf D) (never : (device : D) → disk.faults device ≡ 0) where
  zeros : (devices : List D) (i : ℕ) → slice_index (map disk.faults devices) i ≡ 0
  zeros [] i = refl
  zeros (device ∷ devices) zero = never device
  zeros (device ∷ devices) (suc i) = zeros devices i

  pub none_rose : (old new : CoreState D) → ¬ OneRose (each_of disk.faults old) (each_of disk.faults new)
  none_rose old new rose =
      let before : slice_index (each_of disk.faults old) rose.0 ≡ 0 = zeros _ rose.0 in
      let after : slice_index (each_of disk.faults new) rose.0 ≡ 0 = zeros _ rose.0 in
      ⊎_elim (λ more. omega (arith, more, after)) (λ full. omega (arith, full, after)) rose.1

  pub never_fails : (score : List ℕ → List ℕ) (old new : CoreState D)
      → IsMemoryStore score disk old → NoCallFails disk old new
  never_fails score old new fresh =
      record { goes_on = fresh.stops; none_rose = none_rose old new }

-- ---- the store that is made

pub as_memory : {D E : Type 0} (score : List ℕ → List ℕ) (disk : DiskOf D) (shape : Shape)
    (sizes : Sizes) (result : Result (CoreState D) E) → setup_for shape ≡ memory_setup
    → IfOk result (IsFreshStore score disk shape sizes 1) → IfOk result (IsMemoryStore score disk)
as_memory score disk shape sizes (Ok k) is fresh = record {
  sound = fresh.sound;
  setup = fresh.setup ∙ is;
  free = subst (λ (w : List (Option ℕ)). WaitsForNone w 0) (sym fresh.waiting) refl;
  stops = fresh.stops;
}
as_memory score disk shape sizes (Err bad) is fresh = tt

-- ---- one block

module _ {D : Type 0} (score : List ℕ → List ℕ) (disk : DiskOf D)
    (never : (device : D) → disk.faults device ≡ 0) (old new : CoreState D)
    (made : IsMemoryStore score disk old) where
  abbrev Fails : Why → Type 0
  Fails why = tells_failure why ≡ Bool.true → FailsFor disk why old new

  only_memory : (why : Why) → Fails why → tells_failure why ≡ Bool.true → IsUndamagedWhy why
      → why ≡ whys.NoMemory
  only_memory whys.NoMemory fails failed undamaged = refl
  only_memory whys.DiskFault fails failed undamaged =
      absurd (none_rose disk never old new (fails refl))
  only_memory (whys.Stopped call) fails failed undamaged =
      absurd (none_rose disk never old new (fails refl))
  only_memory (whys.Damaged site want found) fails failed undamaged = absurd undamaged
  only_memory whys.BadType fails failed undamaged = absurd (cc)
  only_memory whys.TooBig fails failed undamaged = absurd (cc)
  only_memory whys.TooSmall fails failed undamaged = absurd (cc)
  only_memory whys.Absent fails failed undamaged = absurd (cc)
  only_memory whys.Collision fails failed undamaged = absurd (cc)
  only_memory whys.IndexFull fails failed undamaged = absurd (cc)
  only_memory whys.ArenasFull fails failed undamaged = absurd (cc)

  -- what was answered is the model's, or want of memory
  pub answers_so : {T : Type 0} (message : T → RMessage) (m : Operation) (result : Result T Why)
      → IsAnswer score (setup_of old) [] m (answered message result)
      → IfErr result Fails → AnswersOfEmptyStore score m (answered message result)
  answers_so message m (Ok value) it fails = ⊎_elim
      (λ same. inl (subst (λ (c : Setup). message value ≡ (answer score c [] m).reply) made.setup same))
      (λ no. absurd no) it
  answers_so message m (Err why) it fails = ⊎_elim
      (λ same. inl (subst (λ (c : Setup). r_refused why ≡ (answer score c [] m).reply) made.setup same))
      (λ failed. inr (ap Err (only_memory why fails failed.0 failed.1))) it

  pub caused_so : {T : Type 0} (result : Result T Why) → IfErr result Fails
      → IfErr result FailsInMemory
  caused_so (Ok value) fails = tt
  caused_so (Err why) fails = of why fails
    where
      of : (why : Why) → Fails why → FailsInMemory why
      of whys.DiskFault fails = none_rose disk never old new (fails refl)
      of (whys.Stopped call) fails = none_rose disk never old new (fails refl)
      of (whys.Damaged site want found) fails = fails refl
      of whys.NoMemory fails = tt
      of whys.BadType fails = tt
      of whys.TooBig fails = tt
      of whys.TooSmall fails = tt
      of whys.Absent fails = tt
      of whys.Collision fails = tt
      of whys.IndexFull fails = tt
      of whys.ArenasFull fails = tt

-- ---- no memory for a session

abbrev pub none : StoreServed
none = record { ended = ends.NoMemory; taken = 0; failure = None; closed = Ok tt }
