-- The command `rehearse SEED COUNT`: rehearses crashes of a store in memory.
use Rattle.std.specs.Prelude.{ℕ, ◌≡◌, ◌⊎◌, Bool, true, false, List, [], ◌∷◌, Err, codes, decimal}
use Rattle.std.specs.List.{concat}
use Rattle.vt_conf.specs.Numbers.{wrong_digit}
use Rattle.vt_rehearse.specs.declared.summary.Summary.{Summary}
use Rattle.vt_rehearse.specs.Rounds.{rounds_from}
use Rattle.vt_rehearse.specs.Summary.{AddsUp, IsRehearsalOf}
use Rattle.run_base.specs.declared.error.CommandError.{CommandError}
use Rattle.run_base.specs.declared.error.CommandError.TheVariants.{BadNumber, NoMemory}
use Rattle.run_base.specs.Change.{StreamChange, IsUntouched}
use Rattle.run_base.specs.Errors.{CommandOutcome}
use Rattle.run_base.specs.Formatting.{Prints, RefusesWord}
use Rattle.run_stores.specs.Words.{SaysCount, SaysSeed}

-- The words of `rehearse` are a seed and a count of rounds.
pub record AsksToRehearse (seed count : List ℕ) (x rounds : ℕ) : Type 0 where
  pub seed_is : SaysSeed seed x
  pub count_is : SaysCount count rounds

-- the first of them that isn't, and its first wrong byte
abbrev pub AsksForNoRehearsal : (seed count : List ℕ) → CommandError → Type 0
AsksForNoRehearsal seed count failure =
    (((x : ℕ) → ¬ SaysSeed seed x) × (failure ≡ BadNumber (wrong_digit seed)))
    ⊎ (((x : ℕ) × SaysSeed seed x) × ((rounds : ℕ) → ¬ SaysCount count rounds)
    × (failure ≡ BadNumber (wrong_digit count)))

-- whether all that the store gave was right
abbrev pub check_text : Bool → List ℕ
check_text true = codes "ok"
check_text false = codes "failed"

-- what is printed of a summary
abbrev pub summary_text : Summary → List ℕ
summary_text s =
    concat (codes "events " ∷ decimal s.events
    ∷ codes "\nwrites " ∷ decimal s.writes ∷ codes " accepted " ∷ decimal s.accepted
    ∷ codes " held " ∷ decimal s.held
    ∷ codes "\nreads " ∷ decimal s.reads ∷ codes " found " ∷ decimal s.found
    ∷ codes " missing " ∷ decimal s.missing
    ∷ codes "\nsyncs " ∷ decimal s.syncs
    ∷ codes "\ncrashes " ∷ decimal s.crashes ∷ codes " lost " ∷ decimal s.lost
    ∷ codes "\nblocks " ∷ decimal s.blocks
    ∷ codes "\ncheck " ∷ check_text s.ok ∷ codes "\n" ∷ [])

-- Just the rounds were made that the seed draws, and what they came to is printed; or memory ran
-- out, and nothing is.
abbrev pub Rehearses : {K : Type 0} → (seed rounds : ℕ) → CommandOutcome → StreamChange K → Type 0
Rehearses seed rounds outcome sink =
    ((s : Summary) × IsRehearsalOf seed rounds s × AddsUp (rounds_from seed rounds) s
    × Prints (summary_text s) outcome sink)
    ⊎ ((outcome ≡ Err NoMemory) × IsUntouched sink)

-- What `rehearse` does: its words were refused, or the store was rehearsed.
abbrev pub DoesRehearse : {K : Type 0} → (seed count : List ℕ) → CommandOutcome → StreamChange K
    → Type 0
DoesRehearse seed count outcome sink =
    RefusesWord (AsksForNoRehearsal seed count) outcome (IsUntouched sink)
    ⊎ ((x : ℕ) × (rounds : ℕ) × AsksToRehearse seed count x rounds
    × Rehearses x rounds outcome sink)
