-- The command `checkarenas CONF`: checks the arenas of the store that a configuration names
-- (venti(8)).
use Rattle.std.specs.Prelude.{ℕ, ◌≡◌, ◌⊎◌, Bool, IfErr, IsTrue, Option, Some, None, List, [], ◌∷◌, Ok, Err, Result, codes, decimal, if◌then◌else◌, map, MatchResult}
use Rattle.std.specs.List.{concat}
use Rattle.std.specs.Option.{option_or}
use Rattle.vt_check.specs.declared.checking.ArenaReport.{ArenaReport}
use Rattle.vt_check.specs.declared.checking.CheckErr.{CheckErr}
use Rattle.vt_check.specs.declared.checking.CheckErr.TheVariants as check_err
use Rattle.vt_check.specs.declared.checking.Damage.{Damage}
use Rattle.vt_check.specs.declared.checking.Report.{Report}
use Rattle.vt_conf.specs.declared.conf.Conf.{Conf}
use Rattle.vt_disk.specs.Members.{DiskOf}
use Rattle.vt_maintain.specs.declared.error.MaintainError.{MaintainError}
use Rattle.vt_maintain.specs.declared.error.MaintainError.TheVariants.{Unopened, Ended}
use Rattle.vt_maintain.specs.Checking.{ChecksOn}
use Rattle.vt_maintain.specs.Opened.{RefusesUse}
use Rattle.vt_maintain.specs.Stores.{NamesUnopened, WorksOnStore}
use Rattle.run_base.specs.declared.error.CommandError.{CommandError}
use Rattle.run_base.specs.declared.error.CommandError.TheVariants.{DiskFault, Damaged, NoMemory}
use Rattle.run_base.specs.Blocks.{FindsNoConf}
use Rattle.run_base.specs.Change.{StreamChange, FilesChange, MakesNothing, PartsChange}
use Rattle.run_base.specs.Unopened.{IsOpenRefusal}
use Rattle.run_base.specs.Configurations.{ReadsConf}
use Rattle.run_base.specs.Errors.{CommandOutcome}
use Rattle.run_base.specs.Formatting.{Prints}

-- ---- what is printed

-- the word for an arena's state
abbrev pub state_text : (sealed : Bool) → List ℕ
state_text sealed = if sealed then codes "sealed" else codes "unsealed"

-- the word for what checking an arena found
abbrev pub result_text : Option Damage → List ℕ
result_text None = codes "ok"
result_text (Some damage) = codes "damaged"

-- the line of an arena
abbrev pub arena_line : ArenaReport → List ℕ
arena_line report = concat (codes "arena " ∷ decimal report.number ∷ codes ": "
    ∷ decimal report.clumps ∷ codes " clumps, " ∷ decimal report.used ∷ codes " bytes, "
    ∷ state_text report.sealed ∷ codes ", " ∷ result_text report.damage ∷ codes "\n" ∷ [])

-- The lines of all arenas, in order.
abbrev pub arena_lines : List ArenaReport → List ℕ
arena_lines reports = concat (map arena_line reports)

-- ---- what is told

-- the damage of the first arena that has one
abbrev pub first_reported_damage : List ArenaReport → Option Damage
first_reported_damage [] = None
first_reported_damage (report ∷ reports) = option_or report.damage (first_reported_damage reports)

-- Damage, if there is any, is told as the outcome.
abbrev pub damage_outcome : Option Damage → CommandOutcome
damage_outcome None = Ok tt
damage_outcome (Some damage) = Err (Damaged damage.want damage.found)

-- The line of each arena was printed, whatever was found, and then the first damage is told, if there
-- is one; or a write failed behind a front of them.
abbrev pub TellsReports : {K : Type 0} → List ArenaReport → CommandOutcome → StreamChange K → Type 0
TellsReports reports outcome sink = (printed : CommandOutcome)
    × Prints (arena_lines reports) printed sink
    × MatchResult printed (λ _. outcome ≡ damage_outcome (first_reported_damage reports))
    (λ failure. outcome ≡ Err failure)

-- what is told of what ended the work
abbrev pub check_failure : CheckErr → CommandError
check_failure check_err.Fault = DiskFault
check_failure check_err.NoMemory = NoMemory

-- what is told where the arenas aren't checked
abbrev pub IsCheckRefusal : (file : List ℕ) → Conf → MaintainError CheckErr → CommandError → Type 0
IsCheckRefusal file conf (Unopened bad) failure = IsOpenRefusal file conf bad failure
IsCheckRefusal file conf (Ended bad) failure = failure ≡ check_failure bad

-- ---- what is done

-- The arenas were checked, and that is told, or it is told why not, and nothing is printed.
pub record ChecksConf {K P D : Type 0} (score : List ℕ → List ℕ) (disk : DiskOf D)
    (file : List ℕ) (conf : Conf) (outcome : CommandOutcome) (parts : PartsChange P D)
    (sink : StreamChange K)
    : Type 0 where
  pub result : Result Report (MaintainError CheckErr)
  pub uses : WorksOnStore disk (IsTrue parts.tells) conf (RefusesUse score disk)
      (ChecksOn score disk)
      parts.old parts.new parts.faults parts.faults' result
  pub differs : IfErr result NamesUnopened
  pub told : MatchResult result (λ report. TellsReports report.arenas.items outcome sink)
      (λ bad. ((failure : CommandError) × (outcome ≡ Err failure)
      × IsCheckRefusal file conf bad failure)
      × (sink.after ≡ sink.before))

-- The configuration was read, and the arenas of its store checked; or it is told why none was read,
-- and nothing is done.
abbrev pub DoesCheckarenas : {I P D K : Type 0} → (List ℕ → List ℕ) → DiskOf D
    → (file : List ℕ) → CommandOutcome → FilesChange I → PartsChange P D → StreamChange K → Type 0
DoesCheckarenas score disk file outcome files parts sink =
    FindsNoConf file outcome files (MakesNothing parts sink)
    ⊎ ((conf : Conf) × ReadsConf file conf files
    × ChecksConf score disk file conf outcome parts sink)
