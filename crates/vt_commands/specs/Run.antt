-- What the program did: one line for each command.
use Rattle.std.specs.Prelude.{ℕ, ◌≡◌, ◌⊎◌, ◌++◌, ⊤, List, [], Result, Err, string_bytes}
use Rattle.vt_base.specs.declared.why.Failed.{Failed}
use Rattle.vt_disk.specs.Members.{DiskOf}
use Rattle.vt_cli.specs.declared.asked.Asked.{Asked}
use Rattle.vt_cli.specs.declared.asked.Asked.TheVariants.{Do, Help, Version, Faulty}
use Rattle.vt_cli.specs.declared.command.Command.{Command}
use Rattle.vt_cli.specs.declared.command.Command.TheVariants.{Session, FormatArenas, FormatSection, FormatFilter, FormatIndex, RebuildIndex, CheckArenas, Read, Write, Rehearse, Vac, View}
use Rattle.vt_cli.specs.Words.{Asks}
use Rattle.run_base.specs.Change.{AreUnused, StreamChange, FoldersChange, Attempts, sink_change}
use Rattle.run_base.specs.Errors.{CommandOutcome, status_of, outcome_line, HasCauseIn}
use Rattle.run_base.specs.Formatting.{Prints}
use Rattle.run_base.specs.Members.{SourceOf, SinkOf, FilesOf, PartsOf, FoldersOf, DialerOf, LinkOf}
use Rattle.run_base.specs.Places.{EndsIdle}
use Rattle.run_base.specs.Said.{Said}
use Rattle.run_base.specs.declared.error.CommandError.TheVariants.{BadWords, NoMemory}
use Rattle.run_base.specs.declared.host.Outside.{Outside}
use Rattle.run_stores.specs.Buildindex.{DoesBuildindex}
use Rattle.run_stores.specs.Checkarenas.{DoesCheckarenas}
use Rattle.run_stores.specs.Fmtarenas.{DoesFmtarenas}
use Rattle.run_stores.specs.Fmtbloom.{DoesFmtbloom}
use Rattle.run_stores.specs.Fmtindex.{DoesFmtindex}
use Rattle.run_stores.specs.Fmtisect.{DoesFmtisect}
use Rattle.run_sessions.specs.Read.{DoesRead}
use Rattle.run_stores.specs.Rehearse.{DoesRehearse}
use Rattle.run_sessions.specs.SessionAt.{DoesSessionAt}
use Rattle.run_archives.specs.Vac.{DoesVac}
use Rattle.run_archives.specs.Vacfs.{DoesVacfs}
use Rattle.run_sessions.specs.Write.{DoesWrite}
use Rattle.vt_commands.specs.Work.{IsIdle, NoFolder, NoSource, OnlyParts, OnlyReading, OnlyServing, OnlySink, OnlyStore, Work, causes_of, work_of}

-- What a command did with what it is lent, and that nothing else was touched. The time at which a folder
-- is archived is tied to no clock.
abbrev pub DoesCommand : {R K I P D N L : Type 0} → DiskOf D → LinkOf L → (score : List ℕ → List ℕ)
    → Command → CommandOutcome → Work R K I P D N L → Type 0
DoesCommand disk link score (Session store) outcome work =
    DoesSessionAt score disk store outcome work.source work.sink work.files work.parts
    × OnlyServing disk outcome work
DoesCommand disk link score (FormatArenas file name length arena_size) outcome work =
    DoesFmtarenas disk file name length arena_size outcome work.parts work.sink
    × OnlyParts disk outcome work
DoesCommand disk link score (FormatSection file name length) outcome work =
    DoesFmtisect disk file name length outcome work.parts work.sink × OnlyParts disk outcome work
DoesCommand disk link score (FormatFilter file size positions) outcome work =
    DoesFmtbloom disk file size positions outcome work.parts work.sink
    × OnlyParts disk outcome work
DoesCommand disk link score (FormatIndex file) outcome work =
    DoesFmtindex disk file outcome work.files work.parts work.sink × OnlyStore disk outcome work
DoesCommand disk link score (RebuildIndex file) outcome work =
    DoesBuildindex score disk file outcome work.files work.parts work.sink
    × OnlyStore disk outcome work
DoesCommand disk link score (CheckArenas file) outcome work =
    DoesCheckarenas score disk file outcome work.files work.parts work.sink
    × OnlyStore disk outcome work
DoesCommand disk link score (Read store score_word kind) outcome work =
    DoesRead score disk link store score_word kind outcome work.files work.parts work.dialer
    work.sink × OnlyReading disk outcome work
DoesCommand disk link score (Write store kind) outcome work =
    DoesWrite score disk link store kind outcome work.source work.sink work.files work.parts
    work.dialer × NoFolder disk outcome work
DoesCommand disk link score (Rehearse seed count) outcome work =
    DoesRehearse seed count outcome work.sink × OnlySink outcome work
DoesCommand disk link score (Vac store folder size) outcome work = (preface : List ℕ)
    × ((now : ℕ) × DoesVac score disk link now store folder size preface outcome work.files
    work.folders work.parts work.dialer work.sink) × NoSource disk outcome work
DoesCommand disk link score (View store score_word) outcome work =
    DoesVacfs score disk link store score_word outcome work.source work.sink work.files work.parts
    work.dialer × NoFolder disk outcome work

-- a text is printed, and nothing else is done
abbrev pub Shows : {R K I P D N L : Type 0} → (text : List ℕ) → CommandOutcome → Work R K I P D N L
    → Type 0
Shows text outcome work = Prints text outcome work.sink × OnlySink outcome work

-- what words ask for is done
abbrev pub DoesAsked : {R K I P D N L : Type 0} → DiskOf D → LinkOf L
    → (score : List ℕ → List ℕ) → Asked → CommandOutcome → Work R K I P D N L → Type 0
DoesAsked disk link score (Do command) outcome work =
    DoesCommand disk link score command outcome work
DoesAsked disk link score (Help text) outcome work = Shows (string_bytes text) outcome work
DoesAsked disk link score (Version text) outcome work = Shows (string_bytes text) outcome work
DoesAsked disk link score Faulty outcome work =
    EndsIdle (Err BadWords) outcome (IsIdle work)

-- what stands before the line on the fault sink: what an archive leaves out
abbrev pub preface_of : {R K I P D N L : Type 0} → (disk : DiskOf D) (link : LinkOf L)
    (score : List ℕ → List ℕ) (asked : Asked) (outcome : CommandOutcome) (work : Work R K I P D N L)
    → DoesAsked disk link score asked outcome work → List ℕ
preface_of disk link score (Do (Vac store folder size)) outcome work does = does.0
preface_of disk link score asked outcome work does = []

-- What was done before the fault sink was written: what the words ask for; or memory ran out before
-- it was known what that is.
abbrev pub DoesWords : {R K I P D N L : Type 0} → DiskOf D → LinkOf L → (score : List ℕ → List ℕ)
    → (words : List (List ℕ)) → (preface : List ℕ) → CommandOutcome → Work R K I P D N L → Type 0
DoesWords disk link score words preface outcome work =
    ((asked : Asked) × Asks words asked × (does : DoesAsked disk link score asked outcome work)
    × (preface ≡ preface_of disk link score asked outcome work does))
    ⊎ ((preface ≡ []) × EndsIdle (Err NoMemory) outcome (IsIdle work))

-- a command was done, and what goes before the line was said
abbrev pub SaysAndDoes : {R K F I P D N L : Type 0} → DiskOf D → LinkOf L
    → (score : List ℕ → List ℕ) → Command → Result (Unit {0}) Failed → CommandOutcome
    → Work R K I P D N L → StreamChange F → Type 0
SaysAndDoes disk link score command said outcome work sink =
    (does : DoesCommand disk link score command outcome work)
    × Said said sink (preface_of disk link score (Do command) outcome work does)

-- the command is `vac`
abbrev pub IsArchiveCommand : Command → Type 0
IsArchiveCommand (Vac store folder size) = ⊤
IsArchiveCommand command = ⊥

-- the words ask for an archive, or no folder is handed out
abbrev pub OnlyForArchives : (words : List (List ℕ)) → FoldersChange → Type 0
OnlyForArchives words folders =
    ((command : Command) × Asks words (Do command) × IsArchiveCommand command) ⊎ AreUnused folders

-- What the words ask for was done, with an outcome, which the status tells, and the line on the
-- fault sink; a fault sink that fails changes no status.
pub record Did {R K F I P D N L : Type 0} (disk : DiskOf D) (link : LinkOf L)
    (score : List ℕ → List ℕ) (words : List (List ℕ)) (status : ℕ) (work : Work R K I P D N L)
    (complaint : StreamChange F) : Type 0 where
  pub outcome : CommandOutcome
  pub status_is : status ≡ status_of outcome
  pub cause : HasCauseIn (causes_of disk work) outcome
  pub preface : List ℕ
  pub does : DoesWords disk link score words preface outcome work
  pub folders : OnlyForArchives words work.folders
  pub complained : Attempts complaint (preface ++ outcome_line outcome)

-- The same of what a run is lent, but for the clock and the terminal, from before it to behind it, by the
-- members of that.
abbrev pub Ran : {R K F I P D G E N L C T : Type 0} → SourceOf R → SinkOf K → SinkOf F → FilesOf I
    → PartsOf P D → FoldersOf G E → DialerOf N L → DiskOf D → LinkOf L → (score : List ℕ → List ℕ)
    → (words : List (List ℕ)) → (status : ℕ) → (before after : Outside R K F I P N G C T) → Type 0
Ran source sink fault_sink files parts folders dialer disk link score words status before after =
    Did disk link score words status (work_of source sink files parts folders dialer link before after)
    (sink_change fault_sink before.fault_sink after.fault_sink)
