-- A rehearsal: what becomes of a store and of the plain list beside it, round by round.
use Rattle.std.specs.Prelude.{◌≡◌, ◌⊎◌, ◌↔◌, ℕ, zero, suc, ◌+◌, ◌-◌, ◌<◌, ◌≤◌, Bool, true, false, IsTrue, if◌then◌else◌, List, [], ◌∷◌, ◌++◌, length, take}
use Rattle.std.specs.List.{Contains}
use Rattle.vt_base.specs.declared.answer.Said.{Said}
use Rattle.vt_base.specs.declared.answer.Said.TheVariants.{Score, Block, Synced, Refused}
use Rattle.vt_base.specs.declared.why.Why.TheVariants.{Absent}
use Rattle.vt_base.specs.declared.operation.Operation.{Operation as Asked}
use Rattle.vt_base.specs.Operations.{operation_of}
use Rattle.vt_base.specs.Protocol.{Operation, read, write, sync}
use Rattle.vt_base.specs.declared.TheConstants.{MAX_BLOCK}
use Rattle.vt_disk.specs.Members.{DiskOf}
use Rattle.vt_memdisk.specs.declared.crash.CrashMode.{CrashMode}
use Rattle.vt_core.specs.declared.event.Event.{Event}
use Rattle.vt_core.specs.declared.event.Event.TheVariants.{Ask, Answer as AskAnswer, LogAdvance, FileBegin, FileAdvance, EvictLump, EvictIndex}
use Rattle.vt_core.specs.declared.event.Out.{Out}
use Rattle.vt_core.specs.declared.event.Out.TheVariants.{Said as SaidOut, Waits, Moved}
use Rattle.vt_core.specs.Core.{CoreState, history_len}
use Rattle.vt_core.specs.Steps.{Runs, Steps}
use Rattle.vt_rehearse.specs.declared.rounds.Round.{Round}
use Rattle.vt_rehearse.specs.declared.rounds.Round.TheVariants.{Write, Read, Sync, Commit, Begin, Advance, Evict, Crash}
use Rattle.vt_rehearse.specs.Crashed.{Restarts}
use Rattle.vt_rehearse.specs.Counts.{with_compared, with_crash, with_events, with_read, with_synced, with_write}
use Rattle.vt_rehearse.specs.Stage.{StageState}
use Rattle.vt_rehearse.specs.Words.{word_of}

-- ---- requests

-- a request for this operation
abbrev pub AsksForOperation : Operation → Asked → Type 0
AsksForOperation m request = operation_of request ≡ m

-- a session asks for something, at time 0
abbrev pub asked_by : (session : ℕ) → Asked → Event
asked_by session request = Ask session request 0

-- In the rehearsal it is compared whether this is so, and nothing else changes.
abbrev pub NotesWhether : {D : Type 0} → (right : Type 0) → (old new : StageState D) → Type 0
NotesWhether right old new = (is_right : Bool) × (IsTrue is_right ↔ right)
    × (new ≡ record old { summary = with_compared is_right old.summary })

-- the store says this
pub record StoreTells {D : Type 0} (score : List ℕ → List ℕ) (disk : DiskOf D) (event : Event)
    (said : Said) (old new : CoreState D) : Type 0 where
  pub at : ℕ
  pub steps : Steps score disk event (SaidOut (record { said = said; at = at })) old new

-- ---- a write

-- The store says a word's score, before which it had so many blocks, and behind which so many. It
-- held the word exactly where the list has it, and else takes it in.
abbrev pub IsWritten : (own : List ℕ) → (word : ℕ) → (listed : List ℕ) → (is_held : Bool) → Said
    → (before after : ℕ) → Type 0
IsWritten own word listed is_held said before after = (said ≡ Score (record { 0 = own }))
    × ((Contains listed word × (is_held ≡ true) × (after ≡ before))
    ⊎ ((¬ Contains listed word) × (is_held ≡ false) × (after ≡ before + 1)))

-- A session writes a word, and is answered at once: there is room for all words.
pub record AsksToWrite {D : Type 0} (score : List ℕ → List ℕ) (disk : DiskOf D)
    (session word : ℕ) (listed : List ℕ) (is_held : Bool) (old new : CoreState D) : Type 0 where
  pub request : Asked
  pub is_for : AsksForOperation (write 13 (word_of word)) request
  pub said : Said
  pub tells : StoreTells score disk (asked_by session request) said old new
  pub as_listed : IsWritten (score (word_of word)) word listed is_held said (history_len old)
      (history_len new)

-- a word that was taken in goes to the end of the list
abbrev pub listed_after : (is_held : Bool) → (word : ℕ) → List ℕ → List ℕ
listed_after is_held word listed = if is_held then listed else listed ++ word ∷ []

-- what is said is compared, and counted
pub record WritesWord {D : Type 0} (score : List ℕ → List ℕ) (disk : DiskOf D)
    (session word : ℕ) (old new : StageState D) : Type 0 where
  pub is_held : Bool
  pub writes : AsksToWrite score disk session word old.listed is_held old.core new.core
  pub same : new ≡ record {
    core = new.core;
    listed = listed_after is_held word old.listed;
    summary = with_write is_held (with_compared true old.summary);
  }

-- ---- a read

-- A word is found exactly where the list has it.
abbrev pub IsWordRead : (word : ℕ) → (listed : List ℕ) → (is_found : Bool) → Said → Type 0
IsWordRead word listed is_found said =
    (Contains listed word × (is_found ≡ true) × (said ≡ Block (word_of word)))
    ⊎ ((¬ Contains listed word) × (is_found ≡ false) × (said ≡ Refused Absent))

-- a session reads the block of a word, and finds it or not, which the plain list says too
pub record ReadsWord {D : Type 0} (score : List ℕ → List ℕ) (disk : DiskOf D)
    (session word : ℕ) (listed : List ℕ) (is_found : Bool) (old new : CoreState D) : Type 0 where
  pub request : Asked
  pub is_for : AsksForOperation (read (score (word_of word)) 13 MAX_BLOCK) request
  pub said : Said
  pub tells : StoreTells score disk (asked_by session request) said old new
  pub as_listed : IsWordRead word listed is_found said

-- what is said is compared
pub record LooksUpWord {D : Type 0} (score : List ℕ → List ℕ) (disk : DiskOf D)
    (session word : ℕ) (is_found : Bool) (old new : StageState D) : Type 0 where
  pub reads : ReadsWord score disk session word old.listed is_found old.core new.core
  pub same : new ≡ record old { core = new.core; summary = with_compared true old.summary }

-- in a round it is counted, too
pub record CountsRead {D : Type 0} (score : List ℕ → List ℕ) (disk : DiskOf D)
    (session word : ℕ) (old new : StageState D) : Type 0 where
  pub is_found : Bool
  pub reads : ReadsWord score disk session word old.listed is_found old.core new.core
  pub same : new ≡ record old {
    core = new.core;
    summary = with_read is_found (with_compared true old.summary);
  }

-- ---- a sync

-- the log made so many device calls, each while not all blocks were durable
abbrev pub CommitsAll : {D : Type 0} → (List ℕ → List ℕ) → DiskOf D → (calls : ℕ)
    → (old new : CoreState D) → Type 0
CommitsAll score disk zero old new = new ≡ old
CommitsAll {D} score disk (suc calls) old new = (moved : CoreState D)
    × (old.log.durable < history_len old) × Steps score disk LogAdvance Moved old moved
    × CommitsAll score disk calls moved new

-- a session waits, the log makes all blocks durable, and the session is told so
pub record SyncsSession {D : Type 0} (score : List ℕ → List ℕ) (disk : DiskOf D) (session : ℕ)
    (old new : StageState D) : Type 0 where
  pub request : Asked
  pub is_for : AsksForOperation sync request
  pub waiting : CoreState D
  pub waits : Steps score disk (asked_by session request) Waits old.core waiting
  pub calls : ℕ
  pub durable : CoreState D
  pub commits : CommitsAll score disk calls waiting durable
  pub all : durable.log.durable ≡ history_len durable
  pub tells : Steps score disk (AskAnswer session)
      (SaidOut (record { said = Synced; at = length old.listed })) durable new.core
  pub same : new ≡ record old {
    core = new.core;
    summary = with_synced (with_compared true (with_events (calls + 2) old.summary));
  }

-- ---- the store's own work, and crashes

-- these events, whatever they give
pub record RunsEvents {D : Type 0} (score : List ℕ → List ℕ) (disk : DiskOf D) (events : List Event)
    (old new : StageState D) : Type 0 where
  pub outs : List Out
  pub runs : Runs score disk events outs old.core new.core
  pub same : new ≡ record old {
    core = new.core;
    summary = with_events (length events) old.summary;
  }

-- All devices crash at once, and what is left of each is of this mode. The store that is mounted on
-- that has each synced block, and the list is cut to the blocks that it has.
pub record CrashesIn {D : Type 0} (score : List ℕ → List ℕ) (disk : DiskOf D)
    (Leaves : CrashMode → D → List ℕ → Type 0) (mode : CrashMode) (old new : StageState D)
    : Type 0 where
  pub restarts : Restarts score disk Leaves mode old.core new.core
  pub keeps : old.core.synced ≤ history_len new.core
  pub within : history_len new.core ≤ length old.listed
  pub listed : new.listed ≡ take (history_len new.core) old.listed
  pub counts : new.summary ≡ with_crash (length old.listed - history_len new.core)
      (with_compared true old.summary)

-- ---- rounds

-- what a round does
abbrev pub MakesRound : {D : Type 0} → (List ℕ → List ℕ) → DiskOf D
    → (Leaves : CrashMode → D → List ℕ → Type 0) → Round → (old new : StageState D) → Type 0
MakesRound score disk Leaves (Write session word) old new =
    WritesWord score disk session word old new
MakesRound score disk Leaves (Read session word) old new =
    CountsRead score disk session word old new
MakesRound score disk Leaves (Sync session) old new = SyncsSession score disk session old new
MakesRound score disk Leaves Commit old new = RunsEvents score disk (LogAdvance ∷ []) old new
MakesRound score disk Leaves (Begin shard) old new =
    RunsEvents score disk (FileBegin shard ∷ []) old new
MakesRound score disk Leaves (Advance shard) old new =
    RunsEvents score disk (FileAdvance shard ∷ []) old new
MakesRound score disk Leaves (Evict shard) old new =
    RunsEvents score disk (EvictLump shard ∷ EvictIndex shard ∷ []) old new
MakesRound score disk Leaves (Crash mode) old new = CrashesIn score disk Leaves mode old new

-- rounds one after another
abbrev pub MakesAll : {D : Type 0} → (List ℕ → List ℕ) → DiskOf D
    → (Leaves : CrashMode → D → List ℕ → Type 0) → List Round → (old new : StageState D) → Type 0
MakesAll score disk Leaves [] old new = new ≡ old
MakesAll {D} score disk Leaves (round ∷ rounds) old new = (mid : StageState D)
    × MakesRound score disk Leaves round old mid × MakesAll score disk Leaves rounds mid new

-- words looked up one after another
abbrev pub LooksUpAll : {D : Type 0} → (List ℕ → List ℕ) → DiskOf D → (words : List ℕ)
    → (old new : StageState D) → Type 0
LooksUpAll score disk [] old new = new ≡ old
LooksUpAll {D} score disk (word ∷ words) old new = (mid : StageState D)
    × ((is_found : Bool) × LooksUpWord score disk 0 word is_found old mid)
    × LooksUpAll score disk words mid new
