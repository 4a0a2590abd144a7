-- One block of a store: what the words of a command say of it, and what is told where it isn't read
-- or written.
use Rattle.std.specs.Prelude.{ℕ, ◌≡◌, ◌≤◌, ◌⊎◌, ⊤, IfErr, List, [], Result, Ok, Err, decimal}
use Rattle.vt_base.specs.Damage.{Differ}
use Rattle.vt_base.specs.Kind.{IsKind}
use Rattle.vt_base.specs.ScoreText.{SpellsScore, wrong_place}
use Rattle.vt_base.specs.Protocol.{Operation, RMessage}
use Rattle.vt_base.specs.declared.why.Why.{Why}
use Rattle.vt_base.specs.declared.why.Why.TheVariants as whys
use Rattle.vt_conf.specs.Numbers.{wrong_digit}
use Rattle.vt_model.specs.Answer.{answer}
use Rattle.vt_handler.specs.Serving.{answered, reply_in}
use Rattle.vt_use.specs.declared.used_at.StoreAt.{StoreAt}
use Rattle.vt_use.specs.declared.used_at.StoreAt.TheVariants as place
use Rattle.vt_use.specs.declared.used_at.StoreError.{StoreError}
use Rattle.vt_use.specs.declared.used_at.StoreError.TheVariants as stores
use Rattle.run_base.specs.declared.error.CommandError.{CommandError}
use Rattle.run_base.specs.declared.error.CommandError.TheVariants.{ArenasFull, BadNumber, BadScore, IndexFull, NoMemory, Refused, Server}
use Rattle.run_base.specs.Change.{StreamChange, FilesChange}
use Rattle.run_base.specs.Unopened.{IsOpenRefusal}
use Rattle.run_base.specs.Configurations.{ReadsNone}
use Rattle.run_base.specs.Errors.{CommandOutcome}
use Rattle.run_base.specs.Formatting.{Prints}
use Rattle.run_base.specs.Memory.{memory_setup}
use Rattle.run_base.specs.Served.{failure_for}

-- ---- words

-- the word is a number from 0 to 255
abbrev pub IsByte : (word : List ℕ) → ℕ → Type 0
IsByte word n = (n ≤ 255) × (word ≡ decimal n)

-- The word is the number of a block type.
abbrev pub SaysType : (word : List ℕ) → (kind : ℕ) → Type 0
SaysType word kind = IsByte word kind × IsKind kind

-- Why a word isn't the number of a block type: it is no number of 8 bits, or one of no type.
abbrev pub SaysNoType : (word : List ℕ) → CommandError → Type 0
SaysNoType word failure =
    (((n : ℕ) → ¬ IsByte word n) × (failure ≡ BadNumber (wrong_digit word)))
    ⊎ ((n : ℕ) × IsByte word n × ¬ IsKind n × (failure ≡ Refused whys.BadType))

-- why the word spells no score
abbrev pub SaysNoScore : (word : List ℕ) → CommandError → Type 0
SaysNoScore word failure =
    ((s : List ℕ) → ¬ SpellsScore s word) × (failure ≡ BadScore (wrong_place word))

-- ---- refusals

-- no configuration was read, and nothing else was done
pub record FindsNoConf {I : Type 0} (file : List ℕ) (outcome : CommandOutcome)
    (files : FilesChange I)
    (Idle : Type 0) : Type 0 where
  pub failure : CommandError
  pub outcome_is : outcome ≡ Err failure
  pub none : ReadsNone file failure files
  pub idle : Idle

-- why a store says no, or fails
abbrev pub refusal_for : Why → CommandError
refusal_for whys.IndexFull = IndexFull
refusal_for whys.ArenasFull = ArenasFull
refusal_for whys.BadType = Refused whys.BadType
refusal_for whys.TooBig = Refused whys.TooBig
refusal_for whys.TooSmall = Refused whys.TooSmall
refusal_for whys.Absent = Refused whys.Absent
refusal_for whys.Collision = Refused whys.Collision
refusal_for whys.DiskFault = failure_for whys.DiskFault
refusal_for (whys.Stopped call) = failure_for (whys.Stopped call)
refusal_for (whys.Damaged site want found) = failure_for (whys.Damaged site want found)
refusal_for whys.NoMemory = failure_for whys.NoMemory

-- Why a store at a place wasn't used, or what it said no for. That of a server isn't opened, and so
-- never told as unopened: for that stands want of memory, which tells of no fault.
abbrev pub IsStoreRefusal : (file : List ℕ) → StoreError → StoreAt → CommandError → Type 0
IsStoreRefusal file (stores.Unopened bad) (place.Conf conf) failure =
    IsOpenRefusal file conf bad failure
IsStoreRefusal file (stores.Unopened bad) (place.Server address) failure = failure ≡ NoMemory
IsStoreRefusal file (stores.Refused why) at failure = failure ≡ refusal_for why
IsStoreRefusal file (stores.Server bad) at failure = failure ≡ Server bad

-- the outcome is why a store at this place wasn't used, or what it said no for
abbrev pub TellsRefusal : (file : List ℕ) → StoreAt → StoreError → CommandOutcome → Type 0
TellsRefusal file at bad outcome =
    (failure : CommandError) × (outcome ≡ Err failure) × IsStoreRefusal file bad at failure

-- what came of it is printed, or it is told why not; then nothing is printed
abbrev pub TellsBlock : {K T : Type 0} → (file : List ℕ) → StoreAt → (text : T → List ℕ)
    → Result T StoreError → CommandOutcome → StreamChange K → Type 0
TellsBlock file at text (Ok value) outcome sink = Prints (text value) outcome sink
TellsBlock file at text (Err bad) outcome sink =
    TellsRefusal file at bad outcome × (sink.after ≡ sink.before)

-- ---- in memory

-- The answer is the model's over the store in memory, which has no block, or want of memory.
abbrev pub AnswersOfEmptyStore : (score : List ℕ → List ℕ) → Operation → Result RMessage Why
    → Type 0
AnswersOfEmptyStore score m reply =
    (reply_in reply ≡ (answer score memory_setup [] m).reply) ⊎ (reply ≡ Err whys.NoMemory)

-- Why the store in memory may fail: no call of a disk fails, and where it is damaged, two values
-- differ.
abbrev pub FailsInMemory : Why → Type 0
FailsInMemory whys.DiskFault = ⊥
FailsInMemory (whys.Stopped call) = ⊥
FailsInMemory (whys.Damaged site want found) = Differ want found
FailsInMemory why = ⊤

-- what came of it is printed, or it is told why not; then nothing is printed
abbrev pub TellsMade : {K T : Type 0} → (text : T → List ℕ) → Result T Why → CommandOutcome
    → StreamChange K
    → Type 0
TellsMade text (Ok value) outcome sink = Prints (text value) outcome sink
TellsMade text (Err why) outcome sink =
    (outcome ≡ Err (refusal_for why)) × (sink.after ≡ sink.before)

-- the store in memory was asked this, and what it answered was told
pub record AsksMade {K T : Type 0} (score : List ℕ → List ℕ) (m : Operation)
    (message : T → RMessage) (text : T → List ℕ) (outcome : CommandOutcome) (sink : StreamChange K)
    : Type 0
  where
    pub result : Result T Why
    pub answers : AnswersOfEmptyStore score m (answered message result)
    pub fails : IfErr result FailsInMemory
    pub told : TellsMade text result outcome sink
