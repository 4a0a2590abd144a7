-- The command `read STORE SCORE TYPE`: one block of a store is printed (venti(8)).
use Rattle.std.specs.Prelude.{ℕ, ◌≡◌, ◌⊎◌, ⊤, false, IfOk, List, Result}
use Rattle.vt_base.specs.Protocol.{read, r_read}
use Rattle.vt_base.specs.ScoreText.{SpellsScore}
use Rattle.vt_base.specs.declared.TheConstants.{MAX_BLOCK}
use Rattle.vt_disk.specs.Members.{DiskOf}
use Rattle.vt_use.specs.PlaceAnswers.{answer_at}
use Rattle.vt_use.specs.Places.{UsesAt}
use Rattle.vt_use.specs.declared.used_at.StoreAt.{StoreAt}
use Rattle.vt_use.specs.declared.used_at.StoreAt.TheVariants.{Conf, Server}
use Rattle.vt_use.specs.declared.used_at.StoreError.{StoreError}
use Rattle.vt_use.specs.declared.used_at.UsedAt.{UsedAt}
use Rattle.vt_tree.specs.declared.error.BlockErr.{BlockErr}
use Rattle.vt_use.specs.OneBlock.{ReadsOne}
use Rattle.run_base.specs.declared.error.CommandError.{CommandError}
use Rattle.run_base.specs.declared.place.Place.{Place}
use Rattle.run_base.specs.declared.place.Place.TheVariants.{Memory, At}
use Rattle.run_base.specs.Blocks.{AsksMade, SaysNoScore, SaysNoType, SaysType, TellsBlock}
use Rattle.run_base.specs.Change.{StreamChange, DialerChange, FilesChange, NoneDialled, NoneHandedOut, PartsChange, UsesNoStore, UsesNothing}
use Rattle.run_base.specs.Errors.{CommandOutcome}
use Rattle.run_base.specs.Formatting.{RefusesWord}
use Rattle.run_base.specs.Members.{LinkOf}
use Rattle.run_base.specs.Places.{AtPlace}

-- The words of `read` are a score and a type.
pub record SaysBlock (score_word type_word s : List ℕ) (kind : ℕ) : Type 0 where
  pub score_is : SpellsScore s score_word
  pub type_is : SaysType type_word kind

-- The first of the words of `read` that isn't what it has to be, a score and a type.
abbrev pub SaysNoBlock : (score_word type_word : List ℕ) → CommandError → Type 0
SaysNoBlock score_word type_word failure =
    SaysNoScore score_word failure
    ⊎ (((s : List ℕ) × SpellsScore s score_word) × SaysNoType type_word failure)

-- ---- in memory

-- the store in memory was asked for a block
abbrev pub PrintsMade : {K : Type 0} → (List ℕ → List ℕ) → (s : List ℕ) → (kind : ℕ)
    → CommandOutcome
    → StreamChange K → Type 0
PrintsMade score s kind outcome sink = AsksMade score (read s kind MAX_BLOCK)
    (λ (bytes : List ℕ). r_read bytes) (λ (bytes : List ℕ). bytes) outcome sink

-- ---- at a configuration or a server

-- whatever a server sent, the block that is read of it has this score
abbrev pub IsScoredAt : StoreAt → (score : List ℕ → List ℕ) → (s : List ℕ)
    → Result (List ℕ) StoreError → Type 0
IsScoredAt (Conf conf) score s result = ⊤
IsScoredAt (Server address) score s result = IfOk result (λ (bytes : List ℕ). score bytes ≡ s)

-- The store at this place was asked for a block, and for nothing else, which was printed when it was
-- closed, or the link to it; or it is told why not.
pub record PrintsAt {P D N L K : Type 0} (score : List ℕ → List ℕ) (disk : DiskOf D)
    (link : LinkOf L) (file : List ℕ) (at : StoreAt) (s : List ℕ) (kind : ℕ)
    (outcome : CommandOutcome) (parts : PartsChange P D) (dialer : DialerChange N L)
    (sink : StreamChange K) : Type 0 where
  pub used : Result (UsedAt (Result (List ℕ) BlockErr)) StoreError
  pub uses : UsesAt score disk link at 0 false
      (λ output S act holds calls from to. ReadsOne kind s output calls) used parts dialer
  pub told : TellsBlock file at (λ (bytes : List ℕ). bytes) (answer_at used) outcome sink
  pub scored : IsScoredAt at score s (answer_at used)

-- ---- the command

-- a block of the store at this place was printed, or it is told why not
abbrev pub PrintsBlock : {P D N L K : Type 0} → (List ℕ → List ℕ) → DiskOf D → LinkOf L
    → (store s : List ℕ) → (kind : ℕ) → CommandOutcome → PartsChange P D → DialerChange N L
    → StreamChange K → Place → Type 0
PrintsBlock score disk link store s kind outcome parts dialer sink Memory =
    PrintsMade score s kind outcome sink × NoneHandedOut parts × NoneDialled dialer
PrintsBlock score disk link store s kind outcome parts dialer sink (At at) =
    PrintsAt score disk link store at s kind outcome parts dialer sink

-- What `read` does: its words were refused, or the block that they ask for was printed.
abbrev pub DoesRead : {I P D N L K : Type 0} → (List ℕ → List ℕ) → DiskOf D → LinkOf L
    → (store score_word type_word : List ℕ) → CommandOutcome → FilesChange I → PartsChange P D
    → DialerChange N L → StreamChange K → Type 0
DoesRead score disk link store score_word type_word outcome files parts dialer sink =
    RefusesWord (SaysNoBlock score_word type_word) outcome (UsesNothing files parts dialer sink)
    ⊎ ((s : List ℕ) × (kind : ℕ) × SaysBlock score_word type_word s kind
    × AtPlace store files (PrintsBlock score disk link store s kind outcome parts dialer sink)
    outcome (UsesNoStore parts dialer sink))
