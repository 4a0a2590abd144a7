-- The command `write STORE TYPE`: what comes in is one block of a store, whose score is printed
-- (venti(8)).
use Rattle.std.specs.Prelude.{ℕ, ◌≡◌, ◌⊎◌, ◌≤◌, ◌+◌, ◌++◌, true, IfOk, IsTrue, List, [], ◌∷◌, Result, Err, length}
use Rattle.hex.specs.Hex.{encode_lower}
use Rattle.vt_base.specs.Faults.{HasRisen}
use Rattle.vt_base.specs.Protocol.{write, r_write}
use Rattle.vt_base.specs.declared.TheConstants.{MAX_BLOCK}
use Rattle.vt_base.specs.declared.score.Score.{Score}
use Rattle.vt_base.specs.declared.why.Why.TheVariants.{TooBig}
use Rattle.vt_disk.specs.Members.{DiskOf}
use Rattle.vt_use.specs.PlaceAnswers.{answer_at}
use Rattle.vt_use.specs.Places.{UsesAt}
use Rattle.vt_use.specs.declared.used_at.StoreAt.{StoreAt}
use Rattle.vt_use.specs.declared.used_at.StoreError.{StoreError}
use Rattle.vt_use.specs.declared.used_at.UsedAt.{UsedAt}
use Rattle.vt_tree.specs.declared.error.BlockErr.{BlockErr}
use Rattle.vt_use.specs.OneBlock.{WritesOne}
use Rattle.run_base.specs.declared.error.CommandError.{CommandError}
use Rattle.run_base.specs.declared.error.CommandError.TheVariants.{NoMemory, ReadFault, Refused}
use Rattle.run_base.specs.declared.place.Place.{Place}
use Rattle.run_base.specs.declared.place.Place.TheVariants.{Memory, At}
use Rattle.run_base.specs.Blocks.{AsksMade, SaysNoType, SaysType, TellsBlock}
use Rattle.run_base.specs.Change.{StreamChange, DialerChange, FilesChange, IsUntouched, NoneDialled, NoneHandedOut, PartsChange, UsesNoStore, UsesNothing}
use Rattle.run_base.specs.Errors.{CommandOutcome}
use Rattle.run_base.specs.Formatting.{RefusesWord}
use Rattle.run_base.specs.Members.{LinkOf}
use Rattle.run_base.specs.Places.{AtPlace}

-- ---- what comes in

-- the source was read to its end, and that is one block
pub record TakesBlock {R : Type 0} (bytes : List ℕ) (source : StreamChange R) : Type 0 where
  pub short : length bytes ≤ MAX_BLOCK
  pub all : IsTrue source.tells → (source.old ≡ bytes) × (source.new ≡ [])
  pub quiet : source.faults' ≡ source.faults

-- as many bytes were read of the source
abbrev pub TakesFront : {R : Type 0} → (IsMany : ℕ → Type 0) → StreamChange R → Type 0
TakesFront IsMany source = IsTrue source.tells → (front : List ℕ) × IsMany (length front)
    × (source.old ≡ front ++ source.new)

-- Why none was: one byte more came than a block may have, and behind that nothing was read; a read
-- failed behind no more than a block; or memory ran out before anything was read.
abbrev pub TakesNone : {R : Type 0} → CommandError → StreamChange R → Type 0
TakesNone (Refused why) source =
    (why ≡ TooBig) × TakesFront (λ n. n ≡ MAX_BLOCK + 1) source × (source.faults' ≡ source.faults)
TakesNone ReadFault source =
    TakesFront (λ n. n ≤ MAX_BLOCK) source × HasRisen source.faults source.faults'
TakesNone NoMemory source = IsUntouched source
TakesNone failure source = ⊥

-- ---- what is done

-- the 40 digits of a score, in a line
abbrev pub score_line : Score → List ℕ
score_line score = encode_lower score.0 ++ 10 ∷ []

-- no block was taken, and nothing was written
pub record TakesNoBlock {R K : Type 0} (outcome : CommandOutcome) (source : StreamChange R)
    (sink : StreamChange K)
    : Type 0 where
  pub failure : CommandError
  pub takes : TakesNone failure source
  pub outcome_is : outcome ≡ Err failure
  pub unwritten : IsUntouched sink

-- ---- in memory

-- the store in memory was given this block
pub record GivesMade {K : Type 0} (score : List ℕ → List ℕ) (kind : ℕ) (bytes : List ℕ)
    (outcome : CommandOutcome) (sink : StreamChange K) : Type 0 where
  pub does : AsksMade score (write kind bytes) (λ (given : Score). r_write given.0) score_line
      outcome sink
  pub scored : IfOk does.result (λ (given : Score). given.0 ≡ score bytes)

-- ---- at a configuration or a server

-- The store at this place was given this block, and committed it, and its score was printed when it was
-- closed, or the link to it; or it is told why not. Whatever a server sent, that is the block's score.
pub record GivesTo {K P D N L : Type 0} (score : List ℕ → List ℕ) (disk : DiskOf D)
    (link : LinkOf L) (file : List ℕ) (at : StoreAt) (now kind : ℕ) (bytes : List ℕ)
    (outcome : CommandOutcome) (sink : StreamChange K) (parts : PartsChange P D)
    (dialer : DialerChange N L) : Type 0 where
  pub used : Result (UsedAt (Result Score BlockErr)) StoreError
  pub uses : UsesAt score disk link at now true (λ output S act holds calls from to.
      WritesOne score (record { kind = kind; bytes = bytes }) output calls) used parts dialer
  pub told : TellsBlock file at score_line (answer_at used) outcome sink
  pub scored : IfOk (answer_at used) (λ (given : Score). given.0 ≡ score bytes)

-- ---- the command

-- this block was written to the store at this place; `now` is the time that a clump was stamped with,
-- which no clause ties to a clock
abbrev pub WritesBlockTo : {K P D N L : Type 0} → (List ℕ → List ℕ) → DiskOf D → LinkOf L
    → (store : List ℕ) → (now kind : ℕ) → (bytes : List ℕ) → CommandOutcome → StreamChange K
    → PartsChange P D → DialerChange N L → Place → Type 0
WritesBlockTo score disk link store now kind bytes outcome sink parts dialer Memory =
    GivesMade score kind bytes outcome sink × NoneHandedOut parts × NoneDialled dialer
WritesBlockTo score disk link store now kind bytes outcome sink parts dialer (At at) =
    GivesTo score disk link store at now kind bytes outcome sink parts dialer

-- what came in was taken as one block, and it was written to the store at this place, or it is told why
-- not
pub record WritesTaken {R K P D N L : Type 0} (score : List ℕ → List ℕ) (disk : DiskOf D)
    (link : LinkOf L) (store : List ℕ) (kind : ℕ) (outcome : CommandOutcome)
    (source : StreamChange R) (sink : StreamChange K) (parts : PartsChange P D)
    (dialer : DialerChange N L) (place : Place) : Type 0 where
  pub bytes : List ℕ
  pub takes : TakesBlock bytes source
  pub now : ℕ
  pub writes : WritesBlockTo score disk link store now kind bytes outcome sink parts dialer place

-- no block was taken, no partition handed out, and no link made; or what came in was written to the
-- store at this place, or it is told why not
abbrev pub WritesInput : {R K P D N L : Type 0} → (List ℕ → List ℕ) → DiskOf D → LinkOf L
    → (store : List ℕ) → (kind : ℕ) → CommandOutcome → StreamChange R → StreamChange K
    → PartsChange P D → DialerChange N L → Place → Type 0
WritesInput score disk link store kind outcome source sink parts dialer place =
    (TakesNoBlock outcome source sink × NoneHandedOut parts × NoneDialled dialer)
    ⊎ WritesTaken score disk link store kind outcome source sink parts dialer place

-- What `write` does: its word was refused, or what came in was written as a block of its type.
abbrev pub DoesWrite : {R K I P D N L : Type 0} → (List ℕ → List ℕ) → DiskOf D → LinkOf L
    → (store type_word : List ℕ) → CommandOutcome → StreamChange R → StreamChange K → FilesChange I
    → PartsChange P D → DialerChange N L → Type 0
DoesWrite score disk link store type_word outcome source sink files parts dialer =
    RefusesWord (SaysNoType type_word) outcome
    (IsUntouched source × UsesNothing files parts dialer sink)
    ⊎ ((kind : ℕ) × SaysType type_word kind
    × AtPlace store files (WritesInput score disk link store kind outcome source sink parts dialer)
    outcome (IsUntouched source × UsesNoStore parts dialer sink))
