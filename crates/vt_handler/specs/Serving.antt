-- How a store serves an operation: by the model's answer on a beginning of its history, or not.
use Rattle.std.specs.Prelude.{ℕ, ◌≡◌, ◌≤◌, ◌⊎◌, ⊤, min, Bool, IsTrue, if◌then◌else◌, Option, None, Some, List, [], ◌∷◌, ◌++◌, length, take, Result, Ok, Err}
use Rattle.std.specs.List.{Contains}
use Rattle.vt_base.specs.declared.TheConstants.{MAX_BLOCK}
use Rattle.vt_base.specs.declared.answer.Said.{Said}
use Rattle.vt_base.specs.declared.answer.Said.TheVariants.{Score, Block, Synced, Refused}
use Rattle.vt_base.specs.declared.why.Why.{Why}
use Rattle.vt_base.specs.declared.why.Why.TheVariants.{DiskFault, Stopped, Damaged, NoMemory}
use Rattle.vt_base.specs.Protocol.{Operation, ping, read, write, sync, RMessage, r_refused}
use Rattle.vt_model.specs.History.{History, Accepted}
use Rattle.vt_model.specs.Answer.{answer, with_added}
use Rattle.vt_model.specs.Causes.{Part, Cause, why_of, MayFail, OneRose}
use Rattle.vt_session.specs.Answered.{AreToldBy, IsAddedAt}
use Rattle.vt_handler.specs.Condition.{Condition, faults_over, IsNoDamage, IsNoFault}

-- Whether a refusal is told because the store failed, and not because the model refuses.
abbrev pub tells_failure : Why → Bool
tells_failure DiskFault = Bool.true
tells_failure (Stopped call) = Bool.true
tells_failure (Damaged site want found) = Bool.true
tells_failure NoMemory = Bool.true
tells_failure why = Bool.false

-- what an operation gave, as a message, or why it is refused
abbrev pub answered : {X : Type 0} → (X → RMessage) → Result X Why → Result RMessage Why
answered message (Ok x) = Ok (message x)
answered message (Err why) = Err why

-- what a store is asked for: no block has more bytes than a reader may ask for
abbrev pub asked_of_store : Operation → Operation
asked_of_store (read s kind count) = read s kind (min count MAX_BLOCK)
asked_of_store (write kind bytes) = write kind bytes
asked_of_store sync = sync
asked_of_store ping = ping

-- what may be said to an operation, whatever the store holds
abbrev pub Suits : (List ℕ → List ℕ) → Operation → Said → Type 0
Suits score_of m (Refused why) = ⊤
Suits score_of (read s kind count) (Block bytes) = length bytes ≤ count
Suits score_of (write kind bytes) (Score given) = given.0 ≡ score_of bytes
Suits score_of sync Synced = ⊤
Suits score_of m said = ⊥

-- the reply that says it
abbrev pub reply_in : Result RMessage Why → RMessage
reply_in (Ok reply) = reply
reply_in (Err why) = r_refused why

-- why the store failed, if it did
abbrev pub failure_of : {X : Type 0} → Result X Why → Option Why
failure_of (Ok x) = None
failure_of (Err why) = if tells_failure why then Some why else None

-- A history went on from `old` to `new`, by blocks that others added and by this one, if there is
-- one, which is block `number`. Where nobody else adds, it is the only one, and comes next.
pub record Lengthens (alone : Bool) (old new : History) (number : ℕ) (added : Option Accepted)
    : Type 0 where
  pub later : History
  pub new_is : new ≡ old ++ later
  pub low : length old ≤ number
  pub high : number ≤ length new
  pub stands : IsAddedAt new number added
  pub alone_is : IsTrue alone → (number ≡ length old) × (new ≡ with_added old added)

-- a sync is about durable blocks alone
abbrev pub IsOfDurable : Operation → (number durable : ℕ) → Type 0
IsOfDurable sync number durable = number ≤ durable
IsOfDurable operation number durable = ⊤

-- The reply is the model's on the first so many blocks of the history that the store holds now.
pub record AnswersAsModel (score_of : List ℕ → List ℕ) (c c' : Condition) (holds : History → Type 0)
    (old : History) (m : Operation) (reply : RMessage) : Type 0 where
  pub new : History
  pub number : ℕ
  pub holds_it : holds new
  pub reply_is : (answer score_of c.setup (take number new) m).reply ≡ reply
  pub lengthens : Lengthens c.alone old new number
      (answer score_of c.setup (take number new) m).added
  pub covered : IsOfDurable m number c'.durable
  pub stops : IsTrue c.alone → c'.stops ≡ c.stops

-- The store failed, for a cause that the operation may meet and that the store's parts tell of, and
-- added nothing. It isn't damage: it holds its history. Where it is alone, a part stops only where
-- a call failed.
pub record FailsForCause (score_of : List ℕ → List ℕ) (c c' : Condition) (holds : History → Type 0)
    (old : History) (m : Operation) (why : Why) : Type 0 where
  pub new : History
  pub number : ℕ
  pub cause : Cause
  pub holds_it : holds new
  pub why_is : why ≡ why_of cause
  pub may : MayFail score_of c.setup m cause
  pub told : AreToldBy (faults_over c c') (cause ∷ [])
  pub undamaged : IsNoDamage cause
  pub lengthens : Lengthens c.alone old new number None
  pub stops : IsTrue c.alone → IsNoFault cause → c'.stops ≡ c.stops

-- the model's answer was given, be it a refusal, or the store failed
abbrev pub ServesOperation : {X : Type 0} → (score_of : List ℕ → List ℕ) → (c c' : Condition)
    → (holds : History → Type 0) → History → Operation → (X → RMessage) → Result X Why → Type 0
ServesOperation score_of c c' holds h m message (Ok x) =
    AnswersAsModel score_of c c' holds h m (message x)
ServesOperation score_of c c' holds h m message (Err why) =
    ((tells_failure why ≡ Bool.false) × AnswersAsModel score_of c c' holds h m (r_refused why))
    ⊎ FailsForCause score_of c c' holds h m why

-- Whatever it holds: a disk fault is told only where a count of failed calls rose, and a stop only
-- of a part that has stopped.
abbrev pub TellsCause : {X : Type 0} → (c c' : Condition) → Result X Why → Type 0
TellsCause c c' (Ok x) = ⊤
TellsCause c c' (Err DiskFault) = OneRose c.faults c'.faults
TellsCause c c' (Err (Stopped call)) = (part : Part) × Contains c'.stops (part, call)
TellsCause c c' (Err why) = ⊤
