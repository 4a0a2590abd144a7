-- A session over a link: what comes in is heard as it comes, and answered over a store.
use Rattle.std.specs.Prelude.{ℕ, ◌≡◌, ◌+◌, ◌-◌, ◌*◌, ◌<◌, ◌⊎◌, ◌++◌, ⊤, Option, Some, None, List, [], length, drop, Result, Ok, Err}
use Rattle.vt_base.specs.Bytes.{AreBytes}
use Rattle.vt_base.specs.Faults.{HasRisen}
use Rattle.vt_base.specs.declared.why.Failed.{Failed}
use Rattle.vt_base.specs.declared.why.Why.{Why}
use Rattle.vt_model.specs.History.{History}
use Rattle.vt_session.specs.declared.Ended.{Ended}
use Rattle.vt_session.specs.declared.Ended.TheVariants.{Goodbye, Closed, Cut, Malformed, Spent, ReadFault, WriteFault}
use Rattle.vt_session.specs.Heard.{Item, Heard}
use Rattle.vt_session.specs.Turns.{Turn, items_of_turns, said_pieces, causes_of, first_why}
use Rattle.vt_session.specs.Talk.{Carries, EndsInLast, spent_len}
use Rattle.vt_session.specs.Talking.{Stage, HearsStage, stage_with, IsOpen, unheard_len, Talking, fed}
use Rattle.vt_session.specs.Hearing.{MatchNext}
use Rattle.vt_session.specs.declared.parsed.Next.{Next}
use Rattle.vt_base.specs.Protocol.{RMessage}
use Rattle.vt_wire.specs.Messages.{spelled_reply}
use Rattle.vt_handler.specs.Clients.{tag_of, AreReplies}
use Rattle.vt_handler.specs.Members.{StoreOf}
use Rattle.vt_handler.specs.Sessions.{Spoken, AnswersItems}
use Rattle.vt_handler.specs.Taking.{TakesTurns}
use Rattle.vt_handler.specs.Writing.{WritesOut}

-- ---- a session's part

-- From one stage to another these bytes came in, and these items were heard, each of which was
-- answered.
pub record AdvancesStage {S : Type 0} (T : StoreOf S) (s s' : S) (old new : Spoken)
    (writes : (said : List ℕ) → Type 0) (stage stage' : Stage) (came : List ℕ) : Type 0 where
  pub items : List Item
  pub hears : (more : List ℕ) (later : List Item) (ended : Ended) → AreBytes more
      → HearsStage (stage_with stage' more) later ended
      → HearsStage (stage_with stage (came ++ more)) (items ++ later) ended
  pub answers : (h : History) → T.holds s h
      → AnswersItems T s s' h old.failure new.failure writes items
  pub said : List ℕ
  pub replies : AreReplies items said
  pub written : writes said

-- Of the input these bytes came in, where it tells them, and a talker was fed them; or none came.
pub record InputComes (tells : Type 0) (sent sent' left left' : List ℕ) (old new : Talking) : Type 0
  where
    pub came : List ℕ
    pub bytes : AreBytes came
    pub sent_is : tells → sent' ≡ sent ++ came
    pub left_is : tells → left ≡ came ++ left'
    pub new_is : ((came ≡ []) × (new ≡ old)) ⊎ ((new ≡ fed old came))

-- One step of a session: bytes came in, or none, and what was heard was answered; what was said
-- went out or waits.
pub record Goes {S V : Type 0} (T : StoreOf S) (tells : Type 0) (result : Result V Failed)
    (s s' : S) (old new : Spoken) (written written' sent sent' left left' : List ℕ)
    (talking talking' : Talking) : Type 0 where
  pub came : List ℕ
  pub bytes : AreBytes came
  pub sent_is : tells → sent' ≡ sent ++ came
  pub left_is : tells → left ≡ came ++ left'
  pub taken : talking'.taken ≡ talking.taken + length came
  pub advances : AdvancesStage T s s' old new
      (λ said. tells → WritesOut result written old.waiting written' new.waiting said)
      talking.stage talking'.stage came

-- one reply to what comes next, under its tag, waits behind what waited; the end has none
abbrev pub SaysNext : Next → (waiting waiting' : List ℕ) → Type 0
SaysNext next waiting waiting' =
    MatchNext next
    (λ item. (reply : RMessage) × (waiting' ≡ waiting ++ spelled_reply (tag_of item) reply))
    (λ ended. waiting' ≡ waiting)

-- The session ends so here: the input does it, or it can't go on and what came is closed or cut.
abbrev pub EndsSo : Ended → Stage → (taken : ℕ) → Type 0
EndsSo Goodbye stage taken = HearsStage stage [] Goodbye
EndsSo (Malformed place) stage taken = HearsStage stage [] (Malformed place)
EndsSo Closed stage taken = HearsStage stage [] Closed × (taken < spent_len)
EndsSo Cut stage taken = HearsStage stage [] Cut × (taken < spent_len)
EndsSo Spent stage taken = IsOpen stage × (taken ≡ spent_len)
EndsSo ReadFault stage taken = IsOpen stage × (taken < spent_len)
EndsSo ended stage taken = ⊥

-- The session ends so where nothing more comes.
abbrev pub EndsHere : Result (Option Ended) Failed → Talking → Type 0
EndsHere (Ok (Some ended)) talking = EndsSo ended talking.stage talking.taken
EndsHere result talking = ⊤

-- where the input was closed or cut, nothing is left of it
abbrev pub TookAll : Result (Option Ended) Failed → (left : List ℕ) → Type 0
TookAll (Ok (Some Closed)) left = left ≡ []
TookAll (Ok (Some Cut)) left = left ≡ []
TookAll result left = ⊤

-- nothing waits to be said where a read failed
abbrev pub AllSaid : Result (Option Ended) Failed → (waiting : List ℕ) → Type 0
AllSaid (Ok (Some ReadFault)) waiting = waiting ≡ []
AllSaid result waiting = ⊤

-- a count of failed reads rose where a session ended in a read fault, and only there
abbrev pub ReadCause : Ended → (old new : ℕ) → Type 0
ReadCause ReadFault old new = HasRisen old new
ReadCause ended old new = new ≡ old

-- a read fault is told only where a read of the link failed
abbrev pub ReadsSo : Result (Option Ended) Failed → (old new : ℕ) → Type 0
ReadsSo (Ok (Some ended)) old new = ReadCause ended old new
ReadsSo result old new = new ≡ old

-- how much a session may still take and hear
abbrev pub left_to_do : Talking → ℕ
left_to_do talking = 2 * (spent_len - talking.taken) + unheard_len talking.stage

-- Where a session goes on, less is left to do, so that serving ends.
abbrev pub LessIsLeft : Result (Option Ended) Failed → (old new : Talking) → Type 0
LessIsLeft (Ok None) old new = left_to_do new < left_to_do old
LessIsLeft result old new = ⊤

-- ---- a whole session

-- What was said to a link before it ended so. Where a write failed, the replies to some turns
-- weren't written, and the last that was written may be a part of a reply; something may be left to
-- hear.
abbrev pub SaysOver : Ended → (input : List ℕ) → (turns unsaid : List Turn) → (output : List ℕ)
    → Type 0
SaysOver WriteFault input turns unsaid output =
    (later : List Item) × (ended : Ended)
    × Heard input (items_of_turns (turns ++ unsaid) ++ later) ended
    × EndsInLast (said_pieces turns) output
SaysOver ended input turns unsaid output = (unsaid ≡ []) × Carries input output turns ended

-- What came over a link was answered over a store that held this history.
pub record AnswersLink {S : Type 0} (T : StoreOf S) (s s' : S) (h : History) (failure : Option Why)
    (input output : List ℕ) (ended : Ended) : Type 0 where
  pub turns : List Turn
  pub unsaid : List Turn
  pub says : SaysOver ended input turns unsaid output
  pub takes : TakesTurns T s s' h (turns ++ unsaid)
  pub failure_is : failure ≡ first_why (causes_of (turns ++ unsaid))

-- what came behind what was there before
abbrev pub since : (before after : List ℕ) → List ℕ
since before after = drop (length before) after

-- How a session ended: by itself, or a write failed.
abbrev pub ended_of : Result Ended Failed → Ended
ended_of (Ok ended) = ended
ended_of (Err failed) = WriteFault
