-- A whole connection with the view of an archive (9P2000, intro(5)): what came in, what went out,
-- and how it ended.
use Rattle.std.specs.Prelude.{ℕ, ◌≡◌, ◌≢◌, ◌+◌, ◌<◌, ◌≤◌, ◌⊎◌, ◌++◌, ⊤, Option, None, Result, Ok, Err, List, [], ◌∷◌, length, map}
use Rattle.std.specs.List.{flat_map}
use Rattle.std.specs.Option.{option_or}
use Rattle.byteorder.specs.Endian.{little_number}
use Rattle.vt_base.specs.Faults.{HasRisen}
use Rattle.vt_session.specs.Talk.{spent_len, EndsInLast}
use Rattle.vt_tree.specs.Calls.{Call}
use Rattle.vt_tree.specs.Maps.{Maps}
use Rattle.vac_read.specs.declared.error.VacBad.{VacBad}
use Rattle.nine_wire.specs.Frames.{head_len}
use Rattle.nine_view.specs.declared.serving.Ended.{Ended}
use Rattle.nine_view.specs.declared.serving.Ended.TheVariants.{Closed, Cut, Malformed, Spent, ReadFault, WriteFault, NoMemory}
use Rattle.nine_view.specs.Known.{ViewState, limit}
use Rattle.nine_view.specs.Replies.{AnswersMessage}

-- ---- messages

-- a message that came in, its reply, what was known behind it, and why the archive failed, if it did
pub record MessageTurn : Type 0 where
  pub message : List ℕ
  pub said : List ℕ
  pub known : ViewState
  pub failure : Option VacBad

-- the bytes that came in turns, and those that were said
abbrev pub came_in : List MessageTurn → List ℕ
came_in turns = flat_map (λ turn. turn.message) turns

-- all bytes that went out in these turns
abbrev pub said_in : List MessageTurn → List ℕ
said_in turns = flat_map (λ turn. turn.said) turns

-- why the archive failed first, if it did
abbrev pub first_failure : List MessageTurn → Option VacBad
first_failure [] = None
first_failure (turn ∷ turns) = option_or turn.failure (first_failure turns)

-- the messages were answered one after another, each of them no longer than agreed, and nothing
-- else was done
abbrev pub AnswersInTurn : {S : Type 0} → (does : S → Call → S → Type 0)
    → (holds : S → Maps → Type 0)
    → (score_of : List ℕ → List ℕ) → (s : S) → ViewState → List MessageTurn → (s' : S) → ViewState
    → Type 0
AnswersInTurn does holds score_of s known [] s' known' = (s' ≡ s) × (known' ≡ known)
AnswersInTurn {S} does holds score_of s known (turn ∷ turns) s' known' =
    (length turn.message ≤ limit known)
    × ((next : S)
    × AnswersMessage does holds score_of s next known turn.known turn.message turn.said turn.failure
    × AnswersInTurn does holds score_of next turn.known turns s' known')

-- ---- how it ends

-- what the size field of a message says
abbrev pub message_size : List ℕ → ℕ
message_size bytes = little_number 4 bytes

-- no message has this size, where so many bytes are the most
abbrev pub IsNoSize : (limit size : ℕ) → Type 0
IsNoSize limit size = (size < head_len) ⊎ (limit < size)

-- the front of a message, which isn't whole; the size field counts once it is there
abbrev pub IsCutOff : (limit : ℕ) → List ℕ → Type 0
IsCutOff limit rest =
    (length rest < 4)
    ⊎ ((head_len ≤ message_size rest) × (message_size rest ≤ limit)
    × (length rest < message_size rest))

-- Behind the last message these bytes were taken, of which the first stands at this place, and so
-- it ended.
abbrev pub EndsSo : Ended → (limit place : ℕ) → (rest : List ℕ) → Type 0
EndsSo Closed limit place rest = (rest ≡ []) × (place < spent_len)
EndsSo Cut limit place rest =
    (rest ≢ []) × IsCutOff limit rest × (place + length rest < spent_len)
EndsSo (Malformed at) limit place rest =
    (at ≡ place) × (length rest ≡ 4) × IsNoSize limit (message_size rest)
-- as many bytes were taken as may be
EndsSo Spent limit place rest = IsCutOff limit rest × (place + length rest ≡ spent_len)
EndsSo ReadFault limit place rest = IsCutOff limit rest × (place + length rest < spent_len)
-- the write of the last reply failed
EndsSo WriteFault limit place rest = rest ≡ []
-- nothing was taken
EndsSo NoMemory limit place rest = (rest ≡ []) × (place ≡ 0)

-- all that was said went out; where a write failed, a part of the last reply, or all of it
abbrev pub GoesOut : Ended → List MessageTurn → (output : List ℕ) → Type 0
GoesOut WriteFault turns output = EndsInLast (map (λ turn. turn.said) turns) output
GoesOut ended turns output = output ≡ said_in turns

-- nothing was left where the input ended
abbrev pub IsAtEnd : Ended → (left : List ℕ) → Type 0
IsAtEnd Closed left = left ≡ []
IsAtEnd Cut left = left ≡ []
IsAtEnd ended left = ⊤

-- A count of failed reads rose where a connection ended in a read fault, and only there.
abbrev pub ReadCause : Ended → (old new : ℕ) → Type 0
ReadCause ReadFault old new = HasRisen old new
ReadCause ended old new = new ≡ old

-- the count of failed writes rose where a connection ended in a write fault, and only there
abbrev pub WriteCause : Ended → (old new : ℕ) → Type 0
WriteCause WriteFault old new = HasRisen old new
WriteCause ended old new = new ≡ old

-- What a call of one message does to the count of failed reads: it rose where the connection ended
-- in a read fault, and only there.
abbrev pub ReadsSo : {X : Type 0} → Result X Ended → (old new : ℕ) → Type 0
ReadsSo (Ok done) old new = new ≡ old
ReadsSo (Err ended) old new = ReadCause ended old new

-- What a call that may go on does to the count of failed writes: it stays where the call goes on;
-- else it rose where the connection ended in a write fault, and only there.
abbrev pub WritesSo : {X : Type 0} → Result X Ended → (old new : ℕ) → Type 0
WritesSo (Ok done) old new = new ≡ old
WritesSo (Err ended) old new = WriteCause ended old new

-- What came over a link was answered, and it ended so: of what was given and written before and
-- behind it, where the link tells that.
pub record ServesConnection {S : Type 0} (does : S → Call → S → Type 0) (holds : S → Maps → Type 0)
    (score_of : List ℕ → List ℕ) (s s' : S) (old new : ViewState) (tells : Type 0)
    (given given' written written' left' : List ℕ) (ended : Ended) (taken : ℕ)
    (failure : Option VacBad) : Type 0 where
  pub turns : List MessageTurn
  pub talks : AnswersInTurn does holds score_of s old turns s' new
  pub failure_is : failure ≡ first_failure turns
  pub rest : List ℕ
  pub ends : EndsSo ended (limit new) (length (came_in turns)) rest
  pub taken_is : taken ≡ length (came_in turns ++ rest)
  pub input : tells → given' ≡ given ++ (came_in turns ++ rest)
  pub output : List ℕ
  pub written_is : tells → written' ≡ written ++ output
  pub goes_out : GoesOut ended turns output
  pub at_end : tells → IsAtEnd ended left'

-- ---- one message

-- all that came was taken, or it ended at this place of the input
abbrev pub GoesOnOr : Result (Unit {0}) Ended → (limit place : ℕ) → (rest : List ℕ) → Type 0
GoesOnOr (Ok done) limit place rest = rest ≡ []
GoesOnOr (Err ended) limit place rest = EndsSo ended limit place rest

-- all that was to be said went out, or what did is as its end says
abbrev pub SaysAllOr : Result (Unit {0}) Ended → List MessageTurn → (output : List ℕ) → Type 0
SaysAllOr (Ok done) turns output = output ≡ said_in turns
SaysAllOr (Err ended) turns output = GoesOut ended turns output

-- Where a session ended at the input's end, nothing of that is left.
abbrev pub IsAtEndOr : Result (Unit {0}) Ended → (left : List ℕ) → Type 0
IsAtEndOr (Ok done) left = ⊤
IsAtEndOr (Err ended) left = IsAtEnd ended left

-- messages were answered, and it goes on, or it ended so
pub record Turns {S : Type 0} (does : S → Call → S → Type 0) (holds : S → Maps → Type 0)
    (score_of : List ℕ → List ℕ) (s s' : S) (old new : ViewState) (tells : Type 0)
    (given given' written written' left' : List ℕ) (taken taken' : ℕ)
    (failure failure' : Option VacBad) (result : Result (Unit {0}) Ended) : Type 0 where
  pub turns : List MessageTurn
  pub talks : AnswersInTurn does holds score_of s old turns s' new
  pub failure_is : failure' ≡ option_or failure (first_failure turns)
  pub rest : List ℕ
  pub ends : GoesOnOr result (limit new) (taken + length (came_in turns)) rest
  pub taken_is : taken' ≡ taken + length (came_in turns ++ rest)
  pub input : tells → given' ≡ given ++ (came_in turns ++ rest)
  pub output : List ℕ
  pub written_is : tells → written' ≡ written ++ output
  pub goes_out : SaysAllOr result turns output
  pub at_end : tells → IsAtEndOr result left'
