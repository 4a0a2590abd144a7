-- A whole link (venti(6)): what came in, what went out, which history answered, and how it ended.
use Rattle.std.specs.Prelude.{ℕ, ◌≡◌, ◌<◌, ◌≤◌, ◌^◌, ◌⊎◌, ⊤, List, [], ◌∷◌, ◌++◌, length, Contains}
use Rattle.vt_model.specs.History.{History}
use Rattle.vt_model.specs.Places.{Setup}
use Rattle.vt_session.specs.declared.Ended.{Ended}
use Rattle.vt_session.specs.declared.Ended.TheVariants.{Goodbye, Closed, Cut, Malformed, Spent, ReadFault, WriteFault, NoMemory}
use Rattle.vt_session.specs.Heard.{Item, Heard}
use Rattle.vt_model.specs.Causes.{Part, NoneFell}
use Rattle.vt_session.specs.Turns.{Turn, items_of_turns, output_of, said_pieces, causes_of}
use Rattle.vt_session.specs.Answered.{AnsweredBy, AnsweredAlone, Faults, AreToldBy}

-- how many bytes a link takes at most
abbrev pub spent_len : ℕ
spent_len = 2 ^ 62

-- the pieces were written in order, the last one in part or whole
abbrev pub EndsInLast : List (List ℕ) → List ℕ → Type 0
EndsInLast [] output = ⊥
EndsInLast (piece ∷ []) output = (unsaid : List ℕ) × (piece ≡ output ++ unsaid)
EndsInLast (piece ∷ next ∷ pieces) output =
    (rest : List ℕ) × (output ≡ piece ++ rest) × EndsInLast (next ∷ pieces) rest

-- everything that was taken was heard, and all of it was answered
abbrev pub HearsAll : List ℕ → List ℕ → List Turn → Ended → Type 0
HearsAll input output turns ended =
    Heard input (items_of_turns turns) ended × (output ≡ output_of turns)

-- Everything that was taken was heard and answered, and the input itself doesn't end the session.
abbrev pub BreaksOff : List ℕ → List ℕ → List Turn → Type 0
BreaksOff input output turns = HearsAll input output turns Closed ⊎ HearsAll input output turns Cut

-- The link's input and output carry these turns, and it ends so.
abbrev pub Carries : List ℕ → List ℕ → List Turn → Ended → Type 0
Carries input output turns Goodbye = HearsAll input output turns Goodbye
Carries input output turns Closed = HearsAll input output turns Closed × (length input < spent_len)
Carries input output turns Cut = HearsAll input output turns Cut × (length input < spent_len)
Carries input output turns (Malformed place) = HearsAll input output turns (Malformed place)
-- as many bytes were taken as may be
Carries input output turns Spent = BreaksOff input output turns × (length input ≡ spent_len)
-- a read failed behind what was taken
Carries input output turns ReadFault = BreaksOff input output turns × (length input < spent_len)
-- a write failed: that of the last turn's reply, or of the server's line where there is no turn;
-- what came behind that frame isn't looked at
Carries input output turns WriteFault =
    (later : List Item) × (ended : Ended) × Heard input (items_of_turns turns ++ later) ended
    × EndsInLast (said_pieces turns) output
-- nothing was answered or written
Carries input output turns NoMemory = (turns ≡ []) × (output ≡ [])

-- The link's bytes are a talk of history h, over a while in which the store's parts tell of these
-- faults: its operations have numbers from n0 to n1.
pub record Talk (score : List ℕ → List ℕ) (c : Setup) (faults : Faults) (h : History) (n0 : ℕ)
    (input output : List ℕ) (turns : List Turn) (ended : Ended) (n1 : ℕ) : Type 0 where
  pub carried : Carries input output turns ended
  pub taken : length input ≤ spent_len
  pub answered : AnsweredBy score c h n0 n1 turns
  pub failures : AreToldBy faults (causes_of turns)
  pub rising : n0 ≤ n1
  pub within : n1 ≤ length h

-- ---- a talk that goes on

-- What a link was told so far: these turns are answered from history h, over a while in which the
-- store's parts tell of these faults, and its operations have numbers from n0 to n1.
pub record TalkSoFar (score : List ℕ → List ℕ) (c : Setup) (faults : Faults) (h : History) (n0 : ℕ)
    (turns : List Turn) (n1 : ℕ) : Type 0 where
  pub answered : AnsweredBy score c h n0 n1 turns
  pub failures : AreToldBy faults (causes_of turns)
  pub rising : n0 ≤ n1
  pub within : n1 ≤ length h

-- one while comes behind another: no count fell between them, and a part that stopped stays stopped
pub record ComesBehind (first next : Faults) : Type 0 where
  pub counts : NoneFell first.after next.before
  pub stops : (stop : Part × ℕ) → Contains first.stops stop → Contains next.stops stop

-- what the parts tell of one while and then another
abbrev pub over_both : (first next : Faults) → Faults
over_both first next = record { before = first.before; after = next.after; stops = next.stops }

-- ---- a link to which nobody else adds

-- A link's bytes are answered by one history, to which nobody else adds blocks, from history
-- `before` to history `after`.
pub record Alone (score : List ℕ → List ℕ) (c : Setup) (faults : Faults) (before : History)
    (input output : List ℕ) (turns : List Turn) (ended : Ended) (after : History) : Type 0 where
  pub carried : Carries input output turns ended
  pub taken : length input ≤ spent_len
  pub answered : AnsweredAlone score c before turns after
  pub failures : AreToldBy faults (causes_of turns)

-- a link that ended so has answered everything that its input asks
abbrev pub AnswersAll : Ended → Type 0
AnswersAll WriteFault = ⊥
AnswersAll NoMemory = ⊥
AnswersAll ended = ⊤

-- The input of the link ended it.
abbrev pub EndsByInput : Ended → Type 0
EndsByInput Goodbye = ⊤
EndsByInput Closed = ⊤
EndsByInput Cut = ⊤
EndsByInput (Malformed place) = ⊤
EndsByInput ended = ⊥

-- What was taken of a source that had these bytes, and what it has left, where the link ended so:
-- nothing is left behind an end of input.
pub record Took (had input left : List ℕ) (ended : Ended) : Type 0 where
  pub parts : had ≡ input ++ left
  pub closed : ended ≡ Closed → left ≡ []
  pub cut : ended ≡ Cut → left ≡ []

-- scores have 20 bytes
abbrev pub HasScores : (List ℕ → List ℕ) → Type 0
HasScores score = (bytes : List ℕ) → length (score bytes) ≡ 20
