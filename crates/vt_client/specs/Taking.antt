-- The parts of what is taken: so many bytes, one frame, and a line.
use Rattle.std.specs.Prelude.{ℕ, ◌≡◌, ◌≢◌, ◌⊎◌, ◌<◌, ◌≤◌, ⊤, Bool, true, false, Result, Ok, Err, List, [], ◌∷◌, ◌++◌, length, take}
use Rattle.std.specs.List.{All}
use Rattle.vt_base.specs.Protocol.{TMessage, RMessage}
use Rattle.vt_wire.specs.Awaited.{IsWrongAt}
use Rattle.vt_wire.specs.Frames.{IsFrame, IsPartial}
use Rattle.vt_wire.specs.Lines.{line_of}
use Rattle.vt_wire.specs.declared.line.Line.{Line}
use Rattle.vt_wire.specs.declared.line.Line.TheVariants.{Whole, More, Bad}
use Rattle.vt_wire.specs.declared.line.TheConstants.{MAX_LINE}
use Rattle.vt_wire.specs.Messages.{asked}
use Rattle.vt_client.specs.declared.error.ClientErr.{ClientErr}
use Rattle.vt_client.specs.declared.error.ClientErr.TheVariants as errs
use Rattle.vt_client.specs.Exchanges.{Traffic, MovesBytes, Wanted, JudgesReply, FailsWithoutReply, IsWantedReply, awaited}
use Rattle.vt_client.specs.Greetings.{OffersVersion, LacksVersion}

-- the link failed while bytes were taken, or they ended
abbrev pub IsOfTaking : ClientErr → Type 0
IsOfTaking errs.ReadFault = ⊤
IsOfTaking errs.Cut = ⊤
IsOfTaking errs.WriteFault = ⊥
IsOfTaking (errs.BadReply place) = ⊥
IsOfTaking (errs.Remote text) = ⊥
IsOfTaking (errs.WrongScore want found) = ⊥
IsOfTaking errs.NoVersion = ⊥
IsOfTaking errs.Spent = ⊥
IsOfTaking errs.NoMemory = ⊥

-- The link failed while bytes were taken, or they ended, or the request wasn't written.
abbrev pub IsOfExchange : ClientErr → Type 0
IsOfExchange errs.ReadFault = ⊤
IsOfExchange errs.Cut = ⊤
IsOfExchange errs.WriteFault = ⊤
IsOfExchange (errs.BadReply place) = ⊥
IsOfExchange (errs.Remote text) = ⊥
IsOfExchange (errs.WrongScore want found) = ⊥
IsOfExchange errs.NoVersion = ⊥
IsOfExchange errs.Spent = ⊥
IsOfExchange errs.NoMemory = ⊥

-- Why a greeting ends at the line: the link failed while bytes were taken, or they ended, or the
-- line that came doesn't do.
abbrev pub IsOfLine : ClientErr → Type 0
IsOfLine errs.ReadFault = ⊤
IsOfLine errs.Cut = ⊤
IsOfLine errs.NoVersion = ⊤
IsOfLine errs.WriteFault = ⊥
IsOfLine (errs.BadReply place) = ⊥
IsOfLine (errs.Remote text) = ⊥
IsOfLine (errs.WrongScore want found) = ⊥
IsOfLine errs.Spent = ⊥
IsOfLine errs.NoMemory = ⊥

-- the text of an Rerror, or want of memory for it
abbrev pub IsRemote : (text : List ℕ) → ClientErr → Type 0
IsRemote text err = (err ≡ errs.Remote text) ⊎ (err ≡ errs.NoMemory)

-- where what comes in ended, nothing is left of it
abbrev pub EndsWithNothingLeft : (after : Traffic) → ClientErr → Type 0
EndsWithNothingLeft after err = err ≡ errs.Cut → after.left ≡ []

-- fewer bytes came than were to come
pub record Stops (len : ℕ) (before after : Traffic) (err : ClientErr) : Type 0 where
  pub part : List ℕ
  pub few : length part < len
  pub moves : MovesBytes before after [] part
  pub ends : EndsWithNothingLeft after err

-- so many bytes came in, and nothing went out
abbrev pub TakesInAll : (len : ℕ) (before after : Traffic) (taken : List ℕ)
    → Result (Unit {0}) ClientErr → Type 0
TakesInAll len before after taken (Ok done) = MovesBytes before after [] taken
TakesInAll len before after taken (Err err) = Stops len before after err

-- one byte came in, or none
abbrev pub TakesByte : (before after : Traffic) → Result ℕ ClientErr → Type 0
TakesByte before after (Ok byte) = MovesBytes before after [] (byte ∷ [])
TakesByte before after (Err err) = MovesBytes before after [] [] × EndsWithNothingLeft after err

-- less than a frame came in
pub record StopsInFrame (before after : Traffic) (err : ClientErr) : Type 0 where
  pub part : List ℕ
  pub partial : IsPartial part
  pub moves : MovesBytes before after [] part
  pub ends : EndsWithNothingLeft after err

-- one frame came in, at the front of a buffer, and nothing went out
abbrev pub TakesFrame : (before after : Traffic) (buf : List ℕ) → Result ℕ ClientErr → Type 0
TakesFrame before after buf (Ok n) = MovesBytes before after [] (take n buf)
TakesFrame before after buf (Err err) = StopsInFrame before after err

-- the request went out, and one frame came in, at the front of a buffer
abbrev pub TakesAnswer : (before after : Traffic) (tag : ℕ) (m : TMessage) (buf : List ℕ)
    → Result ℕ ClientErr → Type 0
TakesAnswer before after tag m buf (Ok n) = MovesBytes before after (asked tag m) (take n buf)
TakesAnswer before after tag m buf (Err err) = FailsWithoutReply before after tag m err

-- What a frame comes to that came for the reply: it is the reply, which is judged, or something is
-- wrong in it.
abbrev pub ReadsReplyFrame : {T : Type 0} → (score_of : List ℕ → List ℕ) → (tag : ℕ) → Wanted T
    → (frame : List ℕ) → Result T ClientErr → Type 0
ReadsReplyFrame score_of tag w frame result =
    ((reply : RMessage) × IsWantedReply tag (awaited w.request) reply frame
    × JudgesReply score_of w reply result)
    ⊎ ((place : ℕ) × (result ≡ Err (errs.BadReply place))
    × ((body : List ℕ) → IsFrame frame body → IsWrongAt tag (awaited w.request) body place))

-- less than a line came in
pub record StopsInLine (before after : Traffic) (err : ClientErr) : Type 0 where
  pub part : List ℕ
  pub partial : line_of part ≡ More
  pub moves : MovesBytes before after [] part
  pub ends : EndsWithNothingLeft after err

-- Whether a line is whole, and offers version 02.
abbrev pub offers_version : Line → Bool
offers_version (Whole len has) = has
offers_version More = false
offers_version (Bad place) = false

-- the other side's line came in, and nothing went out
abbrev pub TakesLine : (before after : Traffic) → Result (Unit {0}) ClientErr → Type 0
TakesLine before after (Ok done) =
    (line : List ℕ) × OffersVersion true line × MovesBytes before after [] line
TakesLine before after (Err errs.NoVersion) =
    (line : List ℕ) × LacksVersion line × MovesBytes before after [] line
TakesLine before after (Err err) = StopsInLine before after err

-- these are the bytes of a line up to a newline, or so many that it is too long
pub record EndsLine (line : List ℕ) : Type 0 where
  pub front : List ℕ
  pub last : ℕ
  pub is : line ≡ front ++ last ∷ []
  pub plain : All (λ b. b ≢ 10) front
  pub short : length front ≤ MAX_LINE
  pub whole : (last ≡ 10) ⊎ (length front ≡ MAX_LINE)

-- such bytes came in, at the front of a buffer, and nothing went out
abbrev pub TakesToNewline : (before after : Traffic) (buf : List ℕ) → Result ℕ ClientErr → Type 0
TakesToNewline before after buf (Ok n) = MovesBytes before after [] (take n buf)
TakesToNewline before after buf (Err err) = StopsInLine before after err
