-- How a client begins (venti(6)): both sides say their line, and then the client a hello.
use Rattle.std.specs.Prelude.{ℕ, ◌≡◌, ⊤, ◌⊎◌, ◌<◌, Bool, true, false, None, Result, Ok, Err, List, [], ◌∷◌, ◌++◌, length, take, codes}
use Rattle.vt_base.specs.Protocol.{t_hello, r_hello}
use Rattle.vt_wire.specs.Lines.{line_of}
use Rattle.vt_wire.specs.declared.line.Line.{Line}
use Rattle.vt_wire.specs.declared.line.Line.TheVariants.{Whole, Bad, More}
use Rattle.vt_client.specs.declared.error.ClientErr.{ClientErr}
use Rattle.vt_client.specs.declared.error.ClientErr.TheVariants as errs
use Rattle.vt_client.specs.Exchanges.{Traffic, MovesBytes, Wanted, AnswersCall}

-- what this client says first
abbrev pub client_line : List ℕ
client_line = codes "venti-02-rattle" ++ 10 ∷ []

-- the hello, and its reply
abbrev pub welcome : Wanted (Unit {0})
welcome = record { request = t_hello (codes "02"); reply = λ done. r_hello; score = None }

-- these bytes are read so as a line, and any fewer of them are less than one
pub record IsLineSo (line : List ℕ) (what : Line) : Type 0 where
  pub read : line_of line ≡ what
  pub shortest : (n : ℕ) → n < length line → line_of (take n line) ≡ More

-- a line that offers version 02, or doesn't
abbrev pub OffersVersion : (has : Bool) (line : List ℕ) → Type 0
OffersVersion has line = (len : ℕ) × IsLineSo line (Whole len has)

-- What came is no line, or none that offers the version that this client speaks.
abbrev pub LacksVersion : (line : List ℕ) → Type 0
LacksVersion line = OffersVersion false line ⊎ ((place : ℕ) × IsLineSo line (Bad place))

-- the lines went over the link, of which the server's offers the version
pub record ExchangesLines (before after : Traffic) : Type 0 where
  pub line : List ℕ
  pub offers : OffersVersion true line
  pub moves : MovesBytes before after client_line line

-- this client's line went out, and less than a line came in
pub record TakesPartOfLine (before after : Traffic) : Type 0 where
  pub part : List ℕ
  pub partial : line_of part ≡ More
  pub moves : MovesBytes before after client_line part

-- the greeting ends at the lines; memory may have run out before anything was done
abbrev pub EndsAtLine : (before after : Traffic) → Result (Unit {0}) ClientErr → Type 0
EndsAtLine before after (Ok done) = ⊥
EndsAtLine before after (Err errs.ReadFault) = TakesPartOfLine before after
EndsAtLine before after (Err errs.WriteFault) =
    (n : ℕ) × MovesBytes before after (take n client_line) []
EndsAtLine before after (Err errs.Cut) = TakesPartOfLine before after × (after.left ≡ [])
EndsAtLine before after (Err errs.NoVersion) =
    (line : List ℕ) × LacksVersion line × MovesBytes before after client_line line
EndsAtLine before after (Err errs.NoMemory) = after ≡ before
EndsAtLine before after (Err (errs.Remote text)) = ⊥
EndsAtLine before after (Err (errs.WrongScore want found)) = ⊥
EndsAtLine before after (Err (errs.BadReply place)) = ⊥
EndsAtLine before after (Err errs.Spent) = ⊥

-- what a greeting may be refused for, whatever the link: nothing was asked for that has a score
abbrev pub MayEndGreeting : ClientErr → Type 0
MayEndGreeting (errs.WrongScore want found) = ⊥
MayEndGreeting errs.Spent = ⊥
MayEndGreeting errs.ReadFault = ⊤
MayEndGreeting errs.WriteFault = ⊤
MayEndGreeting errs.Cut = ⊤
MayEndGreeting (errs.BadReply place) = ⊤
MayEndGreeting errs.NoVersion = ⊤
MayEndGreeting (errs.Remote text) = ⊤
MayEndGreeting errs.NoMemory = ⊤

-- How a greeting goes: it ends at the lines, or the hello goes out behind them, under tag 0, and
-- is answered.
abbrev pub Greets : (score_of : List ℕ → List ℕ) → (before after : Traffic)
    → Result (Unit {0}) ClientErr → Type 0
Greets score_of before after result =
    EndsAtLine before after result
    ⊎ ((between : Traffic) × ExchangesLines before between
    × AnswersCall score_of 0 welcome between after result)
