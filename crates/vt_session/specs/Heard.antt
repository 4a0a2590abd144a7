-- What a server hears: what is asked of it, in order, and how the input ends (venti(6)). A
-- session's own rules answer what needs no store.
use Rattle.std.specs.Prelude.{ℕ, ◌≡◌, ◌+◌, ◌&&◌, ◌||◌, Bool, true, false, if◌then◌else◌, Option, Some, None, MatchOption, List, [], ◌∷◌, length, drop, codes}
use Rattle.std.specs.Str.{bytes_eq}
use Rattle.vt_base.specs.Protocol.{Operation, TMessage, t_hello, t_goodbye, t_ask, RMessage, r_hello, r_error}
use Rattle.vt_wire.specs.Frames.{Splits, framed}
use Rattle.vt_wire.specs.Messages.{is_request_type, SpellsBody}
use Rattle.vt_wire.specs.Lines.{line_of}
use Rattle.vt_wire.specs.Rules.{rule_words}
use Rattle.vt_wire.specs.declared.protocol_cause.ProtocolCause.TheVariants.{HelloExpected, HelloRepeated, VersionNotAgreed, BadMessage, UnknownMessage}
use Rattle.vt_wire.specs.declared.line.Line.{Line}
use Rattle.vt_wire.specs.declared.line.Line.TheVariants.{Whole, More, Bad}
use Rattle.vt_session.specs.declared.Ended.{Ended}
use Rattle.vt_session.specs.declared.Ended.TheVariants.{Goodbye, Closed, Cut, Malformed}

-- a frame that is replied to, with its tag: its reply is settled by the session's rules, or the
-- store is asked
pub data Item : Type 0 where
  settled : (tag : ℕ) (reply : RMessage) → Item
  asked : (tag : ℕ) (operation : Operation) → Item

-- What a message comes to. A session begins with a hello of version 02, which the client's line
-- must offer; nothing but that, goodbye and refused messages may come before it. A goodbye has no
-- reply.
abbrev pub heard_item : Bool → Bool → ℕ → TMessage → Option Item
heard_item offered greeted tag t_goodbye = None
heard_item offered greeted tag (t_hello version) =
    if greeted then Some (settled tag (r_error (rule_words HelloRepeated)))
    else if offered && bytes_eq version (codes "02") then Some (settled tag r_hello)
    else Some (settled tag (r_error (rule_words VersionNotAgreed)))
heard_item offered greeted tag (t_ask operation) =
    if greeted then Some (asked tag operation)
    else Some (settled tag (r_error (rule_words HelloExpected)))

-- what a frame comes to: the first of these that applies
pub data Means (offered greeted : Bool) (type tag : ℕ) (parameters : List ℕ)
    : Option Item → Type 0 where
  unknown : is_request_type type ≡ false
      → Means offered greeted type tag parameters
      (Some (settled tag (r_error (rule_words UnknownMessage))))
  misspelled : is_request_type type ≡ true → ((m : TMessage) → SpellsBody m type parameters → ⊥)
      → Means offered greeted type tag parameters
      (Some (settled tag (r_error (rule_words BadMessage))))
  spelled : (m : TMessage) → SpellsBody m type parameters
      → Means offered greeted type tag parameters (heard_item offered greeted tag m)

-- from here on a hello has been accepted
abbrev pub greets : Item → Bool
greets (settled tag r_hello) = true
greets (settled tag reply) = false
greets (asked tag operation) = false

-- the end of the input: right behind a whole message or the line, or elsewhere
abbrev pub end_of : List ℕ → Ended
end_of [] = Closed
end_of (b ∷ bytes) = Cut

-- The frames with these bodies, of which the first stands at this place, and the rest behind them
-- are heard as these items and this end. A goodbye ends the session, and so does a size field below
-- 2; what stands behind isn't looked at.
abbrev pub Hears : Bool → Bool → ℕ → List (List ℕ) → List ℕ → List Item → Ended → Type 0
Hears offered greeted place [] rest items ended = (items ≡ []) × (ended ≡ end_of rest)
Hears offered greeted place ([] ∷ bodies) rest items ended =
    (items ≡ []) × (ended ≡ Malformed place)
Hears offered greeted place ((type ∷ []) ∷ bodies) rest items ended =
    (items ≡ []) × (ended ≡ Malformed place)
Hears offered greeted place ((type ∷ tag ∷ parameters) ∷ bodies) rest items ended =
    (meant : Option Item) × Means offered greeted type tag parameters meant
    × MatchOption meant ((items ≡ []) × (ended ≡ Goodbye))
    (λ item. (later : List Item) × (items ≡ item ∷ later)
    × Hears offered (greeted || greets item) (place + length (framed (type ∷ tag ∷ parameters)))
    bodies rest later ended)

-- what of an input is not heard yet: whether the line offered version 02, whether a hello was
-- accepted, and the bytes left, of which the first stands at this place
pub record Unheard : Type 0 where
  pub offered : Bool
  pub greeted : Bool
  pub place : ℕ
  pub bytes : List ℕ

-- the bytes left are heard as these items and this end
abbrev pub HearsRest : Unheard → List Item → Ended → Type 0
HearsRest left items ended =
    (bodies : List (List ℕ)) × (rest : List ℕ) × Splits left.bytes bodies rest
    × Hears left.offered left.greeted left.place bodies rest items ended

-- what stands behind a client's line
abbrev pub HearsBehind : List ℕ → Line → List Item → Ended → Type 0
HearsBehind input (Whole len offered) items ended =
    HearsRest (record { offered = offered; greeted = false; place = len; bytes = drop len input })
    items ended
HearsBehind input More items ended = (items ≡ []) × (ended ≡ end_of input)
HearsBehind input (Bad place) items ended = (items ≡ []) × (ended ≡ Malformed place)

-- a whole input is heard as these items, and ends so
abbrev pub Heard : List ℕ → List Item → Ended → Type 0
Heard input items ended = HearsBehind input (line_of input) items ended
