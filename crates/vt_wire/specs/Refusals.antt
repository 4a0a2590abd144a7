-- Why a frame is refused: the first of three tests that fails. What comes in is tested for a whole
-- frame with type and tag, then for the type, then for the parameters. venti(6) has an Rerror for
-- any request; which test comes first is this project's.
use Rattle.std.specs.Prelude.{ℕ, ◌≡◌, ◌<◌, ◌==◌, Bool, true, false, if◌then◌else◌, List, [], ◌∷◌, length, Result, Ok, Err}
use Rattle.vt_wire.specs.Fields.{Form, bytes_of, a_string, a_list, to_the_end, IsFirstBad}
use Rattle.vt_wire.specs.Frames.{IsFrame}
use Rattle.vt_wire.specs.Messages.{is_request_type, SpellsBody, is_reply_type, reply_type, SpellsReplyParameters}
use Rattle.vt_wire.specs.Views.{message_of, reply_of}
use Rattle.vt_wire.specs.declared.message.Request.{Request}
use Rattle.vt_wire.specs.declared.message.Reply.{Reply}
use Rattle.vt_wire.specs.declared.message.WireBad.{WireBad}
use Rattle.vt_wire.specs.declared.message.WireBad.TheVariants as bad

-- no whole frame, or one without type and tag
abbrev pub IsCutShort : List ℕ → Type 0
IsCutShort bytes = (body : List ℕ) → IsFrame bytes body → length body < 2

-- a whole frame of this type, which is none of these types
pub record HasOtherType (types : ℕ → Bool) (bytes : List ℕ) (type : ℕ) : Type 0 where
  pub tag : ℕ
  pub parameters : List ℕ
  pub frame : IsFrame bytes (type ∷ tag ∷ parameters)
  pub unknown : types type ≡ false

-- a whole frame of one of these types, with parameters of these forms, of which the first that
-- isn't spelled has this number
pub record HasBadParameter (types : ℕ → Bool) (forms : ℕ → List Form) (bytes : List ℕ)
    (number : ℕ) : Type 0 where
  pub type : ℕ
  pub tag : ℕ
  pub parameters : List ℕ
  pub frame : IsFrame bytes (type ∷ tag ∷ parameters)
  pub known : types type ≡ true
  pub first_bad : IsFirstBad (forms type) parameters number

-- of parameters of these forms, the first that isn't spelled is told
abbrev pub TellsBad : List Form → List ℕ → WireBad → Type 0
TellsBad forms parameters (bad.Bad number) = IsFirstBad forms parameters number
TellsBad forms parameters bad.Short = ⊥
TellsBad forms parameters (bad.Unknown other) = ⊥

-- ---- what a client sends

-- the forms of a T-message's parameters, by its type
abbrev pub forms_of : ℕ → List Form
forms_of type =
    if type == 4 then a_string ∷ a_string ∷ bytes_of 1 ∷ a_list ∷ a_list ∷ []
    else if type == 12 then bytes_of 20 ∷ bytes_of 1 ∷ bytes_of 1 ∷ bytes_of 2 ∷ []
    else if type == 14 then bytes_of 1 ∷ bytes_of 3 ∷ to_the_end ∷ []
    else []

-- a whole frame of this type, which no T-message has
abbrev pub IsUnknown : (bytes : List ℕ) → (type : ℕ) → Type 0
IsUnknown bytes type = HasOtherType is_request_type bytes type

-- a whole frame of a T-message's type, whose first parameter that isn't spelled has this number
abbrev pub IsMisspelled : (bytes : List ℕ) → (number : ℕ) → Type 0
IsMisspelled bytes number = HasBadParameter is_request_type forms_of bytes number

-- what a request's parameters come to: the message that they spell, or the first that isn't spelled
abbrev pub ReadsParameters : ℕ → List ℕ → Result Request WireBad → Type 0
ReadsParameters type parameters (Ok request) = SpellsBody (message_of request) type parameters
ReadsParameters type parameters (Err bad) = TellsBad (forms_of type) parameters bad

-- ---- what a server sends

-- the forms of an R-message's parameters, by its type
abbrev pub reply_forms_of : ℕ → List Form
reply_forms_of type =
    if type == 1 then a_string ∷ []
    else if type == 5 then a_string ∷ bytes_of 1 ∷ bytes_of 1 ∷ []
    else if type == 13 then to_the_end ∷ []
    else if type == 15 then bytes_of 20 ∷ []
    else []

-- a whole frame of this type, which no R-message has
abbrev pub IsUnknownReply : (bytes : List ℕ) → (type : ℕ) → Type 0
IsUnknownReply bytes type = HasOtherType is_reply_type bytes type

-- a whole frame of an R-message's type, whose first parameter that isn't spelled has this number
abbrev pub IsMisspelledReply : (bytes : List ℕ) → (number : ℕ) → Type 0
IsMisspelledReply bytes number = HasBadParameter is_reply_type reply_forms_of bytes number

-- what a reply's parameters come to: the reply that they spell, or the first that isn't spelled
abbrev pub ReadsReply : ℕ → List ℕ → Result Reply WireBad → Type 0
ReadsReply type parameters (Ok reply) =
    (type ≡ reply_type (reply_of reply)) × SpellsReplyParameters (reply_of reply) parameters
ReadsReply type parameters (Err bad) = TellsBad (reply_forms_of type) parameters bad
