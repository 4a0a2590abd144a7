-- How the messages of venti(6) are spelled, in version 02: a type, a tag, and parameters that fill
-- the frame.
use Rattle.std.specs.Prelude.{ℕ, ◌≡◌, ◌≤◌, ◌<◌, ◌^◌, ◌==◌, ◌||◌, ⊤, Bool, List, [], ◌∷◌, ◌++◌, length, codes}
use Rattle.byteorder.specs.Endian.{big_bytes}
use Rattle.vt_base.specs.declared.TheConstants.{MAX_BLOCK}
use Rattle.vt_base.specs.Protocol.{ping, read, write, sync, TMessage, t_hello, t_goodbye, t_ask, RMessage, r_ping, r_hello, r_read, r_write, r_sync, r_error}
use Rattle.vt_wire.specs.Fields.{string, IsText, counted_field, FitsCount}
use Rattle.vt_wire.specs.Frames.{framed, IsFrame}

-- ---- T-messages

-- the type of a request's frame, by venti(6)
abbrev pub request_type : TMessage → ℕ
request_type (t_ask ping) = 2
request_type (t_hello version) = 4
request_type t_goodbye = 6
request_type (t_ask (read score kind count)) = 12
request_type (t_ask (write kind bytes)) = 14
request_type (t_ask sync) = 16

-- a T-message has this type
abbrev pub is_request_type : ℕ → Bool
is_request_type t = t == 2 || t == 4 || t == 6 || t == 12 || t == 14 || t == 16

-- Thello: version[s] uid[s] strength[1] crypto[n] codec[n], of which the version alone is looked at
pub record SpellsHello (version parameters : List ℕ) : Type 0 where
  pub uid : List ℕ
  pub strength : ℕ
  pub crypto : List ℕ
  pub codec : List ℕ
  pub version_text : IsText version
  pub uid_text : IsText uid
  pub crypto_short : FitsCount crypto
  pub codec_short : FitsCount codec
  pub spelled : parameters
      ≡ string version ++ (string uid ++ (strength ∷ (counted_field crypto ++ counted_field codec)))

-- Tread: score[20] type[1] pad[1] count[2], of which the pad isn't looked at
pub record SpellsRead (score : List ℕ) (kind count : ℕ) (parameters : List ℕ) : Type 0 where
  pub pad : ℕ
  pub score_len : length score ≡ 20
  pub count_short : count < 2 ^ 16
  pub spelled : parameters ≡ score ++ (kind ∷ pad ∷ big_bytes 2 count)

-- Twrite: type[1] pad[3] and the block to the frame's end, of which the pad isn't looked at
pub record SpellsWrite (kind : ℕ) (bytes parameters : List ℕ) : Type 0 where
  pub pad : List ℕ
  pub pad_len : length pad ≡ 3
  pub spelled : parameters ≡ kind ∷ (pad ++ bytes)

-- Tping, Tgoodbye and Tsync have no parameters
abbrev pub SpellsParameters : TMessage → List ℕ → Type 0
SpellsParameters (t_ask ping) parameters = parameters ≡ []
SpellsParameters (t_hello version) parameters = SpellsHello version parameters
SpellsParameters t_goodbye parameters = parameters ≡ []
SpellsParameters (t_ask (read score kind count)) parameters = SpellsRead score kind count parameters
SpellsParameters (t_ask (write kind bytes)) parameters = SpellsWrite kind bytes parameters
SpellsParameters (t_ask sync) parameters = parameters ≡ []

-- a type and parameters spell the message
pub record SpellsBody (m : TMessage) (type : ℕ) (parameters : List ℕ) : Type 0 where
  pub type_is : type ≡ request_type m
  pub parameters_are : SpellsParameters m parameters

-- the whole frame, its size field with it, spells the message under a tag
pub record Spells (tag : ℕ) (m : TMessage) (bytes : List ℕ) : Type 0 where
  pub parameters : List ℕ
  pub parameters_are : SpellsParameters m parameters
  pub frame : IsFrame bytes (request_type m ∷ tag ∷ parameters)

-- What this client sends. Thello has the uid `anonymous`, no strength, and neither cipher nor
-- codec.
abbrev pub request_parameters : TMessage → List ℕ
request_parameters (t_ask ping) = []
request_parameters (t_hello version) =
    string version ++ (string (codes "anonymous") ++ (0 ∷ 0 ∷ 0 ∷ []))
request_parameters t_goodbye = []
request_parameters (t_ask (read score kind count)) = score ++ (kind ∷ 0 ∷ big_bytes 2 count)
request_parameters (t_ask (write kind bytes)) = kind ∷ 0 ∷ 0 ∷ 0 ∷ bytes
request_parameters (t_ask sync) = []

-- the frame of a request under a tag, as this client sends it
abbrev pub asked : ℕ → TMessage → List ℕ
asked tag m = framed (request_type m ∷ tag ∷ request_parameters m)

-- the request can be sent
abbrev pub FitsRequest : TMessage → Type 0
FitsRequest (t_ask ping) = ⊤
FitsRequest (t_hello version) = IsText version
FitsRequest t_goodbye = ⊤
FitsRequest (t_ask (read score kind count)) = (length score ≡ 20) × (count < 2 ^ 16)
FitsRequest (t_ask (write kind bytes)) = length bytes ≤ MAX_BLOCK
FitsRequest (t_ask sync) = ⊤

-- ---- R-messages

-- an R-message has this type
abbrev pub is_reply_type : ℕ → Bool
is_reply_type t = t == 1 || t == 3 || t == 5 || t == 13 || t == 15 || t == 17

-- the type of a reply's frame, by venti(6)
abbrev pub reply_type : RMessage → ℕ
reply_type (r_error text) = 1
reply_type r_ping = 3
reply_type r_hello = 5
reply_type (r_read bytes) = 13
reply_type (r_write score) = 15
reply_type r_sync = 17

-- What this server sends. Rhello is sid[s] rcrypto[1] rcodec[1]: the sid is `anonymous`, with no
-- cipher and no codec.
abbrev pub reply_parameters : RMessage → List ℕ
reply_parameters (r_error text) = string text
reply_parameters r_ping = []
reply_parameters r_hello = string (codes "anonymous") ++ (0 ∷ 0 ∷ [])
reply_parameters (r_read bytes) = bytes
reply_parameters (r_write score) = score
reply_parameters r_sync = []

-- the frame of a reply under its request's tag, as this server sends it
abbrev pub spelled_reply : ℕ → RMessage → List ℕ
spelled_reply tag reply = framed (reply_type reply ∷ tag ∷ reply_parameters reply)

-- Rhello as any server spells it: sid[s] rcrypto[1] rcodec[1], none of which is looked at
pub record SpellsWelcome (parameters : List ℕ) : Type 0 where
  pub sid : List ℕ
  pub cipher : ℕ
  pub codec : ℕ
  pub sid_text : IsText sid
  pub spelled : parameters ≡ string sid ++ (cipher ∷ codec ∷ [])

-- the bytes behind type and tag of a reply
abbrev pub SpellsReplyParameters : RMessage → List ℕ → Type 0
SpellsReplyParameters (r_error text) parameters = IsText text × (parameters ≡ string text)
SpellsReplyParameters r_ping parameters = parameters ≡ []
SpellsReplyParameters r_hello parameters = SpellsWelcome parameters
SpellsReplyParameters (r_read bytes) parameters = parameters ≡ bytes
SpellsReplyParameters (r_write score) parameters = (length score ≡ 20) × (parameters ≡ score)
SpellsReplyParameters r_sync parameters = parameters ≡ []

-- the whole frame spells the reply under a tag, whatever server sent it
pub record SpellsReply (tag : ℕ) (reply : RMessage) (bytes : List ℕ) : Type 0 where
  pub parameters : List ℕ
  pub parameters_are : SpellsReplyParameters reply parameters
  pub frame : IsFrame bytes (reply_type reply ∷ tag ∷ parameters)

-- The reply has room in a frame, and can be sent.
abbrev pub FitsReply : RMessage → Type 0
FitsReply (r_error text) = IsText text
FitsReply r_ping = ⊤
FitsReply r_hello = ⊤
FitsReply (r_read bytes) = length bytes ≤ MAX_BLOCK
FitsReply (r_write score) = length score ≡ 20
FitsReply r_sync = ⊤
