-- How messages stand one behind another on a connection (intro(5)): size[4] type[1] tag[2] and the
-- parameters. The size counts itself too.
use Rattle.std.specs.Prelude.{◌≡◌, ◌+◌, ◌<◌, ◌^◌, ℕ, List, ◌∷◌, ◌++◌, length}
use Rattle.byteorder.specs.Endian.{little_bytes}
use Rattle.nine_wire.specs.Messages.{TMessage, RMessage, SpellsBody, reply_type, reply_parameters}

-- how many bytes stand before the parameters
abbrev pub head_len : ℕ
head_len = 7

-- a message of this type under this tag
abbrev pub framed : (type tag : ℕ) → List ℕ → List ℕ
framed type tag parameters =
    little_bytes 4 (head_len + length parameters) ++ (type ∷ (little_bytes 2 tag ++ parameters))

-- the bytes are one whole message
pub record IsFrame (bytes : List ℕ) (type tag : ℕ) (parameters : List ℕ) : Type 0 where
  pub type_fits : type < 2 ^ 8
  pub tag_fits : tag < 2 ^ 16
  pub counted : head_len + length parameters < 2 ^ 32
  pub is : bytes ≡ framed type tag parameters

-- the bytes are this request under this tag
pub record Spells (tag : ℕ) (m : TMessage) (bytes : List ℕ) : Type 0 where
  pub type : ℕ
  pub parameters : List ℕ
  pub body : SpellsBody m type parameters
  pub frame : IsFrame bytes type tag parameters

-- a reply under its request's tag
abbrev pub spelled_reply : (tag : ℕ) → RMessage → List ℕ
spelled_reply tag reply = framed (reply_type reply) tag (reply_parameters reply)
