-- Why bytes are no request.
use Rattle.std.specs.Prelude.{◌≡◌, ℕ, List, true, false}
use Rattle.nine_wire.specs.Frames.{IsFrame}
use Rattle.nine_wire.specs.Messages.{TMessage, SpellsBody, is_request_type}

-- no whole message
abbrev pub IsCutShort : List ℕ → Type 0
IsCutShort bytes = (type tag : ℕ) (parameters : List ℕ) → ¬ IsFrame bytes type tag parameters

-- a whole message of a type that no request has, under this tag
pub record IsUnknown (bytes : List ℕ) (tag : ℕ) : Type 0 where
  pub type : ℕ
  pub parameters : List ℕ
  pub frame : IsFrame bytes type tag parameters
  pub unknown : is_request_type type ≡ false

-- a whole message of a request's type, under this tag, whose parameters spell none
pub record IsMisspelled (bytes : List ℕ) (tag : ℕ) : Type 0 where
  pub type : ℕ
  pub parameters : List ℕ
  pub frame : IsFrame bytes type tag parameters
  pub known : is_request_type type ≡ true
  pub none : (m : TMessage) → ¬ SpellsBody m type parameters
