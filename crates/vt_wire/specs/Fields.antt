-- The forms that parameters of messages have (venti(6)).
use Rattle.std.specs.Prelude.{ℕ, zero, suc, ◌≡◌, ◌≢◌, ◌≤◌, ◌<◌, List, [], ◌∷◌, ◌++◌, length}
use Rattle.std.specs.List.{All}
use Rattle.byteorder.specs.Endian.{big_bytes}
use Rattle.vt_wire.specs.declared.message.TheConstants.{MAX_STRING}

-- `name[s]`: two bytes of length, and so many bytes
abbrev pub string : List ℕ → List ℕ
string bytes = big_bytes 2 (length bytes) ++ bytes

-- what may stand in a string: at most 1,024 bytes, none of them zero
pub record IsText (bytes : List ℕ) : Type 0 where
  pub short : length bytes ≤ MAX_STRING
  pub nonzero : All (λ b. b ≢ 0) bytes

-- `name[n]`: one byte of length, and so many bytes
abbrev pub counted_field : List ℕ → List ℕ
counted_field bytes = length bytes ∷ bytes

-- so few bytes that a field of one byte counts them
abbrev pub FitsCount : List ℕ → Type 0
FitsCount bytes = length bytes < 256

-- the form of a parameter
pub data Form : Type 0 where
  -- so many bytes
  bytes_of : (len : ℕ) → Form
  -- `name[s]`
  a_string : Form
  -- `name[n]`
  a_list : Form
  -- all bytes to the frame's end
  to_the_end : Form

-- the bytes begin with a parameter of this form, and `rest` stands behind it
abbrev pub BeginsWithForm : Form → (bytes rest : List ℕ) → Type 0
BeginsWithForm (bytes_of len) bytes rest =
    (field : List ℕ) × (length field ≡ len) × (bytes ≡ field ++ rest)
BeginsWithForm a_string bytes rest = (text : List ℕ) × IsText text × (bytes ≡ string text ++ rest)
BeginsWithForm a_list bytes rest =
    (items : List ℕ) × FitsCount items × (bytes ≡ counted_field items ++ rest)
BeginsWithForm to_the_end bytes rest = rest ≡ []

-- Of parameters that should have these forms, the first that isn't spelled is the one of this
-- number, counted from 0. Bytes behind the last parameter have the number one past the last.
abbrev pub IsFirstBad : List Form → List ℕ → ℕ → Type 0
IsFirstBad [] bytes number = (bytes ≢ []) × (number ≡ 0)
IsFirstBad (form ∷ forms) bytes zero = (rest : List ℕ) → ¬ BeginsWithForm form bytes rest
IsFirstBad (form ∷ forms) bytes (suc number) =
    (rest : List ℕ) × BeginsWithForm form bytes rest × IsFirstBad forms rest number
