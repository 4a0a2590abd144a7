-- Scores as text: 40 hexadecimal digits, behind a label and a colon or without them, as in
-- `vac:64daefaecc4df4b5cb48a368b361ef56012a4f46` (vac(1)).
use Rattle.std.specs.Prelude.{ℕ, ◌≡◌, ◌+◌, ◌<◌, ◌==◌, ◌⊎◌, ◌&&◌, ◌||◌, nat_le, nat_lt, IsTrue, Bool, if◌then◌else◌, Ok, List, [], ◌∷◌, ◌++◌, length, take, drop, slice_index}
use Rattle.std.specs.List.{prefix_len, All}
use Rattle.hex.specs.Hex.{decode_of, is_hex_digit}

-- a lower-case letter or a decimal digit
abbrev pub is_label_byte : ℕ → Bool
is_label_byte b = (nat_le 97 b && nat_le b 122) || (nat_le 48 b && nat_le b 57)

-- one or more lower-case letters and decimal digits
pub record IsLabel (label : List ℕ) : Type 0 where
  pub some : 0 < length label
  pub each : All (λ b. IsTrue (is_label_byte b)) label

-- what stands before the digits: nothing, or a label and a colon
abbrev pub IsScoreFront : List ℕ → Type 0
IsScoreFront front =
    (front ≡ []) ⊎ ((label : List ℕ) × IsLabel label × (front ≡ label ++ 58 ∷ []))

-- the text is that of this score, its digits in either case
pub record SpellsScore (score text : List ℕ) : Type 0 where
  pub front : List ℕ
  pub digits : List ℕ
  pub front_is : IsScoreFront front
  pub all : length digits ≡ 40
  pub value : decode_of digits ≡ Ok score
  pub spelled : text ≡ front ++ digits

-- how many bytes a label at the front has, with its colon; 0 where no label is there
abbrev pub front_len : List ℕ → ℕ
front_len text =
    let n = prefix_len is_label_byte text in
    if nat_lt 0 n && slice_index text n == 58 then n + 1 else 0

-- how many digits stand at the front, of which 40 are looked at
abbrev pub digits_len : List ℕ → ℕ
digits_len text = prefix_len is_hex_digit (take 40 text)

-- the place of the first byte that can't stand in the text of a score, or the length of a text
-- that is too short
abbrev pub wrong_place : List ℕ → ℕ
wrong_place text = front_len text + digits_len (drop (front_len text) text)
