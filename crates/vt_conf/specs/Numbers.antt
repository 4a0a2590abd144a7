-- Numbers as text: decimal digits, without a sign and without zeros in front, which is what
-- `decimal` writes.
use Rattle.std.specs.Prelude.{ℕ, ◌==◌, nat_lt, if◌then◌else◌, List, length, slice_index}
use Rattle.std.specs.List.{prefix_len}
use Rattle.std.specs.Char.{is_ascii_digit}

-- how many bytes at the front of a text are those of a number: digits, and none behind a zero in
-- front
abbrev pub number_len : List ℕ → ℕ
number_len text = if slice_index text 0 == 48 then 1 else prefix_len is_ascii_digit text

-- the place of the first byte that can't stand in a number, or 0 where there is none
abbrev pub wrong_digit : List ℕ → ℕ
wrong_digit text = if nat_lt (number_len text) (length text) then number_len text else 0
