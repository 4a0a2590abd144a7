-- How messages stand one behind another on a connection (venti(6), version 02).
use Rattle.std.specs.Prelude.{ℕ, ◌≡◌, ◌+◌, ◌<◌, ◌^◌, List, ◌++◌, length}
use Rattle.std.specs.List.{All, flat_map}
use Rattle.byteorder.specs.Endian.{big_bytes, big_number}

-- how many bytes a size field has
abbrev pub size_width : ℕ
size_width = 2

-- a size field, which counts the bytes of the body, and the body
abbrev pub framed : List ℕ → List ℕ
framed body = big_bytes size_width (length body) ++ body

-- what a size field can count
abbrev pub IsBody : List ℕ → Type 0
IsBody body = length body < 256 ^ size_width

-- the bytes are one whole frame, with this body
pub record IsFrame (bytes body : List ℕ) : Type 0 where
  pub counted : IsBody body
  pub is : bytes ≡ framed body

-- How many bytes the first frame has once it is whole, by its size field. A missing byte of the
-- field counts as 0.
abbrev pub frame_len : List ℕ → ℕ
frame_len bytes = size_width + big_number size_width bytes

-- less than a whole frame: no whole size field, or fewer bytes behind it than it counts
abbrev pub IsPartial : List ℕ → Type 0
IsPartial bytes = length bytes < frame_len bytes

-- the bytes are frames with these bodies, and then less than a whole one
pub record Splits (bytes : List ℕ) (bodies : List (List ℕ)) (rest : List ℕ) : Type 0 where
  pub whole : bytes ≡ flat_map framed bodies ++ rest
  pub each : All IsBody bodies
  pub partial : IsPartial rest
