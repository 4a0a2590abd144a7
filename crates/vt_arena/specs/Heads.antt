-- The head of an arena in its frame:
--   magic[4] version[2] number[4] sealed[1] clumps[4] used[8] chain[20]
-- and behind them, in version 2 alone:
--   last[4]
-- Numbers have their highest byte first. The rest of the frame is written as zero and isn't read.
use Rattle.std.specs.Prelude.{◌≡◌, ℕ, ◌-◌, ◌==◌, if◌then◌else◌, Bool, List, [], ◌∷◌, ◌++◌, codes, take, drop, replicate, slice_index}
use Rattle.byteorder.specs.Endian.{big_bytes, big_number}
use Rattle.vt_arena.specs.declared.head.ArenaHead.{ArenaHead}
use Rattle.vt_arena.specs.declared.TheConstants.{FRAME_LEN, FIELDS_LEN, LAST_LEN}

-- the byte that tells whether an arena is sealed
abbrev pub flag_of : (sealed : Bool) → ℕ
flag_of Bool.true = 1
flag_of Bool.false = 0

-- how many bytes the fields of a head of this version are
abbrev pub fields_len : (version : ℕ) → ℕ
fields_len version = if version == 2 then FIELDS_LEN else FIELDS_LEN - LAST_LEN

-- what a head of this version has behind its chain
abbrev pub last_field : (version last : ℕ) → List ℕ
last_field version last = if version == 2 then big_bytes LAST_LEN last else []

-- the fields of a head up to its chain, and these bytes behind them
abbrev pub fields_with : ArenaHead → (behind : List ℕ) → List ℕ
fields_with h behind =
    codes "VARN" ++ (big_bytes 2 h.version ++ (big_bytes 4 h.number ++ (flag_of h.sealed
    ∷ (big_bytes 4 h.clumps ++ (big_bytes 8 h.used ++ (h.chain.0 ++ behind))))))

-- the fields that a head has in its version
abbrev pub fields_of : ArenaHead → List ℕ
fields_of h = fields_with h (last_field h.version h.last)

-- the whole frame of a head as it is written, filled up with zeros; in version 1 `last` is 0, and is
-- written too
abbrev pub head_frame : ArenaHead → List ℕ
head_frame h =
    fields_with h (big_bytes LAST_LEN h.last) ++ replicate (FRAME_LEN - FIELDS_LEN) 0

-- the version field of a head (the fields here are by their places)
abbrev pub version_in : List ℕ → ℕ
version_in fields = big_number 2 (drop 4 fields)

-- the arena's number in the fields of a head
abbrev pub number_in : List ℕ → ℕ
number_in fields = big_number 4 (drop 6 fields)

-- the byte in the fields of a head that tells whether the arena is sealed
abbrev pub sealed_in : List ℕ → ℕ
sealed_in fields = slice_index fields 10

-- how many clumps there are by the fields of a head
abbrev pub clump_count_in : List ℕ → ℕ
clump_count_in fields = big_number 4 (drop 11 fields)

-- how many bytes the clumps have by the fields of a head
abbrev pub used_in : List ℕ → ℕ
used_in fields = big_number 8 (drop 15 fields)

-- how many sectors the last clump takes by the fields of a head; version 1 doesn't say
abbrev pub last_in : List ℕ → ℕ
last_in fields = if version_in fields == 2 then big_number LAST_LEN (drop 43 fields) else 0

-- the first fields of these bytes, as many as their version has
abbrev pub own_fields : List ℕ → List ℕ
own_fields bytes = take (fields_len (version_in bytes)) bytes

-- the head says what these fields say
pub record IsHeadOf (fields : List ℕ) (h : ArenaHead) : Type 0 where
  pub version : h.version ≡ version_in fields
  pub number : h.number ≡ number_in fields
  pub sealed : flag_of h.sealed ≡ sealed_in fields
  pub clumps : h.clumps ≡ clump_count_in fields
  pub used : h.used ≡ used_in fields
  pub chain : h.chain.0 ≡ take 20 (drop 23 fields)
  pub last : h.last ≡ last_in fields
