-- Why a partition is refused.
use Rattle.std.specs.Prelude.{◌≡◌, ◌≢◌, ◌==◌, ◌⊎◌, ℕ, ◌+◌, ◌<◌, ◌≤◌, nat_lt, Bool, true, false, not, if◌then◌else◌, Option, Some, None, List, codes, take, drop}
use Rattle.std.specs.Str.{bytes_eq}
use Rattle.byteorder.specs.Endian.{big_number}
use Rattle.vt_disk.specs.declared.TheConstants.{BLOCK_LEN, LEAST_ARENA}
use Rattle.vt_part.specs.declared.error.Field.{Field}
use Rattle.vt_part.specs.declared.error.Field.TheVariants.{Version, ArenaSize, Count}
use Rattle.vt_part.specs.declared.error.PartBad.{PartBad}
use Rattle.vt_part.specs.declared.error.PartBad.TheVariants.{Fault, TooSmall, NotFormatted, Torn, DuplicateName, NoMemory}
use Rattle.vt_part.specs.Table.{is_arena_size, IsArenaSize, start_by}

-- the version field of a head (the fields here are by their places)
abbrev pub version_in : List ℕ → ℕ
version_in head = big_number 2 (drop 4 head)

-- the field of a partition's head with the bytes of each arena
abbrev pub arena_size_in : List ℕ → ℕ
arena_size_in head = big_number 8 (drop 70 head)

-- the field of a partition's head that counts its arenas
abbrev pub count_in : List ℕ → ℕ
count_in head = big_number 4 (drop 78 head)

-- where the last arena ends
abbrev pub end_in : List ℕ → ℕ
end_in head = start_by (arena_size_in head) (count_in head)

-- the first test of a table's fields that fails, on a disk of this length
abbrev pub first_bad_part : (len : ℕ) → (head : List ℕ) → Option PartBad
first_bad_part len head =
    if nat_lt len BLOCK_LEN then Some (TooSmall len BLOCK_LEN)
    else if not (bytes_eq (take 4 head) (codes "VPRT")) then Some NotFormatted
    else if not (version_in head == 1) then Some (Torn Version (version_in head) 1)
    else if not (is_arena_size (arena_size_in head))
    then Some (Torn ArenaSize (arena_size_in head) LEAST_ARENA)
    else if count_in head == 0 then Some (Torn Count 0 1)
    else if nat_lt len (end_in head) then Some (TooSmall len (end_in head))
    else None

-- mounting is refused by the first test that fails or, where the disk has a block 0, since the read
-- of it fails
abbrev pub RefusesPartMount : (len : ℕ) → (head : List ℕ) → PartBad → Type 0
RefusesPartMount len head bad =
    (first_bad_part len head ≡ Some bad) ⊎ ((BLOCK_LEN ≤ len) × (bad ≡ Fault))

-- formatting is refused where an arena has no room or, where it has, since a call of the disk fails
abbrev pub RefusesPartFormat : (len arena_size : ℕ) → PartBad → Type 0
RefusesPartFormat len arena_size bad =
    ((len < BLOCK_LEN + arena_size) × (bad ≡ TooSmall len (BLOCK_LEN + arena_size)))
    ⊎ ((BLOCK_LEN + arena_size ≤ len) × (bad ≡ Fault))

-- a value that can't stand in a field, and the one that was wanted
abbrev pub Differs : Field → (found want : ℕ) → Type 0
Differs Version found want = (found ≢ 1) × (want ≡ 1)
Differs ArenaSize found want = ¬ IsArenaSize found × (want ≡ LEAST_ARENA)
Differs Count found want = (found ≡ 0) × (want ≡ 1)

-- arenas of a size that they may have end here
abbrev pub IsEnd : ℕ → Type 0
IsEnd place = (arena_size : ℕ) × (count : ℕ) × IsArenaSize arena_size × (0 < count)
    × (place ≡ start_by arena_size count)

-- What is known of a refusal to mount a disk of this size, even where the disk doesn't tell what it
-- holds: the values that the refusal names make it one.
abbrev pub NamesPartCause : (size : ℕ) → PartBad → Type 0
NamesPartCause size (TooSmall len need) =
    (len ≡ size) × (size < need) × (size < BLOCK_LEN → need ≡ BLOCK_LEN)
    × (BLOCK_LEN ≤ size → IsEnd need)
NamesPartCause size Fault = BLOCK_LEN ≤ size
NamesPartCause size NotFormatted = BLOCK_LEN ≤ size
NamesPartCause size (Torn field found want) = (BLOCK_LEN ≤ size) × Differs field found want
NamesPartCause size (DuplicateName first second) = ⊥
NamesPartCause size NoMemory = ⊥

-- the refusal tells of a fault of the disk in this call
abbrev pub is_part_fault : PartBad → Bool
is_part_fault Fault = true
is_part_fault (TooSmall len need) = false
is_part_fault NotFormatted = false
is_part_fault (Torn field found want) = false
is_part_fault (DuplicateName first second) = false
is_part_fault NoMemory = false
