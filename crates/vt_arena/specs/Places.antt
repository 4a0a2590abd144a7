-- Where the blocks of one arena go: the rule is vt_model's, which this file alone takes over.
use Rattle.std.specs.Prelude.{◌≡◌, ◌⊎◌, ℕ, ◌+◌, ◌*◌, ◌/◌, ◌≤◌, ◌==◌, nat_le, nat_lt, Bool, if◌then◌else◌, Option, Some, None, List, [], ◌∷◌, length, map}
use Rattle.vt_disk.specs.declared.TheConstants.{LEAST_ARENA, MOST_ARENA}
use Rattle.vt_clump.specs.Spelling.{Stored}
use Rattle.vt_model.specs.declared.TheConstants.{CLUMP_UNIT, DIRECTORY_ENTRY_LEN}
use Rattle.vt_model.specs.Places.{Setup, room_of, needed, clump_len, directory_len, offset_behind}

-- the versions in which an arena may be kept
abbrev pub IsVersion : ℕ → Type 0
IsVersion version = (version ≡ 1) ⊎ (version ≡ 2)

-- a store with one arena, of this version and length
abbrev pub alone : (version len : ℕ) → Setup
alone version len = record {
  arenas = len ∷ [];
  versions = version ∷ [];
  base = 0;
  sections = [];
}

-- what a block of n bytes takes of an arena of this version
abbrev pub block_room : (version n : ℕ) → ℕ
block_room version n = clump_len (alone version 0) 0 n

-- what the directory of so many blocks takes there, up to whole sectors in version 2
abbrev pub directory_room : (version blocks : ℕ) → ℕ
directory_room version blocks = directory_len (alone version 0) 0 blocks

-- how many sectors the clump of a block of n bytes takes in version 2
abbrev pub sectors_of : (n : ℕ) → ℕ
sectors_of n = block_room 2 n / CLUMP_UNIT

-- how many bytes so many directory entries are
abbrev pub entries_len : (entries : ℕ) → ℕ
entries_len entries = DIRECTORY_ENTRY_LEN * entries

-- What an arena of this length has for clumps and directory together, in either version.
abbrev pub arena_room : (len : ℕ) → ℕ
arena_room len = room_of (alone 1 len) 0

-- the lengths that an arena may have: 32 KiB to 1 GiB
abbrev pub IsArenaLen : (len : ℕ) → Type 0
IsArenaLen len = (LEAST_ARENA ≤ len) × (len ≤ MOST_ARENA)

-- A block of n bytes fits an arena of this version and length, behind so many clumps of `used`
-- bytes in all.
abbrev pub has_room : (version len used clumps n : ℕ) → Bool
has_room version len used clumps n =
    nat_le (used + block_room version n + directory_room version (clumps + 1)) (arena_room len)

-- the lengths of blocks
abbrev pub lengths_of : List Stored → List ℕ
lengths_of stored = map (λ s. length s.block) stored

-- where the clump behind those of these blocks begins in its arena's region
abbrev pub offset_of : (version : ℕ) → List Stored → ℕ
offset_of version before = offset_behind (alone version 0) 0 (lengths_of before)

-- the blocks and their directory fit an arena of this version and length
abbrev pub Fit : (version len : ℕ) → List Stored → Type 0
Fit version len stored = needed (alone version len) 0 (lengths_of stored) ≤ arena_room len

-- How many sectors the last of clumps of blocks of these lengths takes in version 2; where there is
-- none, it is what stands before them.
abbrev pub last_sectors : (before : ℕ) → (lengths : List ℕ) → ℕ
last_sectors before [] = before
last_sectors before (n ∷ rest) = last_sectors (sectors_of n) rest

-- What is wanted where the last of so many clumps, which take `used` bytes in all, can't take so many
-- sectors: without clumps it takes none, else one at least, and no more than there are.
abbrev pub bad_last : (clumps used last : ℕ) → Option ℕ
bad_last clumps used last =
    let most = used / CLUMP_UNIT in
    if clumps == 0 then (if last == 0 then None else Some 0)
    else if last == 0 then Some 1
    else if nat_lt most last then Some most
    else None
