-- Where blocks go. The log is kept in arenas, which are filled one after another, and the index in
-- buckets, of which a score's first 32 bits name one (Quinlan and Dorward 2002, venti(8)).
use Rattle.std.specs.Prelude.{ℕ, ◌≡◌, ◌<◌, ◌≤◌, ◌+◌, ◌-◌, ◌*◌, ◌/◌, ◌^◌, ◌==◌, ◌&&◌, max, nat_le, nat_lt, not, Bool, if◌then◌else◌, Option, Some, None, List, [], ◌∷◌, ◌++◌, length, take, map, filter, sum, sum_by, count_by, slice_get, slice_index}
use Rattle.std.specs.Option.{option_map}
use Rattle.std.specs.Int.{w32, from_be_bytes}
use Rattle.vt_model.specs.declared.TheConstants.{ARENA_HEAD_LEN, CLUMP_HEADER_LEN, CLUMP_UNIT, DIRECTORY_ENTRY_LEN, WRITTEN_VERSION}
use Rattle.vt_model.specs.History.{History, Accepted}

-- What a store was opened with: the length of each arena's region, and the version in which each
-- arena is kept; the first arena that was not sealed then (or the count of arenas); and how many
-- buckets each index section has.
pub record Setup : Type 0 where
  pub arenas : List ℕ
  pub versions : List ℕ
  pub base : ℕ
  pub sections : List ℕ

-- ---- arenas

-- the bytes of a region behind its head; none past the last arena
abbrev pub room_of : Setup → ℕ → ℕ
room_of c arena = slice_index c.arenas arena - ARENA_HEAD_LEN

-- the version of an arena; 0 past the last arena
abbrev pub version_of : Setup → ℕ → ℕ
version_of c arena = slice_index c.versions arena

-- a length, rounded up to whole sectors
abbrev pub whole_units : ℕ → ℕ
whole_units n = (n + (CLUMP_UNIT - 1)) / CLUMP_UNIT * CLUMP_UNIT

-- What a block of n bytes takes in an arena of this version: a header, and itself. In version 2 it
-- takes whole sectors, so that no sector has bytes of two clumps.
abbrev pub clump_len_in : (version n : ℕ) → ℕ
clump_len_in version n =
    if version == 2 then whole_units (CLUMP_HEADER_LEN + n) else CLUMP_HEADER_LEN + n

-- What the directory of so many blocks takes there: an entry for each. In version 2 it has whole
-- sectors to itself.
abbrev pub directory_len_in : (version blocks : ℕ) → ℕ
directory_len_in version blocks =
    if version == 2 then whole_units (DIRECTORY_ENTRY_LEN * blocks)
    else DIRECTORY_ENTRY_LEN * blocks

-- the same for this arena of a store
abbrev pub clump_len : Setup → ℕ → ℕ → ℕ
clump_len c arena n = clump_len_in (version_of c arena) n

abbrev pub directory_len : Setup → ℕ → ℕ → ℕ
directory_len c arena blocks = directory_len_in (version_of c arena) blocks

-- what blocks of these lengths take of an arena
abbrev pub needed : Setup → ℕ → List ℕ → ℕ
needed c arena lengths = sum_by (clump_len c arena) lengths + directory_len c arena (length lengths)

-- blocks of these lengths fit an arena
abbrev pub fits : Setup → ℕ → List ℕ → Bool
fits c arena lengths = nat_le (needed c arena lengths) (room_of c arena)

-- the lengths of an arena's blocks, in order
abbrev pub lengths_in : ℕ → History → List ℕ
lengths_in arena h = map (λ e. length e.block.bytes) (filter (λ e. e.arena == arena) h)

-- the last block's arena, or this one where there is no block
abbrev pub last_arena : ℕ → History → ℕ
last_arena arena [] = arena
last_arena arena (e ∷ es) = last_arena e.arena es

-- the arena that is being filled
abbrev pub current_arena : Setup → History → ℕ
current_arena c h = max c.base (last_arena 0 h)

-- Blocks of these lengths fit an arena that takes more: it is of the version that is written.
abbrev pub takes : Setup → ℕ → List ℕ → Bool
takes c arena lengths = version_of c arena == WRITTEN_VERSION && fits c arena lengths

-- An arena can be sealed, so that blocks go to the next one, unless it is of version 2.
abbrev pub closes : Setup → ℕ → Bool
closes c arena = not (version_of c arena == 2)

-- Where a further block of n bytes goes: the current arena if it is of the version that is written
-- and the block fits there, else the next one if the current one can be sealed, there is a next one
-- and the block fits it empty, else nowhere.
abbrev pub next_arena : Setup → History → ℕ → Option ℕ
next_arena c h n =
    let a = current_arena c h in
    if takes c a (lengths_in a h ++ n ∷ []) then Some a
    else if closes c a && fits c (a + 1) (n ∷ []) then Some (a + 1)
    else None

-- where a block stands: its arena, and the offset of its clump in the arena's region
pub record Spot : Type 0 where
  pub arena : ℕ
  pub offset : ℕ

-- the offset of a clump behind those of blocks of these lengths
abbrev pub offset_behind : Setup → ℕ → List ℕ → ℕ
offset_behind c arena lengths = ARENA_HEAD_LEN + sum_by (clump_len c arena) lengths

-- where block i stands: in its arena, behind the arena's earlier blocks
abbrev pub place_of : Setup → History → ℕ → Option Spot
place_of c h i =
    option_map (λ e. record {
      arena = e.arena;
      offset = offset_behind c e.arena (lengths_in e.arena (take i h));
    }) (slice_get h i)

-- block i of the history is this one, and stands here
pub record StandsAt (c : Setup) (h : History) (i : ℕ) (e : Accepted) (spot : Spot) : Type 0 where
  pub block : slice_get h i ≡ Some e
  pub place : place_of c h i ≡ Some spot

-- ---- buckets

-- how many buckets all sections have
abbrev pub bucket_count : Setup → ℕ
bucket_count c = sum c.sections

-- the bucket of a score, of so many: they divide the scores evenly, in order
abbrev pub bucket_of : ℕ → List ℕ → ℕ
bucket_of buckets s = from_be_bytes w32 (take 4 s) * buckets / 2 ^ 32

-- how many blocks a bucket has, of so many buckets
abbrev pub crowd : (List ℕ → List ℕ) → ℕ → History → ℕ → ℕ
crowd score buckets h bucket = count_by (λ e. bucket_of buckets (score e.block.bytes) == bucket) h

-- the section of a bucket, where sections of so many buckets stand one behind another
abbrev pub section_of_bucket : List ℕ → ℕ → ℕ
section_of_bucket [] bucket = 0
section_of_bucket (n ∷ sections) bucket =
    if nat_lt bucket n then 0 else section_of_bucket sections (bucket - n) + 1

-- the number of section i's first bucket: how many stand before it
abbrev pub first_bucket : List ℕ → (i : ℕ) → ℕ
first_bucket sections i = sum (take i sections)

-- the bucket lies in the range of section i
abbrev pub LiesIn : List ℕ → (i bucket : ℕ) → Type 0
LiesIn sections i bucket =
    (first_bucket sections i ≤ bucket)
    × (bucket < first_bucket sections i + slice_index sections i)

-- the section of a score's bucket
abbrev pub section_of_score : Setup → List ℕ → ℕ
section_of_score c s = section_of_bucket c.sections (bucket_of (bucket_count c) s)
