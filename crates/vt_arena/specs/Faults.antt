-- Why an arena can't be mounted.
use Rattle.std.specs.Prelude.{◌≡◌, ◌==◌, ◌&&◌, ◌||◌, ⊤, ℕ, ◌+◌, ◌-◌, ◌*◌, ◌≤◌, nat_lt, Bool, true, false, not, if◌then◌else◌, Option, Some, None, is_none, Result, Ok, Err, List, ◌++◌, codes, length, take, drop}
use Rattle.std.specs.Option.{option_map, option_or}
use Rattle.std.specs.Str.{bytes_eq}
use Rattle.vt_disk.specs.declared.region.Region.{Region}
use Rattle.vt_clump.specs.Spelling.{size_in}
use Rattle.vt_model.specs.declared.TheConstants.{ARENA_HEAD_LEN, CLUMP_UNIT}
use Rattle.vt_arena.specs.declared.TheConstants.{FIELDS_LEN}
use Rattle.vt_arena.specs.declared.error.Field.TheVariants.{Version, Number, Sealed, Used, Last}
use Rattle.vt_arena.specs.declared.error.ArenaBad.{ArenaBad}
use Rattle.vt_arena.specs.declared.error.ArenaBad.TheVariants.{Fault, NotFormatted, Torn, NoMemory}
use Rattle.vt_arena.specs.declared.head.ArenaHead.{ArenaHead}
use Rattle.vt_arena.specs.declared.head.Found.{Found}
use Rattle.vt_arena.specs.Arena.{ArenaState}
use Rattle.vt_arena.specs.Heads.{fields_of, own_fields, version_in, number_in, sealed_in, clump_count_in, used_in, last_in}
use Rattle.vt_arena.specs.Layout.{fields_at}
use Rattle.vt_arena.specs.Places.{IsVersion, arena_room, bad_last, directory_room, sectors_of}
use Rattle.vt_arena.specs.Reading.{header_at}

-- what the clumps and the directory that these fields count take
abbrev pub room_taken : List ℕ → ℕ
room_taken fields =
    used_in fields + directory_room (version_in fields) (clump_count_in fields)

-- The first test of a head's values that fails, for an arena of this number and length. Of the
-- versions that there are the later one is wanted.
abbrev pub bad_value : (number len : ℕ) → (version numbered sealed taken : ℕ) → Option ArenaBad
bad_value number len version numbered sealed taken =
    if not (version == 1 || version == 2) then Some (Torn Version version 2)
    else if not (numbered == number) then Some (Torn Number numbered number)
    else if nat_lt 1 sealed then Some (Torn Sealed sealed 1)
    else if nat_lt (arena_room len) taken then Some (Torn Used taken (arena_room len))
    else None

-- The field `last` of a head of version 2 can't be that of so many clumps of `used` bytes in all.
abbrev pub bad_last_value : (version clumps used last : ℕ) → Option ArenaBad
bad_last_value version clumps used last =
    if version == 2
    then option_map (λ want. Torn Last last want) (bad_last clumps used last) else None

-- The first test of the fields of a head that fails, for an arena of this number and length.
abbrev pub first_bad_fields : (number len : ℕ) → (fields : List ℕ) → Option ArenaBad
first_bad_fields number len fields =
    if not (bytes_eq (take 4 fields) (codes "VARN")) then Some NotFormatted
    else option_or (bad_value number len (version_in fields) (number_in fields) (sealed_in fields)
    (room_taken fields))
    (bad_last_value (version_in fields) (clump_count_in fields) (used_in fields) (last_in fields))

-- no test of these fields fails, and they are those of a head of version 2 that counts a clump: they
-- say where the last one is
abbrev pub names_last : (number len : ℕ) → (fields : List ℕ) → Bool
names_last number len fields =
    is_none (first_bad_fields number len fields)
    && (version_in fields == 2 && not (clump_count_in fields == 0))

-- the same of a head in which no test fails
abbrev pub has_last : ArenaHead → Bool
has_last head = head.version == 2 && not (head.clumps == 0)

-- where the last clump begins in its arena's region
abbrev pub last_offset : (used last : ℕ) → ℕ
last_offset used last = ARENA_HEAD_LEN + used - CLUMP_UNIT * last

-- What mounting reads of the arena of this number: the fields of its current head and, where they say
-- where the last clump is, that clump's header, which stands behind them here.
abbrev pub read_at : Region → (number : ℕ) → (file : List ℕ) → List ℕ
read_at region number file =
    let fields = fields_at region file in
    if names_last number region.len fields
    then fields ++ header_at region (last_offset (used_in fields) (last_in fields)) file
    else fields

-- how many reads find an arena of which this is read: a third one for the last clump's header
abbrev pub reads_to_find : (number len : ℕ) → (read : List ℕ) → ℕ
reads_to_find number len read = if names_last number len read then 3 else 2

-- by its header the last clump takes other sectors than the head says
abbrev pub bad_last_header : (last : ℕ) → (header : List ℕ) → Option ArenaBad
bad_last_header last header =
    let sectors = sectors_of (size_in header) in
    if last == sectors then None else Some (Torn Last last sectors)

-- what testing that answers
abbrev pub ChecksLast : (last : ℕ) → (header : List ℕ) → Result (Unit {0}) ArenaBad → Type 0
ChecksLast last header (Ok it) = bad_last_header last header ≡ None
ChecksLast last header (Err NotFormatted) = ⊥
ChecksLast last header (Err (Torn field found want)) =
    bad_last_header last header ≡ Some (Torn field found want)
ChecksLast last header (Err Fault) = ⊤
ChecksLast last header (Err NoMemory) = ⊥

-- The first test that fails of what mounting reads.
abbrev pub first_bad_head : (number len : ℕ) → (read : List ℕ) → Option ArenaBad
first_bad_head number len read =
    option_or (first_bad_fields number len read)
    (if names_last number len read then bad_last_header (last_in read) (drop FIELDS_LEN read) else None)

-- What finding its head answers where these are the fields of the current one.
abbrev pub FindsHead : (number len : ℕ) → (fields : List ℕ) → Result Found ArenaBad → Type 0
FindsHead number len fields (Ok found) =
    (first_bad_fields number len fields ≡ None) × (fields_of found.head ≡ fields)
FindsHead number len fields (Err NotFormatted) =
    first_bad_fields number len fields ≡ Some NotFormatted
FindsHead number len fields (Err (Torn field found want)) =
    first_bad_fields number len fields ≡ Some (Torn field found want)
FindsHead number len fields (Err Fault) = ⊤
FindsHead number len fields (Err NoMemory) = ⊥

-- What finding an arena answers where this is read of it.
abbrev pub FindsArena : (number len : ℕ) → (read : List ℕ) → Result Found ArenaBad → Type 0
FindsArena number len read (Ok found) =
    (first_bad_head number len read ≡ None) × (fields_of found.head ≡ own_fields read)
FindsArena number len read (Err NotFormatted) =
    first_bad_head number len read ≡ Some NotFormatted
FindsArena number len read (Err (Torn field found want)) =
    first_bad_head number len read ≡ Some (Torn field found want)
FindsArena number len read (Err Fault) = ⊤
FindsArena number len read (Err NoMemory) = ⊥

-- What mounting an arena does where this is read of it; memory runs out only where no test fails.
abbrev pub MountsArena : (number len : ℕ) → (read : List ℕ) → Result ArenaState ArenaBad → Type 0
MountsArena number len read (Ok a) =
    (first_bad_head number len read ≡ None) × (fields_of a.head ≡ own_fields read)
MountsArena number len read (Err NotFormatted) =
    first_bad_head number len read ≡ Some NotFormatted
MountsArena number len read (Err (Torn field found want)) =
    first_bad_head number len read ≡ Some (Torn field found want)
MountsArena number len read (Err Fault) = ⊤
MountsArena number len read (Err NoMemory) = first_bad_head number len read ≡ None

-- A head of this number, for which an arena of this length has room. Its last clump lies among those
-- that it counts; version 1 doesn't say how long that one is.
pub record CanStand (number len : ℕ) (h : ArenaHead) : Type 0 where
  pub version : IsVersion h.version
  pub number_is : h.number ≡ number
  pub chain : length h.chain.0 ≡ 20
  pub fit : h.used + directory_room h.version h.clumps ≤ arena_room len
  pub last : h.version ≡ 2 → bad_last h.clumps h.used h.last ≡ None
  pub no_last : h.version ≡ 1 → h.last ≡ 0

-- the refusal tells of a fault of the disk in this call
abbrev pub is_arena_fault : ArenaBad → Bool
is_arena_fault Fault = true
is_arena_fault NotFormatted = false
is_arena_fault (Torn field found want) = false
is_arena_fault NoMemory = false
