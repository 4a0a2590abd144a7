-- Walking an arena from its last block to the first: by its directory or, where it is of version 2
-- and isn't sealed, by the headers of its clumps, each of which names how many sectors the clump
-- before it takes.
use Rattle.std.specs.Prelude.{◌≡◌, ⊤, ℕ, ◌+◌, ◌-◌, ◌*◌, ◌<◌, ◌==◌, ◌&&◌, ◌||◌, nat_lt, not, Bool, IsTrue, true, false, if◌then◌else◌, Option, Some, None, Result, Ok, Err, List, [], ◌∷◌, codes, length, take, drop, slice_index}
use Rattle.std.specs.Option.{option_map, option_or}
use Rattle.std.specs.Str.{bytes_eq}
use Rattle.byteorder.specs.Endian.{big_number}
use Rattle.vt_base.specs.Damage.{Differ}
use Rattle.vt_base.specs.declared.TheConstants.{MAX_BLOCK}
use Rattle.vt_base.specs.Kind.{is_kind}
use Rattle.vt_base.specs.declared.place.Info.{Info}
use Rattle.vt_base.specs.declared.why.FieldValue.TheVariants.{Number, Magic}
use Rattle.vt_disk.specs.declared.region.Region.{Region}
use Rattle.vt_disk.specs.Disk.{part}
use Rattle.vt_clump.specs.Spelling.{Stored}
use Rattle.vt_model.specs.declared.TheConstants.{ARENA_HEAD_LEN, CLUMP_UNIT, DIRECTORY_ENTRY_LEN}
use Rattle.vt_arena.specs.declared.error.BackBad.{BackBad}
use Rattle.vt_arena.specs.declared.error.BackBad.TheVariants.{Fault, Damaged}
use Rattle.vt_arena.specs.declared.directory.At.{At}
use Rattle.vt_arena.specs.declared.head.ArenaHead.{ArenaHead}
use Rattle.vt_arena.specs.Layout.{directory_place, used_of}
use Rattle.vt_arena.specs.Places.{bad_last, block_room, offset_of, sectors_of}
use Rattle.vt_arena.specs.Reading.{header_at}

-- ---- what is read

-- an arena with this head is walked by the headers of its clumps: it has no directory yet
abbrev pub walks_headers : ArenaHead → Bool
walks_headers head = head.version == 2 && not head.sealed

-- the last entry of a directory of so many
abbrev pub last_entry : Region → (entries : ℕ) → (file : List ℕ) → List ℕ
last_entry region entries file = part (directory_place region entries) DIRECTORY_ENTRY_LEN file

-- the header of the clump at which a walk by headers stands
abbrev pub last_header : Region → At → (file : List ℕ) → List ℕ
last_header region at file =
    header_at region (ARENA_HEAD_LEN + at.end - CLUMP_UNIT * at.sectors) file

-- what a walk reads of the block at which it stands
abbrev pub what_is_walked : ArenaHead → Region → At → (file : List ℕ) → List ℕ
what_is_walked head region at file =
    if walks_headers head then last_header region at file else last_entry region at.index file

-- ---- what is said there, by the fields' places

-- the directory entry in a header: its fields stand behind the magic number, in the entry's order
abbrev pub entry_in_header : (header : List ℕ) → List ℕ
entry_in_header header = part 4 DIRECTORY_ENTRY_LEN header

-- the directory entry in what a walk reads
abbrev pub entry_in : ArenaHead → (bytes : List ℕ) → List ℕ
entry_in head bytes = if walks_headers head then entry_in_header bytes else bytes

-- the type of a directory entry
abbrev pub kind_in : List ℕ → ℕ
kind_in entry = slice_index entry 0

-- the size field of a directory entry
abbrev pub size_in_entry : List ℕ → ℕ
size_in_entry entry = big_number 2 (drop 1 entry)

-- the field of a directory entry with the size before compression
abbrev pub uncsize_in_entry : List ℕ → ℕ
uncsize_in_entry entry = big_number 2 (drop 3 entry)

-- the score of a directory entry
abbrev pub score_in_entry : List ℕ → List ℕ
score_in_entry entry = take 20 (drop 5 entry)

-- how many sectors the clump before takes, by the field `creator` of a header
abbrev pub sectors_before : (header : List ℕ) → ℕ
sectors_before header = big_number 4 (drop 30 header)

-- ---- the tests

-- the type and the sizes of an entry aren't those of a block
abbrev pub bad_sizes : (entry : List ℕ) → Option BackBad
bad_sizes entry =
    let size = size_in_entry entry in
    if not (is_kind (kind_in entry)) then Some (Damaged (Number 13) (Number (kind_in entry)))
    else if size == 0 || nat_lt MAX_BLOCK size then Some (Damaged (Number 1) (Number size))
    else if not (uncsize_in_entry entry == size)
    then Some (Damaged (Number size) (Number (uncsize_in_entry entry)))
    else None

-- the clumps can't make up what comes before `end`: there isn't as much, or more where this is the
-- first of them
abbrev pub is_out_of_sum : At → (room : ℕ) → Bool
is_out_of_sum at room = nat_lt at.end room || (at.index == 1 && not (at.end == room))

-- a clump that takes so much is out of the sum, in an arena with `used` bytes of clumps
abbrev pub bad_sum : (used : ℕ) → At → (room : ℕ) → Option BackBad
bad_sum used at room =
    if is_out_of_sum at room then Some (Damaged (Number used) (Number (used - at.end + room)))
    else None

-- The first test of a directory entry that fails.
abbrev pub first_bad_entry : ArenaHead → At → (entry : List ℕ) → Option BackBad
first_bad_entry head at entry =
    option_or (bad_sizes entry)
    (bad_sum head.used at (block_room head.version (size_in_entry entry)))

-- it is no clump that begins there
abbrev pub bad_magic : (header : List ℕ) → Option BackBad
bad_magic header =
    if bytes_eq (take 4 header) (codes "VCLP") then None
    else Some (Damaged (Magic (codes "VCLP")) (Magic (take 4 header)))

-- the clump of a block of this size takes other sectors than the clump behind it names, or the head
abbrev pub bad_sectors : At → (size : ℕ) → Option BackBad
bad_sectors at size =
    if sectors_of size == at.sectors then None
    else Some (Damaged (Number at.sectors) (Number (sectors_of size)))

-- before a clump that takes so much there can't be one of so many sectors
abbrev pub bad_before : At → (room before : ℕ) → Option BackBad
bad_before at room before =
    option_map (λ want. Damaged (Number want) (Number before))
    (bad_last (at.index - 1) (at.end - room) before)

-- The first test of a clump's header that fails.
abbrev pub first_bad_header : ArenaHead → At → (header : List ℕ) → Option BackBad
first_bad_header head at header =
    let size = size_in_entry (entry_in_header header) in
    let room = block_room head.version size in
    option_or (option_or (option_or (option_or (bad_magic header)
    (bad_sizes (entry_in_header header)))
    (bad_sectors at size))
    (bad_sum head.used at room))
    (bad_before at room (sectors_before header))

-- the first test that fails of what a walk reads
abbrev pub first_bad_walked : ArenaHead → At → (bytes : List ℕ) → Option BackBad
first_bad_walked head at bytes =
    if walks_headers head then first_bad_header head at bytes else first_bad_entry head at bytes

-- ---- what a walk gives

-- what a walk gives at an entry
pub record IsInfoOf (head : ArenaHead) (at : At) (entry : List ℕ) (info : Info) : Type 0 where
  pub kind : info.key.kind ≡ kind_in entry
  pub score : info.key.score.0 ≡ score_in_entry entry
  pub size : info.size ≡ size_in_entry entry
  pub arena : info.place.arena ≡ head.number
  pub offset : info.place.offset
      ≡ ARENA_HEAD_LEN + (at.end - block_room head.version (size_in_entry entry))
  pub number_is : info.number ≡ at.index - 1

-- Where a walk by headers stands there is a clump of so many sectors, or none is left.
abbrev pub IsOnClump : ArenaHead → At → Type 0
IsOnClump head at = IsTrue (walks_headers head) → bad_last at.index at.end at.sectors ≡ None

-- the walk stands at the block behind these, in an arena with this head
pub record IsAtBlock (head : ArenaHead) (before : List Stored) (s : Stored) (at : At)
    : Type 0 where
  pub index : at.index ≡ length before + 1
  pub end : at.end ≡ used_of head.version before + block_room head.version (length s.block)
  pub sectors : IsTrue (walks_headers head) → at.sectors ≡ sectors_of (length s.block)

-- What a walk of an arena with this head gives of a block.
pub record IsInfoOfBlock (head : ArenaHead) (before : List Stored) (s : Stored) (info : Info)
    : Type 0 where
  pub kind : info.key.kind ≡ s.kind
  pub score : info.key.score.0 ≡ s.score
  pub size : info.size ≡ length s.block
  pub arena : info.place.arena ≡ head.number
  pub offset : info.place.offset ≡ offset_of head.version before
  pub number_is : info.number ≡ length before

-- where a walk stands behind the block of an entry, before whose clump one takes so many sectors
abbrev pub moved_before : ArenaHead → At → (entry : List ℕ) → (before : ℕ) → At
moved_before head at entry before = record {
  index = at.index - 1;
  end = at.end - block_room head.version (size_in_entry entry);
  sectors = before;
}

-- The answer of a walk that gives this entry where no test fails, and where it stands then.
abbrev pub WalksBy : ArenaHead → (bad : Option BackBad) → (entry : List ℕ) → (before : ℕ)
    → (old new : At) → Result Info BackBad → Type 0
WalksBy head bad entry before old new (Ok info) =
    (bad ≡ None) × IsInfoOf head old entry info × (new ≡ moved_before head old entry before)
WalksBy head bad entry before old new (Err Fault) = new ≡ old
WalksBy head bad entry before old new (Err (Damaged want found)) =
    (bad ≡ Some (Damaged want found)) × (new ≡ old)

-- how many sectors the clump before takes by what a walk reads; a directory entry doesn't say
abbrev pub before_in : ArenaHead → (bytes : List ℕ) → ℕ
before_in head bytes = if walks_headers head then sectors_before bytes else 0

-- The answer of a walk for what was read, and where it stands then.
abbrev pub WalksOn : ArenaHead → (old new : At) → (bytes : List ℕ) → Result Info BackBad → Type 0
WalksOn head old new bytes result =
    WalksBy head (first_bad_walked head old bytes) (entry_in head bytes) (before_in head bytes) old
    new result

-- where a walk of an arena with this head begins
abbrev pub walk_start : ArenaHead → At
walk_start head = record { index = head.clumps; end = head.used; sectors = head.last }

-- A walk that stands at the first place, reads these one behind another and goes on behind each,
-- since no test of it fails, stands at the second; and the file has them there, if its disk tells.
abbrev pub WalksTo : (tells : Bool) → ArenaHead → Region → (file : List ℕ) → (from : At)
    → (read : List (List ℕ)) → (to : At) → Type 0
WalksTo tells head region file from [] to = to ≡ from
WalksTo tells head region file from (bytes ∷ rest) to =
    (0 < from.index)
    × (IsTrue tells → bytes ≡ what_is_walked head region from file)
    × (first_bad_walked head from bytes ≡ None)
    × WalksTo tells head region file
    (moved_before head from (entry_in head bytes) (before_in head bytes)) rest to

-- A walk of the arena with this head comes to this place.
pub record IsReached (tells : Bool) (head : ArenaHead) (region : Region) (file : List ℕ) (at : At)
    : Type 0 where
  pub read : List (List ℕ)
  pub walk : WalksTo tells head region file (walk_start head) read at

-- the answer tells of a fault of the disk in this call
abbrev pub is_back_fault : BackBad → Bool
is_back_fault Fault = true
is_back_fault (Damaged want found) = false

-- what was wanted and what was found aren't the same
abbrev pub NamesDamage : BackBad → Type 0
NamesDamage Fault = ⊤
NamesDamage (Damaged want found) = Differ want found
