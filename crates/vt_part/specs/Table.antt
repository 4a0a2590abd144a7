-- A partition of arenas: a table in a block, and behind it arenas of one size, one
-- after another (venti(8) formats one by fmtarenas; the layout is this project's). The table is
--   magic[4] version[2] name[64] arenasize[8] count[4]
-- Numbers have their highest byte first, and zeros fill up the name. What lies behind the table in
-- its block isn't read, and is written as zero.
use Rattle.std.specs.Prelude.{◌≡◌, ◌≢◌, ◌==◌, ℕ, ◌+◌, ◌-◌, ◌*◌, ◌/◌, ◌%◌, ◌^◌, ◌<◌, ◌≤◌, min, Bool, ◌&&◌, ◌||◌, nat_le, IsTrue, List, ◌++◌, All, codes, length, take, slice_index}
use Rattle.std.specs.Char.{is_ascii_alphanumeric}
use Rattle.byteorder.specs.Endian.{big_bytes}
use Rattle.vt_disk.specs.declared.TheConstants.{BLOCK_LEN, NAME_LEN, LEAST_ARENA, MOST_ARENA}
use Rattle.vt_base.specs.Filled.{filled}
use Rattle.vt_part.specs.declared.TheConstants.{TABLE_LEN}

-- what the table says: the partition's name, the size of its arenas, and how many there are
pub record Table : Type 0 where
  pub name : List ℕ
  pub arena_size : ℕ
  pub count : ℕ

-- a letter or a digit of ASCII, a dot, a dash or an underscore
abbrev pub is_name_byte : ℕ → Bool
is_name_byte b = is_ascii_alphanumeric b || b == 46 || b == 45 || b == 95

-- the names that a partition is given
pub record IsPartName (name : List ℕ) : Type 0 where
  pub some : 0 < length name
  pub most : length name ≤ NAME_LEN
  pub each : All (λ b. IsTrue (is_name_byte b)) name

-- whole blocks, from 32 KiB to 1 GiB
abbrev pub is_arena_size : ℕ → Bool
is_arena_size n = n % BLOCK_LEN == 0 && nat_le LEAST_ARENA n && nat_le n MOST_ARENA

-- an arena may have so many bytes
abbrev pub IsArenaSize : ℕ → Type 0
IsArenaSize n = IsTrue (is_arena_size n)

-- the name has none of the zeros that fill it up behind it
abbrev pub HasNoFill : List ℕ → Type 0
HasNoFill name = 0 < length name → slice_index name (length name - 1) ≢ 0

-- what a table may say; its name may have any bytes
pub record IsTable (t : Table) : Type 0 where
  pub name_len : length t.name ≤ NAME_LEN
  pub name_end : HasNoFill t.name
  pub arena_size : IsArenaSize t.arena_size
  pub some : 0 < t.count
  pub count : t.count < 2 ^ 32

-- the table's bytes
abbrev pub table_bytes : Table → List ℕ
table_bytes t = codes "VPRT" ++ (big_bytes 2 1 ++ (filled NAME_LEN t.name
    ++ (big_bytes 8 t.arena_size ++ big_bytes 4 t.count)))

-- the bytes of a disk that the table stands in
abbrev pub head_of : (file : List ℕ) → List ℕ
head_of file = take TABLE_LEN file

-- the block as it is written
abbrev pub table_block : Table → List ℕ
table_block t = filled BLOCK_LEN (table_bytes t)

-- where an arena begins, by its number from 0 on, among arenas of this size
abbrev pub start_by : (arena_size number : ℕ) → ℕ
start_by arena_size number = BLOCK_LEN + number * arena_size

-- where an arena of a table begins, and where the last one ends
abbrev pub start_of : Table → (number : ℕ) → ℕ
start_of t number = start_by t.arena_size number

-- the place behind the partition's last arena
abbrev pub arenas_end : Table → ℕ
arenas_end t = start_of t t.count

-- the disk's bytes are a partition with this table
pub record IsPartition (t : Table) (file : List ℕ) : Type 0 where
  pub table : IsTable t
  pub spelling : head_of file ≡ table_bytes t
  pub room : arenas_end t ≤ length file

-- How many arenas of this size a disk of this length has room for. The count's field has four
-- bytes, so that the end of a disk of more than 128 TiB may be left unused.
abbrev pub count_for : (len arena_size : ℕ) → ℕ
count_for len arena_size = min ((len - BLOCK_LEN) / arena_size) (2 ^ 32 - 1)

-- the table that formatting writes on a disk of this length
abbrev pub table_for : (name : List ℕ) → (len arena_size : ℕ) → Table
table_for name len arena_size =
    record { name = name; arena_size = arena_size; count = count_for len arena_size }
