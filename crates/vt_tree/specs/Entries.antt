-- An entry, which stands for a file or a directory (venti(6)), 40 bytes:
--   gen[4] psize[2] dsize[2] flags[1] zero[5] size[6] score[20]
-- Numbers have their highest byte first. Of the flags 0x01 says that the entry is active, 0x02 that
-- it is a directory, and 0x1c is the depth, shifted left by 2. 0x20 and 0x80 aren't looked at, and
-- 0x40, for sizes of another form, is refused. The five zero bytes aren't looked at.
use Rattle.std.specs.Prelude.{ℕ, ◌≡◌, ◌+◌, ◌*◌, ◌/◌, ◌%◌, ◌<◌, ◌^◌, ◌==◌, not, nat_lt, Bool, if◌then◌else◌, Option, Some, None, List, [], ◌∷◌, ◌++◌, length, drop, slice_index}
use Rattle.byteorder.specs.Endian.{big_bytes, big_number}
use Rattle.vt_tree.specs.declared.entry.Entry.{Entry}
use Rattle.vt_tree.specs.declared.entry.EntryField.{EntryField}
use Rattle.vt_tree.specs.declared.entry.EntryField.TheVariants.{PSize, DSize, Flags}
use Rattle.vt_tree.specs.declared.entry.EntryError.{EntryError}

-- what the fields of an entry have room for, beyond their types
pub record FitsEntry (e : Entry) : Type 0 where
  pub depth : e.depth < 8
  pub size : e.size < 2 ^ 48

-- this field has this number, which it can't
abbrev pub bad : EntryField → ℕ → EntryError
bad field found = record { field = field; found = found }

-- The first field that can't stand in an active entry: a pointer block has room for a score, a leaf
-- for a byte, and a leaf of a directory for an entry.
abbrev pub entry_fault : Entry → Option EntryError
entry_fault e =
    if not e.active then None
    else if nat_lt e.psize 20 then Some (bad PSize e.psize)
    else if nat_lt e.dsize (if e.is_dir then 40 else 1) then Some (bad DSize e.dsize)
    else None

-- what the fields have room for by their types
pub record HasRanges (e : Entry) : Type 0 where
  pub generation : e.generation < 2 ^ 32
  pub psize : e.psize < 2 ^ 16
  pub dsize : e.dsize < 2 ^ 16
  pub score : length e.score.0 ≡ 20

-- an entry that may stand in a directory
pub record IsTreeEntry (e : Entry) : Type 0 where
  pub fits : FitsEntry e
  pub ranges : HasRanges e
  pub allowed : entry_fault e ≡ None

-- the number of a flag
abbrev pub bit : Bool → ℕ
bit b = if b then 1 else 0

-- the flags as they are written
abbrev pub flags_of : Entry → ℕ
flags_of e = bit e.active + 2 * bit e.is_dir + 4 * e.depth

-- an entry's bytes, with these flags and these five bytes between
abbrev pub spelled_with : Entry → (flags : ℕ) → (between : List ℕ) → List ℕ
spelled_with e flags between =
    big_bytes 4 e.generation ++ (big_bytes 2 e.psize ++ (big_bytes 2 e.dsize
    ++ (flags ∷ (between ++ (big_bytes 6 e.size ++ e.score.0)))))

-- an entry's bytes as they are written
abbrev pub tree_entry_bytes : Entry → List ℕ
tree_entry_bytes e = spelled_with e (flags_of e) (0 ∷ 0 ∷ 0 ∷ 0 ∷ 0 ∷ [])

-- the bytes spell the entry
pub record SpellsEntry (e : Entry) (bytes : List ℕ) : Type 0 where
  pub flag_20 : Bool
  pub flag_80 : Bool
  pub between : List ℕ
  pub five : length between ≡ 5
  pub is : bytes ≡ spelled_with e (flags_of e + 32 * bit flag_20 + 128 * bit flag_80) between

-- what the fields of 40 bytes say
abbrev pub flags_in : List ℕ → ℕ
flags_in bytes = slice_index bytes 8

-- the entry that 40 bytes spell
abbrev pub entry_in : List ℕ → Entry
entry_in bytes = record {
  generation = big_number 4 bytes;
  psize = big_number 2 (drop 4 bytes);
  dsize = big_number 2 (drop 6 bytes);
  active = flags_in bytes % 2 == 1;
  is_dir = flags_in bytes / 2 % 2 == 1;
  depth = flags_in bytes / 4 % 8;
  size = big_number 6 (drop 14 bytes);
  score = record { 0 = drop 20 bytes };
}

-- The first field of 40 bytes that can't stand there. The flag 0x40 is looked at last.
abbrev pub fault_behind : Option EntryError → ℕ → Option EntryError
fault_behind (Some fault) flags = Some fault
fault_behind None flags = if flags / 64 % 2 == 1 then Some (bad Flags flags) else None

-- what is wrong with an entry's bytes, if anything is: a field of it, or a flag that isn't known
abbrev pub entry_fault_in : List ℕ → Option EntryError
entry_fault_in bytes = fault_behind (entry_fault (entry_in bytes)) (flags_in bytes)
