-- The metadata of an archived folder: a record for each item, one behind another, in the order of
-- the items' names. A record is
--   name[s] kind[1] entry[4] mode[4] mtime[4] qid[8] uid[s] gid[s]
-- Numbers have their highest byte first, and `[s]` is two bytes of length and so many bytes. The
-- layout is this project's; what it tells is what vac(1) keeps of a file.
use Rattle.std.specs.Prelude.{◌≡◌, ◌<◌, ◌≤◌, ◌^◌, ◌==◌, ◌||◌, ⊤, Bool, true, ℕ, Option, Some, None, List, [], ◌∷◌, ◌++◌, length, position}
use Rattle.std.specs.List.{AllByRecursion, flat_map}
use Rattle.std.specs.Ordering.{nat_cmp, is_lt}
use Rattle.std.specs.Cmp.Lexicographic.{slice_cmp}
use Rattle.byteorder.specs.Endian.{big_bytes}
use Rattle.vac_meta.specs.declared.TheConstants.{MAX_NAME}
use Rattle.vac_meta.specs.declared.record.Record.{Record}
use Rattle.vac_meta.specs.declared.record.RecordKind.{RecordKind}
use Rattle.vac_meta.specs.declared.record.RecordKind.TheVariants.{File, Folder}

-- two bytes of length, and so many bytes
abbrev pub string : List ℕ → List ℕ
string bytes = big_bytes 2 (length bytes) ++ bytes

-- the byte that tells file or folder
abbrev pub kind_byte : RecordKind → ℕ
kind_byte File = 0
kind_byte Folder = 1

-- the kind and the numbers of a record
abbrev pub number_fields : Record → List ℕ
number_fields r = kind_byte r.kind ∷ (big_bytes 4 r.entry ++ (big_bytes 4 r.mode
    ++ (big_bytes 4 r.mtime ++ big_bytes 8 r.qid)))

-- the bytes of a record
abbrev pub record_bytes : Record → List ℕ
record_bytes r = string r.name ++ (number_fields r ++ (string r.uid ++ string r.gid))

-- the bytes of records, one behind the other
abbrev pub all_spelled : List Record → List ℕ
all_spelled records = flat_map record_bytes records

-- a byte that no name has: a slash or zero
abbrev pub is_barred : ℕ → Bool
is_barred b = b == 47 || b == 0

-- what may name an item: 1 to 255 bytes, none of them a slash or zero
pub record IsItemName (name : List ℕ) : Type 0 where
  pub some : 1 ≤ length name
  pub most : length name ≤ MAX_NAME
  pub plain : position is_barred name ≡ None

-- what the fields have room for by their types
pub record HasRanges (r : Record) : Type 0 where
  pub entry : r.entry < 2 ^ 32
  pub mode : r.mode < 2 ^ 32
  pub mtime : r.mtime < 2 ^ 32
  pub qid : r.qid < 2 ^ 64

-- what the texts of a record may be
pub record FitsRecord (r : Record) : Type 0 where
  pub name : IsItemName r.name
  pub uid : length r.uid ≤ MAX_NAME
  pub gid : length r.gid ≤ MAX_NAME

-- what may stand in a folder's metadata
pub record IsRecord (r : Record) : Type 0 where
  pub fits : FitsRecord r
  pub ranges : HasRanges r

-- a name is above the one before it, if there is one, in the order of their bytes
abbrev pub is_next : (last : Option (List ℕ)) → (name : List ℕ) → Bool
is_next None name = true
is_next (Some last) name = is_lt (slice_cmp nat_cmp last name)

-- each name is above the one before it, and the first above this one, if it is there
abbrev pub Ascend : (last : Option (List ℕ)) → List Record → Type 0
Ascend last [] = ⊤
Ascend last (r ∷ records) = (is_next last r.name ≡ true) × Ascend (Some r.name) records

-- the last of their names, or this one where there are none
abbrev pub last_name : (last : Option (List ℕ)) → List Record → Option (List ℕ)
last_name last [] = last
last_name last (r ∷ records) = last_name (Some r.name) records

-- the records of a folder
pub record AreRecords (records : List Record) : Type 0 where
  pub each : AllByRecursion IsRecord records
  pub ascending : Ascend None records

-- the bytes are the metadata of a folder with these records
pub record SpellsMetadata (records : List Record) (bytes : List ℕ) : Type 0 where
  pub allowed : AreRecords records
  pub is : bytes ≡ all_spelled records
