-- Why bytes are no folder's metadata: the first record that can't stand there, and the first of its
-- fields that can't. A flaw's place is that of its field, or of the byte that no name has; of what
-- is cut off it is the end of the bytes.
use Rattle.std.specs.Prelude.{◌≡◌, ◌≢◌, ◌+◌, ◌==◌, ◌||◌, ℕ, Option, Some, None, List, [], ◌++◌, length, take, drop, slice_index, if◌then◌else◌, nat_lt, position}
use Rattle.std.specs.Option.{option_or}
use Rattle.byteorder.specs.Endian.{big_number}
use Rattle.vac_meta.specs.declared.TheConstants.{MAX_NAME}
use Rattle.vac_meta.specs.declared.error.RecordCause.TheVariants.{Cut, NameLength, NameByte, Order, Kind, OwnerLength}
use Rattle.vac_meta.specs.declared.error.MetaErr.{MetaErr}
use Rattle.vac_meta.specs.declared.error.MetaErr.TheVariants.{Bad}
use Rattle.vac_meta.specs.declared.record.Record.{Record}
use Rattle.vac_meta.specs.Records.{AreRecords, all_spelled, last_name, is_barred, is_next}

-- the string in front of the bytes: its length as it is told, as much of it as is there, and what
-- stands behind it
abbrev pub string_len : List ℕ → ℕ
string_len bytes = big_number 2 bytes

-- the string in front, by the two bytes that count it
abbrev pub string_in : List ℕ → List ℕ
string_in bytes = take (string_len bytes) (drop 2 bytes)

-- what stands behind the string in front
abbrev pub behind_string : List ℕ → List ℕ
behind_string bytes = drop (2 + string_len bytes) bytes

-- what stands from a place on ends too early
abbrev pub cut : (at : ℕ) → List ℕ → Option MetaErr
cut at bytes = Some (Bad (at + length bytes) Cut)

-- ---- the tests of each field, which stands in front of these bytes, at this place

-- a name, behind one of this name, if there is one, with its first barred byte, if it has one
abbrev pub flaw_of_name_bytes : (last : Option (List ℕ)) → (at : ℕ) → List ℕ → Option ℕ
    → Option MetaErr
flaw_of_name_bytes last at bytes (Some i) = Some (Bad (at + 2 + i) NameByte)
flaw_of_name_bytes last at bytes None =
    if nat_lt (length bytes) (2 + string_len bytes) then cut at bytes
    else if is_next last (string_in bytes) then None
    else Some (Bad at Order)

-- what is wrong with a record's name, if anything is: it is cut off, of no length that a name has, has
-- a byte that none has, or isn't above the name before it
abbrev pub flaw_of_name : (last : Option (List ℕ)) → (at : ℕ) → List ℕ → Option MetaErr
flaw_of_name last at bytes =
    if nat_lt (length bytes) 2 then cut at bytes
    else if string_len bytes == 0 || nat_lt MAX_NAME (string_len bytes)
    then Some (Bad at NameLength)
    else flaw_of_name_bytes last at bytes (position is_barred (string_in bytes))

-- the kind, and the numbers behind it
abbrev pub flaw_of_numbers : (at : ℕ) → List ℕ → Option MetaErr
flaw_of_numbers at bytes =
    if length bytes == 0 then cut at bytes
    else if nat_lt 1 (slice_index bytes 0) then Some (Bad at Kind)
    else if nat_lt (length bytes) 21 then cut at bytes
    else None

-- a uid or a gid
abbrev pub flaw_of_owner : (at : ℕ) → List ℕ → Option MetaErr
flaw_of_owner at bytes =
    if nat_lt (length bytes) 2 then cut at bytes
    else if nat_lt MAX_NAME (string_len bytes) then Some (Bad at OwnerLength)
    else if nat_lt (length bytes) (2 + string_len bytes) then cut at bytes
    else None

-- ---- the first test that fails, from a field on

-- what is wrong with a record from the user's name on
abbrev pub flaw_from_uid : (at : ℕ) → List ℕ → Option MetaErr
flaw_from_uid at bytes =
    option_or (flaw_of_owner at bytes)
    (flaw_of_owner (at + 2 + string_len bytes) (behind_string bytes))

-- what is wrong with a record from its kind on: 21 bytes of numbers, and the names behind them
abbrev pub flaw_from_kind : (at : ℕ) → List ℕ → Option MetaErr
flaw_from_kind at bytes =
    option_or (flaw_of_numbers at bytes) (flaw_from_uid (at + 21) (drop 21 bytes))

-- the whole record in front of these bytes, at this place, and behind one of this name
abbrev pub first_flaw : (last : Option (List ℕ)) → (at : ℕ) → List ℕ → Option MetaErr
first_flaw last at bytes =
    option_or (flaw_of_name last at bytes)
    (flaw_from_kind (at + 2 + string_len bytes) (behind_string bytes))

-- The bytes begin with the records of a folder, and more stands behind these, of which the first
-- test that fails is this one.
pub record IsRefusedMetadata (bytes : List ℕ) (why : MetaErr) : Type 0 where
  pub good : List Record
  pub rest : List ℕ
  pub allowed : AreRecords good
  pub is : bytes ≡ all_spelled good ++ rest
  pub some : rest ≢ []
  pub flaw : first_flaw (last_name None good) (length (all_spelled good)) rest ≡ Some why
