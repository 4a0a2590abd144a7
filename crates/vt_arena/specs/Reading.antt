-- What reading a clump answers.
use Rattle.std.specs.Prelude.{◌≡◌, ⊤, ℕ, ◌+◌, ◌-◌, ◌≤◌, nat_le, min, Bool, true, false, if◌then◌else◌, List, Some, None, Result, Ok, Err, codes}
use Rattle.vt_base.specs.declared.why.FieldValue.{FieldValue}
use Rattle.vt_base.specs.declared.why.FieldValue.TheVariants.{Number, Score as ScoreValue, Magic as MagicValue}
use Rattle.vt_disk.specs.declared.region.Region.{Region}
use Rattle.vt_disk.specs.Disk.{part}
use Rattle.vt_clump.specs.declared.reading.Clump.{Clump}
use Rattle.vt_clump.specs.declared.reading.Encoding.TheVariants.{Compressed, Unknown}
use Rattle.vt_clump.specs.declared.reading.ClumpBad.{ClumpBad}
use Rattle.vt_clump.specs.declared.reading.ClumpBad.TheVariants.{Short, Magic, Kind, Encoding, Size, Score, NoMemory as ClumpNoMemory}
use Rattle.vt_clump.specs.Faults.{first_bad_clump}
use Rattle.vt_clump.specs.Spelling.{clump_len, size_in, stored_in}
use Rattle.vt_clump.specs.Clumps.{IsClumpRead}
use Rattle.vt_model.specs.declared.TheConstants.{ARENA_HEAD_LEN, CLUMP_HEADER_LEN}
use Rattle.vt_arena.specs.declared.error.ReadBad.{ReadBad}
use Rattle.vt_arena.specs.declared.error.ReadBad.TheVariants.{Fault, Damaged, NoMemory}

-- a clump's header at this offset lies in a region of this length, behind the head
abbrev pub HasHeader : (len offset : ℕ) → Type 0
HasHeader len offset = (ARENA_HEAD_LEN ≤ offset) × (offset + CLUMP_HEADER_LEN ≤ len)

-- the header at an offset, and the clump that it begins, cut at the region's end
abbrev pub header_at : Region → (offset : ℕ) → (file : List ℕ) → List ℕ
header_at region offset file = part (region.start + offset) CLUMP_HEADER_LEN file

-- the bytes of the clump at this offset, by the size in its header, within the region
abbrev pub clump_at : Region → (offset : ℕ) → (file : List ℕ) → List ℕ
clump_at region offset file =
    let len = clump_len (size_in (header_at region offset file)) in
    part (region.start + offset) (min len (region.len - offset)) file

-- how many calls read the clump of a block of n bytes that is expected to have `size` at most
abbrev pub reads_for : (size n : ℕ) → ℕ
reads_for size n = if nat_le n size then 1 else 2

-- what was wanted, and what was found
abbrev pub damage_of_clump : ClumpBad → FieldValue × FieldValue
damage_of_clump Short = (Number CLUMP_HEADER_LEN, Number 0)
damage_of_clump (Magic found) = (MagicValue (codes "VCLP"), MagicValue found)
damage_of_clump (Kind found) = (Number 13, Number found)
damage_of_clump (Encoding Compressed) = (Number 1, Number 2)
damage_of_clump (Encoding (Unknown found)) = (Number 1, Number found)
damage_of_clump (Size want found) = (Number want, Number found)
damage_of_clump (Score want found) = (ScoreValue want, ScoreValue found)
damage_of_clump ClumpNoMemory = (Number 0, Number 0)

-- the bytes are damaged so: by the first test of a clump that fails
abbrev pub IsDamaged : (score_of : List ℕ → List ℕ) → (bytes : List ℕ) → (want found : FieldValue)
    → Type 0
IsDamaged score_of bytes want found =
    (bad : ClumpBad) × (first_bad_clump score_of bytes ≡ Some bad)
    × (damage_of_clump bad ≡ (want, found))

-- the answer where a header at the offset lies in the region and these are the clump's bytes
abbrev pub ReadsClumpAs : (score_of : List ℕ → List ℕ) → (bytes : List ℕ) → Result Clump ReadBad
    → Type 0
ReadsClumpAs score_of bytes (Ok clump) =
    (first_bad_clump score_of bytes ≡ None) × IsClumpRead (stored_in bytes) clump
ReadsClumpAs score_of bytes (Err (Damaged want found)) = IsDamaged score_of bytes want found
ReadsClumpAs score_of bytes (Err NoMemory) = ⊤
ReadsClumpAs score_of bytes (Err Fault) = ⊤

-- the answer tells of a fault of the disk in this call
abbrev pub is_clump_fault : ReadBad → Bool
is_clump_fault Fault = true
is_clump_fault (Damaged want found) = false
is_clump_fault NoMemory = false
