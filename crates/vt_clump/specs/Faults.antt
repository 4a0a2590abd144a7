-- Why bytes don't begin with a clump: the first test that fails, field by field.
use Rattle.std.specs.Prelude.{◌≡◌, ◌⊎◌, ℕ, ◌-◌, ◌==◌, nat_lt, not, if◌then◌else◌, Option, Some, None, Result, MatchResult, List, codes, length, take, slice_index}
use Rattle.std.specs.Str.{bytes_eq}
use Rattle.vt_base.specs.Kind.{is_kind}
use Rattle.vt_base.specs.declared.TheConstants.{MAX_BLOCK}
use Rattle.vt_clump.specs.declared.reading.ClumpBad.{ClumpBad}
use Rattle.vt_clump.specs.declared.reading.ClumpBad.TheVariants.{Short, Magic, Kind, Encoding as BadEncoding, Size, Score as BadScore, NoMemory}
use Rattle.vt_clump.specs.declared.reading.Encoding.TheVariants.{Compressed, Unknown}
use Rattle.vt_clump.specs.declared.header.TheConstants.{HEADER_LEN}
use Rattle.vt_clump.specs.Spelling.{Stored, stored_in, size_in, uncsize_in}

-- the first fault of two tests
abbrev pub first_fault : Option ClumpBad → Option ClumpBad → Option ClumpBad
first_fault (Some bad) later = Some bad
first_fault None later = later

-- the encoding, of which 1 says that the block is stored as it is
abbrev pub bad_encoding : ℕ → Option ClumpBad
bad_encoding encoding =
    if encoding == 1 then None
    else if encoding == 2 then Some (BadEncoding Compressed)
    else Some (BadEncoding (Unknown encoding))

-- the first test of the sizes that fails, where so many bytes stand behind the header
abbrev pub bad_size : (size uncsize room : ℕ) → Option ClumpBad
bad_size size uncsize room =
    if not (uncsize == size) then Some (Size size uncsize)
    else if size == 0 then Some (Size 1 0)
    else if nat_lt MAX_BLOCK size then Some (Size MAX_BLOCK size)
    else if nat_lt room size then Some (Size room size)
    else None

-- the first test of a header that fails, where so many bytes stand behind it
abbrev pub bad_fields : (header : List ℕ) → (room : ℕ) → Option ClumpBad
bad_fields header room =
    if nat_lt (length header) HEADER_LEN then Some Short
    else if not (bytes_eq (take 4 header) (codes "VCLP")) then Some (Magic (take 4 header))
    else if not (is_kind (slice_index header 4)) then Some (Kind (slice_index header 4))
    else first_fault (bad_encoding (slice_index header 29))
    (bad_size (size_in header) (uncsize_in header) room)

-- what is wrong with a clump's header, if anything is
abbrev pub bad_header : List ℕ → Option ClumpBad
bad_header bytes = bad_fields bytes (length bytes - HEADER_LEN)

-- the test of the score
abbrev pub other_score : (want found : List ℕ) → Option ClumpBad
other_score want found =
    if bytes_eq found want then None
    else Some (BadScore (record { 0 = want }) (record { 0 = found }))

-- the clump's score isn't that of its block
abbrev pub bad_score : (List ℕ → List ℕ) → Stored → Option ClumpBad
bad_score score_of s = other_score s.score (score_of s.block)

-- the first test of all that fails
abbrev pub first_bad_clump : (List ℕ → List ℕ) → List ℕ → Option ClumpBad
first_bad_clump score_of bytes =
    first_fault (bad_header bytes) (bad_score score_of (stored_in bytes))

-- what tests the header, or a part of it, fails with this fault, and only where there is one
abbrev pub FailsWith : {T : Type 0} → Option ClumpBad → Result T ClumpBad → Type 0
FailsWith first result = MatchResult result (λ _. first ≡ None) (λ bad. first ≡ Some bad)

-- the fault of the first test that fails, or memory ran out where none does
abbrev pub IsClumpRefusal : Option ClumpBad → ClumpBad → Type 0
IsClumpRefusal first bad = (first ≡ Some bad) ⊎ (first ≡ None) × (bad ≡ NoMemory)
