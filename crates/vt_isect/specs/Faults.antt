-- Why a section is refused, and why a bucket is damaged.
use Rattle.std.specs.Prelude.{◌≡◌, ◌≢◌, ◌==◌, ◌⊎◌, ⊤, ℕ, ◌<◌, ◌≤◌, nat_lt, Bool, true, false, not, if◌then◌else◌, Option, Some, None, List, codes, take, drop}
use Rattle.std.specs.Str.{bytes_eq}
use Rattle.byteorder.specs.Endian.{big_number}
use Rattle.vt_base.specs.Damage.{Differ}
use Rattle.vt_base.specs.declared.why.FieldValue.TheVariants.{Number, Magic}
use Rattle.vt_bucket.specs.declared.decoding.BucketBad.{BucketBad}
use Rattle.vt_bucket.specs.declared.decoding.BucketBad.TheVariants as bucket_bad
use Rattle.vt_model.specs.declared.TheConstants.{BUCKET_ROOM}
use Rattle.vt_isect.specs.declared.TheConstants.{LEAST_LEN}
use Rattle.vt_isect.specs.declared.error.Field.TheVariants.{Version}
use Rattle.vt_isect.specs.declared.error.SectBad.{SectBad}
use Rattle.vt_isect.specs.declared.error.SectBad.TheVariants.{TooSmall, NotFormatted, Torn, NoMemory}
use Rattle.vt_isect.specs.declared.error.SectBad.TheVariants as sect_bad
use Rattle.vt_isect.specs.declared.error.ShardErr.{ShardErr}
use Rattle.vt_isect.specs.declared.error.ShardErr.TheVariants.{Fault, Damaged, Stopped}

-- the version field of a head's frame
abbrev pub version_in : (frame : List ℕ) → ℕ
version_in frame = big_number 2 (drop 4 frame)

-- the first test that fails on a disk of this length with this current head frame
abbrev pub first_bad_section : (len : ℕ) → (frame : List ℕ) → Option SectBad
first_bad_section len frame =
    if nat_lt len LEAST_LEN then Some (TooSmall len LEAST_LEN)
    else if not (bytes_eq (take 4 frame) (codes "VSEC")) then Some NotFormatted
    else if not (version_in frame == 1) then Some (Torn Version (version_in frame) 1)
    else None

-- Mounting is refused by the first test that fails or, where the disk has room for a bucket, since
-- a call of the disk fails or memory runs out.
abbrev pub RefusesSectionMount : (len : ℕ) → (frame : List ℕ) → SectBad → Type 0
RefusesSectionMount len frame bad =
    (first_bad_section len frame ≡ Some bad)
    ⊎ ((LEAST_LEN ≤ len) × ((bad ≡ sect_bad.Fault) ⊎ (bad ≡ NoMemory)))

-- Formatting is refused where there is no room for a bucket or, where there is, since a call of
-- the disk fails.
abbrev pub RefusesSectionFormat : (len : ℕ) → SectBad → Type 0
RefusesSectionFormat len bad =
    ((len < LEAST_LEN) × (bad ≡ TooSmall len LEAST_LEN))
    ⊎ ((LEAST_LEN ≤ len) × (bad ≡ sect_bad.Fault))

-- What is known of a refusal to mount a disk of this size, even where the disk doesn't tell what it
-- holds: the values that the refusal names make it one.
abbrev pub NamesSectionCause : (size : ℕ) → SectBad → Type 0
NamesSectionCause size (TooSmall len need) = (len ≡ size) × (need ≡ LEAST_LEN) × (size < LEAST_LEN)
NamesSectionCause size sect_bad.Fault = LEAST_LEN ≤ size
NamesSectionCause size NotFormatted = LEAST_LEN ≤ size
NamesSectionCause size (Torn field found want) = (LEAST_LEN ≤ size) × (found ≢ 1) × (want ≡ 1)
NamesSectionCause size NoMemory = LEAST_LEN ≤ size

-- the refusal tells of a fault of the disk in this call
abbrev pub refuses_by_fault : SectBad → Bool
refuses_by_fault sect_bad.Fault = true
refuses_by_fault (TooSmall len need) = false
refuses_by_fault NotFormatted = false
refuses_by_fault (Torn field found want) = false
refuses_by_fault NoMemory = false

-- the refusal tells of the head, which was read
abbrev pub TellsOfHead : SectBad → Type 0
TellsOfHead NotFormatted = ⊤
TellsOfHead (Torn field found want) = ⊤
TellsOfHead sect_bad.Fault = ⊥
TellsOfHead (TooSmall len need) = ⊥
TellsOfHead NoMemory = ⊥

-- the answer tells of a fault of the disk in this call
abbrev pub is_section_fault : ShardErr → Bool
is_section_fault Fault = true
is_section_fault (Damaged bucket want found) = false
is_section_fault (Stopped call) = false

-- what a fault of a bucket's frame is told as: what was wanted, and what was found
abbrev pub damage_of_bucket : (number : ℕ) → BucketBad → ShardErr
damage_of_bucket number (bucket_bad.Magic found) =
    Damaged number (Magic (codes "VBKT")) (Magic found)
damage_of_bucket number (bucket_bad.Number found) = Damaged number (Number number) (Number found)
damage_of_bucket number (bucket_bad.Count found) =
    Damaged number (Number BUCKET_ROOM) (Number found)
damage_of_bucket number (bucket_bad.Order entry count) =
    Damaged number (Number count) (Number entry)

-- a damage's two values are of one form, and differ
abbrev pub NamesDamage : ShardErr → Type 0
NamesDamage Fault = ⊤
NamesDamage (Damaged bucket want found) = Differ want found
NamesDamage (Stopped call) = ⊤
