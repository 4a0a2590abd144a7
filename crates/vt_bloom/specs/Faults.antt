-- Why a device is refused.
use Rattle.std.specs.Prelude.{◌≡◌, ◌≢◌, ◌==◌, ◌||◌, ◌⊎◌, ℕ, ◌<◌, ◌≤◌, nat_lt, Bool, true, false, not, if◌then◌else◌, Option, Some, None, List, codes}
use Rattle.std.specs.Str.{bytes_eq}
use Rattle.vt_bloom.specs.declared.error.Field.{Field}
use Rattle.vt_bloom.specs.declared.error.Field.TheVariants.{Version, M, K}
use Rattle.vt_bloom.specs.declared.error.BloomError.{BloomError}
use Rattle.vt_bloom.specs.declared.error.BloomError.TheVariants.{Fault, TooSmall, NotFormatted, Torn, NoMemory}
use Rattle.vt_bloom.specs.declared.TheConstants.{LEAST_LEN}
use Rattle.vt_bloom.specs.Frame.{magic_in, version_in, m_in, k_in, current_of}
use Rattle.vt_bloom.specs.Size.{IsLargest, IsFilterSize}

-- the first test of a frame's fields that fails, on a device with room for 2^m bits
abbrev pub first_bad_filter : (m : ℕ) → (frame : List ℕ) → Option BloomError
first_bad_filter m frame =
    if not (bytes_eq (magic_in frame) (codes "VBLM")) then Some NotFormatted
    else if not (version_in frame == 1) then Some (Torn Version (version_in frame) 1)
    else if not (m_in frame == m) then Some (Torn M (m_in frame) m)
    else if k_in frame == 0 || nat_lt 32 (k_in frame) then Some (Torn K (k_in frame) 32)
    else None

-- a device of less than two of the smallest frames and a block
abbrev pub RefusesShort : (len : ℕ) → BloomError → Type 0
RefusesShort len bad = (len < LEAST_LEN) × (bad ≡ TooSmall len LEAST_LEN)

-- a device call failed, or memory ran out, for a device that isn't too small
abbrev pub RefusesNow : (len : ℕ) → BloomError → Type 0
RefusesNow len bad = (LEAST_LEN ≤ len) × ((bad ≡ Fault) ⊎ (bad ≡ NoMemory))

-- mounting is refused by the first test of the current frame that fails
abbrev pub RefusesFilterMount : (file : List ℕ) → (len : ℕ) → BloomError → Type 0
RefusesFilterMount file len bad = RefusesShort len bad ⊎ RefusesNow len bad
    ⊎ ((m : ℕ) × IsLargest len m × (first_bad_filter m (current_of m file) ≡ Some bad))

-- formatting is refused for a filter of another size than that of this device
abbrev pub RefusesFilterFormat : (len size : ℕ) → BloomError → Type 0
RefusesFilterFormat len size bad = RefusesShort len bad
    ⊎ ((found : ℕ) × (want : ℕ) × IsFilterSize found size × IsLargest len want × (found ≢ want)
    × (bad ≡ Torn M found want))
    ⊎ (RefusesNow len bad × ((m : ℕ) → IsLargest len m → IsFilterSize m size))

-- a value that can't stand in a field, and the one that was wanted
abbrev pub Differs : Field → (found want len : ℕ) → Type 0
Differs Version found want len = (found ≢ 1) × (want ≡ 1)
Differs M found want len = (found ≢ want) × IsLargest len want
Differs K found want len = ((found ≡ 0) ⊎ (32 < found)) × (want ≡ 32)

-- What is known of a refusal to mount a device of this size, even where it doesn't tell what it
-- holds: the values that the refusal names make it one.
abbrev pub NamesFilterCause : (size : ℕ) → BloomError → Type 0
NamesFilterCause size (TooSmall len need) = (len ≡ size) × (size < LEAST_LEN) × (need ≡ LEAST_LEN)
NamesFilterCause size Fault = LEAST_LEN ≤ size
NamesFilterCause size NotFormatted = LEAST_LEN ≤ size
NamesFilterCause size (Torn field found want) = (LEAST_LEN ≤ size) × Differs field found want size
NamesFilterCause size NoMemory = LEAST_LEN ≤ size

-- the refusal tells of a fault of the device in this call
abbrev pub is_filter_fault : BloomError → Bool
is_filter_fault Fault = true
is_filter_fault (TooSmall len need) = false
is_filter_fault NotFormatted = false
is_filter_fault (Torn field found want) = false
is_filter_fault NoMemory = false

-- the refusal tells of the current frame, which was read
abbrev pub TellsOfFrame : BloomError → Type 0
TellsOfFrame NotFormatted = Unit {0}
TellsOfFrame (Torn field found want) = Unit {0}
TellsOfFrame Fault = ⊥
TellsOfFrame (TooSmall len need) = ⊥
TellsOfFrame NoMemory = ⊥
