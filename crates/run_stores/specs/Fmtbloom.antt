-- The command `fmtbloom FILE SIZE POSITIONS`: makes a file a Bloom filter.
use Rattle.std.specs.Prelude.{ℕ, ◌≡◌, ◌⊎◌, List, [], ◌∷◌, codes, decimal}
use Rattle.std.specs.List.{concat}
use Rattle.vt_bloom.specs.Size.{filter_len}
use Rattle.vt_conf.specs.Numbers.{wrong_digit}
use Rattle.vt_disk.specs.Members.{DiskOf}
use Rattle.vt_format.specs.Filters.{FormatsFilter}
use Rattle.run_base.specs.declared.error.CommandError.{CommandError}
use Rattle.run_base.specs.declared.error.CommandError.TheVariants.{BadNumber}
use Rattle.run_base.specs.Change.{StreamChange, MakesNothing, PartsChange}
use Rattle.run_base.specs.Errors.{CommandOutcome}
use Rattle.run_base.specs.Formatting.{FormatsFile, RefusesWord}
use Rattle.run_stores.specs.Words.{SaysSize, SaysPositions}

-- The words of `fmtbloom` are the size of a filter of 2^m bits, and how many of them a score has.
pub record AsksForFilter (size positions : List ℕ) (m bytes bits : ℕ) : Type 0 where
  pub size_is : SaysSize size m bytes
  pub positions_is : SaysPositions positions bits

-- the first of them that isn't, and its first wrong byte
abbrev pub AsksForNoFilter : (size positions : List ℕ) → CommandError → Type 0
AsksForNoFilter size positions failure =
    (((m bytes : ℕ) → ¬ SaysSize size m bytes) × (failure ≡ BadNumber (wrong_digit size)))
    ⊎ (((m bytes : ℕ) × SaysSize size m bytes) × ((bits : ℕ) → ¬ SaysPositions positions bits)
    × (failure ≡ BadNumber (wrong_digit positions)))

-- what is printed of a filter
abbrev pub filter_line : (bytes bits : ℕ) → List ℕ
filter_line bytes bits =
    concat (codes "fmtbloom: " ∷ decimal bytes ∷ codes " bytes, " ∷ decimal bits
    ∷ codes " positions\n" ∷ [])

-- What `fmtbloom` does: its words were refused, or the file was made a filter.
abbrev pub DoesFmtbloom : {P D K : Type 0} → DiskOf D → (file size positions : List ℕ)
    → CommandOutcome
    → PartsChange P D → StreamChange K → Type 0
DoesFmtbloom disk file size positions outcome parts sink =
    RefusesWord (AsksForNoFilter size positions) outcome (MakesNothing parts sink)
    ⊎ ((m bytes bits : ℕ) × AsksForFilter size positions m bytes bits
    × FormatsFile disk file (filter_len m) (FormatsFilter disk m bits)
    (λ _. filter_line bytes bits) outcome parts sink)
