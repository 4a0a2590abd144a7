-- The command `fmtisect FILE NAME LENGTH`: makes a file an index section.
use Rattle.std.specs.Prelude.{ℕ, ◌≡◌, ◌⊎◌, List, [], ◌∷◌, codes, decimal}
use Rattle.std.specs.List.{concat}
use Rattle.vt_conf.specs.Numbers.{wrong_digit}
use Rattle.vt_disk.specs.Members.{DiskOf}
use Rattle.vt_format.specs.Sections.{FormatsSection}
use Rattle.vt_format.specs.Words.{wrong_name}
use Rattle.vt_part.specs.Table.{IsPartName}
use Rattle.run_base.specs.declared.error.CommandError.{CommandError}
use Rattle.run_base.specs.declared.error.CommandError.TheVariants.{BadNumber, BadName}
use Rattle.run_base.specs.Change.{StreamChange, MakesNothing, PartsChange}
use Rattle.run_base.specs.Errors.{CommandOutcome}
use Rattle.run_base.specs.Formatting.{FormatsFile, RefusesWord}
use Rattle.run_stores.specs.Words.{IsLength}

-- The words of `fmtisect` are a name and a length.
pub record AsksForSection (name length : List ℕ) (len : ℕ) : Type 0 where
  pub name_is : IsPartName name
  pub len_is : IsLength length len

-- the first of them that isn't, and its first wrong byte
abbrev pub AsksForNoSection : (name length : List ℕ) → CommandError → Type 0
AsksForNoSection name length failure =
    (¬ IsPartName name × (failure ≡ BadName (wrong_name name)))
    ⊎ (IsPartName name × ((len : ℕ) → ¬ IsLength length len)
    × (failure ≡ BadNumber (wrong_digit length)))

-- what is printed of a section of so many buckets
abbrev pub section_line : (name : List ℕ) → (count : ℕ) → List ℕ
section_line name count =
    concat (codes "fmtisect " ∷ name ∷ codes ": " ∷ decimal count ∷ codes " buckets\n" ∷ [])

-- What `fmtisect` does: its words were refused, or the file was made a section, of this name.
abbrev pub DoesFmtisect : {P D K : Type 0} → DiskOf D → (file name length : List ℕ) → CommandOutcome
    → PartsChange P D → StreamChange K → Type 0
DoesFmtisect disk file name length outcome parts sink =
    RefusesWord (AsksForNoSection name length) outcome (MakesNothing parts sink)
    ⊎ ((len : ℕ) × AsksForSection name length len
    × FormatsFile disk file len (FormatsSection disk name) (section_line name) outcome parts sink)
