-- The command `fmtarenas FILE NAME LENGTH ARENASIZE`: makes a file a partition of arenas.
use Rattle.std.specs.Prelude.{ℕ, ◌≡◌, ◌⊎◌, List, [], ◌∷◌, codes, decimal}
use Rattle.std.specs.List.{concat}
use Rattle.vt_conf.specs.Numbers.{wrong_digit}
use Rattle.vt_disk.specs.Members.{DiskOf}
use Rattle.vt_format.specs.Arenas.{FormatsArenas}
use Rattle.vt_format.specs.Words.{wrong_name}
use Rattle.vt_part.specs.Table.{IsPartName}
use Rattle.run_base.specs.declared.error.CommandError.{CommandError}
use Rattle.run_base.specs.declared.error.CommandError.TheVariants.{BadNumber, BadName}
use Rattle.run_base.specs.Change.{StreamChange, MakesNothing, PartsChange}
use Rattle.run_base.specs.Errors.{CommandOutcome}
use Rattle.run_base.specs.Formatting.{FormatsFile, RefusesWord}
use Rattle.run_stores.specs.Words.{IsLength, SaysArenaSize}

-- The words of `fmtarenas` are a name, a length and the size of each arena.
pub record AsksForArenas (name length arena_size : List ℕ) (len size : ℕ) : Type 0 where
  pub name_is : IsPartName name
  pub len_is : IsLength length len
  pub size_is : SaysArenaSize arena_size size

-- the first of them that isn't, and its first wrong byte
abbrev pub AsksForNoArenas : (name length arena_size : List ℕ) → CommandError → Type 0
AsksForNoArenas name length arena_size failure =
    (¬ IsPartName name × (failure ≡ BadName (wrong_name name)))
    ⊎ (IsPartName name × ((len : ℕ) → ¬ IsLength length len)
    × (failure ≡ BadNumber (wrong_digit length)))
    ⊎ (IsPartName name × ((len : ℕ) × IsLength length len)
    × ((size : ℕ) → ¬ SaysArenaSize arena_size size)
    × (failure ≡ BadNumber (wrong_digit arena_size)))

-- what is printed of a partition of so many arenas
abbrev pub arenas_line : (name : List ℕ) → (size count : ℕ) → List ℕ
arenas_line name size count =
    concat (codes "fmtarenas " ∷ name ∷ codes ": " ∷ decimal count ∷ codes " arenas of "
    ∷ decimal size ∷ codes " bytes\n" ∷ [])

-- What `fmtarenas` does: its words were refused, or the file was made a partition of arenas, of
-- this name.
abbrev pub DoesFmtarenas : {P D K : Type 0} → DiskOf D → (file name length arena_size : List ℕ)
    → CommandOutcome → PartsChange P D → StreamChange K → Type 0
DoesFmtarenas disk file name length arena_size outcome parts sink =
    RefusesWord (AsksForNoArenas name length arena_size) outcome (MakesNothing parts sink)
    ⊎ ((len size : ℕ) × AsksForArenas name length arena_size len size
    × FormatsFile disk file len (FormatsArenas disk name size) (arenas_line name size) outcome parts
    sink)
