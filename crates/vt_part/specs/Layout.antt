-- The arenas of several partitions.
use Rattle.std.specs.Prelude.{◌≡◌, ℕ, ◌<◌, ◌≤◌, List, [], map, flat_map, length, slice_index_or}
use Rattle.std.specs.List.{range_with_len, enumerate_from}
use Rattle.vt_disk.specs.declared.region.Region.{Region}
use Rattle.vt_part.specs.declared.error.PartBad.{PartBad}
use Rattle.vt_part.specs.declared.error.PartBad.TheVariants.{Fault, TooSmall, NotFormatted, Torn, DuplicateName, NoMemory}
use Rattle.vt_part.specs.declared.layout.ArenaRegion.{ArenaRegion}
use Rattle.vt_part.specs.Table.{Table, start_of}

-- where an arena of a table stands, by its number
abbrev pub arena_region : Table → (number : ℕ) → Region
arena_region t number = record { start = start_of t number; len = t.arena_size }

-- an arena of the partition with this number, by its own number
abbrev pub arena_of : (part : ℕ) → Table → (number : ℕ) → ArenaRegion
arena_of part t number = record { part = part; number = number; region = arena_region t number }

-- All arenas of the partition with this number, in order.
abbrev pub arenas_of_table : (part : ℕ) → Table → List ArenaRegion
arenas_of_table part t = map (arena_of part t) (range_with_len 0 t.count)

-- The arenas of all partitions, in order.
abbrev pub layout_of : List Table → List ArenaRegion
layout_of tables =
    flat_map (λ numbered. arenas_of_table numbered.0 numbered.1) (enumerate_from 0 tables)

-- the name of the partition with this number
abbrev pub name_at : (names : List (List ℕ)) → ℕ → List ℕ
name_at names i = slice_index_or names i []

-- two partitions have one name
pub record AreNamesakes (names : List (List ℕ)) (i j : ℕ) : Type 0 where
  pub order : i < j
  pub within : j < length names
  pub same : name_at names i ≡ name_at names j

-- Two partitions have one name, and no pair before them has: none with an earlier first one, and
-- none with the same first one and an earlier second one.
pub record AreFirstNamesakes (names : List (List ℕ)) (i j : ℕ) : Type 0 where
  pub namesakes : AreNamesakes names i j
  pub first : (k l : ℕ) → AreNamesakes names k l → i ≤ k
  pub second : (l : ℕ) → AreNamesakes names i l → j ≤ l

-- No two of the names are the same.
abbrev pub AreDistinct : List (List ℕ) → Type 0
AreDistinct names = (i j : ℕ) → ¬ AreNamesakes names i j

-- a list of partitions is refused for the first two of one name or, where there are none, since
-- memory runs out
abbrev pub RefusesList : (names : List (List ℕ)) → PartBad → Type 0
RefusesList names (DuplicateName first second) = AreFirstNamesakes names first second
RefusesList names NoMemory = AreDistinct names
RefusesList names Fault = ⊥
RefusesList names (TooSmall len need) = ⊥
RefusesList names NotFormatted = ⊥
RefusesList names (Torn field found want) = ⊥
