-- What holds of all partitions.
use Rattle.std.specs.Prelude.{◌≡◌, ◌⊎◌, ℕ, ◌+◌, ◌<◌, ◌≤◌, List, None, Some, All, AllPairs, Contains, length, sum_by, slice_get}
use Rattle.vt_base.specs.Bytes.{AreBytes}
use Rattle.vt_disk.specs.declared.TheConstants.{BLOCK_LEN}
use Rattle.vt_disk.specs.Disk.{IsAligned, SameBut}
use Rattle.vt_part.specs.declared.layout.ArenaRegion.{ArenaRegion}
use Rattle.vt_part.specs.Faults.{first_bad_part}
use Rattle.vt_part.specs.Layout.{arena_of, layout_of}
use Rattle.vt_part.specs.Table.{Table, IsTable, IsPartition, head_of, start_of, arenas_end}

-- No bytes are two partitions.
abbrev pub IsUnambiguous : Type 0
IsUnambiguous = (s t : Table) (file : List ℕ) → IsPartition s file → IsPartition t file → s ≡ t

-- no test fails on a partition
abbrev pub PassesPartitions : Type 0
PassesPartitions = (t : Table) (file : List ℕ) → IsPartition t file
    → first_bad_part (length file) (head_of file) ≡ None

-- On bytes that are no partition a test fails.
abbrev pub PassesPartitionsOnly : Type 0
PassesPartitionsOnly = (file : List ℕ) → AreBytes file
    → first_bad_part (length file) (head_of file) ≡ None → (t : Table) × IsPartition t file

-- what is done behind the block leaves a partition what it is
abbrev pub PartitionsStay : Type 0
PartitionsStay = (t : Table) (old new : List ℕ) → SameBut (λ i. BLOCK_LEN ≤ i) old new
    → IsPartition t old → IsPartition t new

-- arenas stand behind the block, one after another, each at whole sectors
abbrev pub ArenasFollow : Type 0
ArenasFollow = (t : Table) (i j : ℕ) → i < j → start_of t i + t.arena_size ≤ start_of t j

-- each arena lies behind the partition's head, and before the end of its arenas
abbrev pub ArenasAreInside : Type 0
ArenasAreInside = (t : Table) (i : ℕ) → i < t.count
    → (BLOCK_LEN ≤ start_of t i) × (start_of t i + t.arena_size ≤ arenas_end t)

-- each arena begins and ends at a multiple of the alignment
abbrev pub ArenasAreAligned : Type 0
ArenasAreAligned = (t : Table) (i : ℕ) → IsTable t
    → IsAligned (start_of t i) × IsAligned t.arena_size

-- this is the region of an arena of these partitions
abbrev pub IsArenaOfTable : (tables : List Table) → ArenaRegion → Type 0
IsArenaOfTable tables arena = (t : Table) × (slice_get tables arena.part ≡ Some t)
    × (arena.number < t.count) × (arena ≡ arena_of arena.part t arena.number)

-- an arena of an earlier partition, or a region that ends before the other one begins
abbrev pub IsBefore : (a b : ArenaRegion) → Type 0
IsBefore a b = (a.part < b.part)
    ⊎ ((a.part ≡ b.part) × (a.region.start + a.region.len ≤ b.region.start))

-- each region of a layout is that of an arena in one of the tables
abbrev pub LayoutsHaveArenas : Type 0
LayoutsHaveArenas = (tables : List Table) → All (IsArenaOfTable tables) (layout_of tables)

-- each arena of each partition is listed, and so many are
abbrev pub LayoutsListArenas : Type 0
LayoutsListArenas = (tables : List Table) (part number : ℕ) (t : Table)
    → slice_get tables part ≡ Some t → number < t.count
    → Contains (layout_of tables) (arena_of part t number)

-- a layout has as many regions as the tables have arenas
abbrev pub LayoutsHaveLengths : Type 0
LayoutsHaveLengths = (tables : List Table)
    → length (layout_of tables) ≡ sum_by (λ t. t.count) tables

-- the regions of a layout follow each other and don't overlap
abbrev pub LayoutsAreInOrder : Type 0
LayoutsAreInOrder = (tables : List Table) → AllPairs IsBefore (layout_of tables)
