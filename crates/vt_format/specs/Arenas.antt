-- What formatting makes of a partition of arenas (venti(8), fmtarenas).
use Rattle.std.specs.Prelude.{ℕ, ◌≡◌, ◌≢◌, ◌⊎◌, ◌+◌, ◌*◌, ◌<◌, ◌≤◌, IsTrue, List, [], ◌∷◌, Result, IfOk, IfErr}
use Rattle.vt_base.specs.Faults.{HasRisen}
use Rattle.vt_base.specs.declared.mount.MountBad.{MountBad}
use Rattle.vt_base.specs.declared.mount.MountBad.TheVariants.{Disagree, Fault, NoMemory, NotFormatted, TooSmall}
use Rattle.vt_disk.specs.Calls.{IsSynced}
use Rattle.vt_disk.specs.Members.{DiskOf}
use Rattle.vt_disk.specs.declared.TheConstants.{BLOCK_LEN}
use Rattle.vt_log.specs.Logs.{IsLog}
use Rattle.vt_part.specs.Layout.{layout_of}
use Rattle.vt_part.specs.Table.{Table, IsPartition, count_for, table_for}

-- the bytes are a partition with this table, and alone a log without blocks
pub record IsEmptyLog (t : Table) (file : List ℕ) : Type 0 where
  pub partition : IsPartition t file
  pub log : (score_of : List ℕ → List ℕ) → IsLog score_of (layout_of (t ∷ [])) (file ∷ []) [] 0

-- The disk has as many arenas of this size as it has room for, all without blocks, whatever a crash
-- leaves.
pub record BecomesArenas {D : Type 0} (disk : DiskOf D) (name : List ℕ) (arena_size count : ℕ)
    (old new : D) : Type 0 where
  pub room : BLOCK_LEN + arena_size ≤ disk.size old
  pub arenas : count ≡ count_for (disk.size old) arena_size
  pub log : IsTrue disk.tells → (c : List ℕ) → disk.images new c
      → IsEmptyLog (table_for name (disk.size old) arena_size) c
  pub settled : IsSynced disk new

-- why a table is refused that is read from the one partition: two values differ, if it has one
abbrev pub RefusesTable : MountBad → Type 0
RefusesTable (NotFormatted part) = part ≡ 0
RefusesTable (TooSmall part len need) = (part ≡ 0) × (len < need)
RefusesTable (Disagree part field found want) = (part ≡ 0) × (found ≢ want)
RefusesTable bad = ⊥

-- The disk is refused where it has no room for an arena, and is as it was; or one of its calls
-- failed, or memory ran out. A disk that doesn't tell what it holds may also give back another
-- table than was written, which is then refused.
abbrev pub RefusesArenaFormat : {D : Type 0} → DiskOf D → (arena_size : ℕ) → MountBad
    → (old new : D)
    → Type 0
RefusesArenaFormat disk arena_size bad old new =
    ((disk.size old < BLOCK_LEN + arena_size)
    × (bad ≡ TooSmall 0 (disk.size old) (BLOCK_LEN + arena_size)) × (new ≡ old))
    ⊎ ((bad ≡ Fault) × HasRisen (disk.faults old) (disk.faults new))
    ⊎ (bad ≡ NoMemory)
    ⊎ (¬ IsTrue disk.tells × RefusesTable bad)

-- what formatting a device as a partition of arenas does, and how often it calls the device
pub record FormatsArenas {D : Type 0} (disk : DiskOf D) (name : List ℕ) (arena_size : ℕ)
    (result : Result ℕ MountBad) (old new : D) : Type 0 where
  pub size : disk.size new ≡ disk.size old
  -- three calls for each arena, and three for the table
  pub calls : IsTrue disk.tells → disk.calls new
      ≤ disk.calls old + (3 + 3 * count_for (disk.size old) arena_size)
  pub formatted : IfOk result (λ count. BecomesArenas disk name arena_size count old new)
  pub refused : IfErr result (λ bad. RefusesArenaFormat disk arena_size bad old new)
