-- What making partitions a log does to their disks.
use Rattle.std.specs.Prelude.{◌≡◌, ℕ, ◌*◌, ◌<◌, IsTrue, List, length, Some, slice_get}
use Rattle.vt_disk.specs.Members.{DiskOf}
use Rattle.vt_disk.specs.Calls.{WritesAt, IsSynced}
use Rattle.vt_twin.specs.Formatting.{EndsFormat}
use Rattle.vt_part.specs.declared.part.Part.{Part}
use Rattle.vt_part.specs.Layout.{arena_region}
use Rattle.vt_part.specs.Parts.{disk_of, table_of}
use Rattle.vt_part.specs.Table.{Table}
use Rattle.vt_arena.specs.Heads.{head_frame}
use Rattle.vt_arena.specs.Layout.{IsArena, InHead, head_place, arena_head, empty}

-- in each image the first arenas of a table, so many, have no blocks
abbrev pub AreEmpty : Table → (arenas : ℕ) → (images : List ℕ → Type 0) → Type 0
AreEmpty t arenas images =
    (score_of : List ℕ → List ℕ) (number : ℕ) (c : List ℕ) → number < arenas → images c
    → IsArena score_of (arena_region t number) number empty c

-- a partition whose arenas have no blocks, and a crash leaves nothing but what a read gives
pub record IsEmpty {D : Type 0} (disk : DiskOf D) (part : Part D) : Type 0 where
  pub arenas : IsTrue disk.tells
      → AreEmpty (table_of part) (table_of part).count (disk.images (disk_of part))
  pub settled : IsSynced disk (disk_of part)

-- the byte lies in the head of one of the first arenas of a table, so many
abbrev pub InFirstHeads : Table → (arenas : ℕ) → ℕ → Type 0
InFirstHeads t arenas p = (number : ℕ) × (number < arenas) × InHead (arena_region t number) p

-- nothing changed but in these heads, by three calls for each at most
abbrev pub WritesInFirst : {D : Type 0} → DiskOf D → Table → (arenas : ℕ) → (before after : D)
    → Type 0
WritesInFirst disk t arenas before after =
    WritesAt disk (InFirstHeads t arenas) (3 * arenas) before after

-- Nothing changed but in the heads of all arenas of the partition.
abbrev pub WritesInHeads : {D : Type 0} → DiskOf D → Table → (before after : D) → Type 0
WritesInHeads disk t before after = WritesInFirst disk t t.count before after

-- Making a partition's arenas ones without blocks stopped at a call for this one: those before it
-- have none, the heads of those behind it are as they were, and of its own head nothing was written
-- behind the call.
pub record StopsAtArena {D : Type 0} (disk : DiskOf D) (old new : Part D) : Type 0 where
  pub arena : ℕ
  pub within : arena < (table_of old).count
  pub done : IsTrue disk.tells → AreEmpty (table_of old) arena (disk.images (disk_of new))
  pub before : D
  pub so_far : WritesInFirst disk (table_of old) arena (disk_of old) before
  pub ends : (score_of : List ℕ → List ℕ) → (made : ℕ)
      × EndsFormat disk (head_place (arena_region (table_of old) arena))
      (head_frame (arena_head score_of arena empty)) made before (disk_of new)

-- Formatting stopped in this partition: those before it are done, and those behind it are as they
-- were.
pub record StopsIn {D : Type 0} (disk : DiskOf D) (old new : List (Part D)) : Type 0 where
  pub part : ℕ
  pub within : part < length old
  pub done : (i : ℕ) (it : Part D) → i < part → slice_get new i ≡ Some it → IsEmpty disk it
  pub here : (before after : Part D) → slice_get old part ≡ Some before
      → slice_get new part ≡ Some after → StopsAtArena disk before after
  pub behind : (i : ℕ) → part < i → slice_get new i ≡ slice_get old i
