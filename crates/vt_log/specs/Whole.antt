-- What a log in memory keeps, whatever its disks hold.
use Rattle.std.specs.Prelude.{◌≡◌, ◌==◌, ◌^◌, ℕ, ◌+◌, ◌<◌, ◌≤◌, Bool, IsTrue, if◌then◌else◌, Some, None, List, [], ◌∷◌, All, AllPairs, length, map, sum_by, slice_get}
use Rattle.vt_disk.specs.Members.{DiskOf}
use Rattle.vt_part.specs.declared.layout.ArenaRegion.{ArenaRegion}
use Rattle.vt_part.specs.Laws.{IsBefore}
use Rattle.vt_part.specs.Layout.{layout_of}
use Rattle.vt_arena.specs.declared.head.ArenaHead.{ArenaHead}
use Rattle.vt_arena.specs.declared.head.Found.{Found}
use Rattle.vt_arena.specs.Arena.{ArenaState, is_committing, version_counted}
use Rattle.vt_arena.specs.Places.{IsVersion, bad_last, directory_room, arena_room}
use Rattle.vt_arena.specs.Sound.{IsRegion}
use Rattle.vt_log.specs.declared.TheConstants.{QUEUE_MAX}
use Rattle.vt_log.specs.declared.filling.Filling.{Filling}
use Rattle.vt_log.specs.declared.queue.Waiting.{Waiting}
use Rattle.vt_log.specs.Queue.{WaitsFor}
use Rattle.vt_log.specs.Log.{LogState, filled_as, found_filling, can_close, fits_in, with_room_taken}

-- the disk of its partition has the region, and an arena may have it
pub record IsOnDisk {D : Type 0} (disk : DiskOf D) (disks : List D) (r : ArenaRegion) : Type 0 where
  pub device : D
  pub has : slice_get disks r.part ≡ Some device
  pub region : IsRegion r.region (disk.size device)

-- the arena that a waiting block goes to, as it is before the block: the one that is being filled
-- or, where the block goes to the next one, that as it was found
abbrev pub turned_to : List Found → (arena : ℕ) → Filling → Filling
turned_to heads arena f = if arena == f.arena then f else found_filling heads arena

-- Waiting blocks lead from one filling to another: each goes to the same arena as the one before, or
-- to the next where that one can be sealed, and fits there.
abbrev pub Fill : List ArenaRegion → (versions : List ℕ) → List Found → (from : Filling)
    → List Waiting → (to : Filling) → Type 0
Fill layout versions heads from [] to = from ≡ to
Fill layout versions heads from (w ∷ rest) to =
    let f = turned_to heads w.arena from in
    (from.arena ≤ w.arena) × (w.arena ≤ from.arena + 1)
    × (from.arena < w.arena → IsTrue (can_close versions from.arena))
    × IsTrue (fits_in layout versions f w.packed.len)
    × Fill layout versions heads (with_room_taken w.packed.len f) rest to

-- the head has the number of this region's arena, and the region has room for what it counts
pub record IsHeadFor (r : ArenaRegion) (head : ArenaHead) : Type 0 where
  pub number : head.number ≡ r.number
  pub version : IsVersion head.version
  pub last : head.version ≡ 2 → bad_last head.clumps head.used head.last ≡ None
  pub fit : head.used + directory_room head.version head.clumps ≤ arena_room r.region.len

-- The arena in memory is the one of this region and this head. The head that the next commit brings
-- counts as one of the same version, and says of its last clump what a head may say.
pub record IsArenaOf (r : ArenaRegion) (found : Found) (a : ArenaState) : Type 0 where
  pub len : a.len ≡ r.region.len
  pub number : a.number ≡ r.number
  pub head : a.head ≡ found.head
  pub counted : version_counted a.next ≡ version_counted found.head
  pub version : IsVersion a.next.version
  pub last : a.next.version ≡ 2 → bad_last a.next.clumps a.next.used a.next.last ≡ None

-- The invariant of a log in memory: its regions, heads, queue and counts fit each other and the
-- disks.
pub record IsWholeLog {D : Type 0} (disk : DiskOf D) (l : LogState D) : Type 0 where
  -- the regions are those of the partitions' arenas, apart from each other, and on their disks
  pub many_disks : length l.disks ≡ length l.tables
  pub layout : l.layout ≡ layout_of l.tables
  pub regions : All (IsOnDisk disk l.disks) l.layout
  pub apart : AllPairs IsBefore l.layout
  pub few : length l.layout < 2 ^ 32
  -- each arena has its head, with its number, and has room for what that counts
  pub many : length l.heads ≡ length l.layout
  pub heads : (i : ℕ) (r : ArenaRegion) (found : Found) → slice_get l.layout i ≡ Some r
      → slice_get l.heads i ≡ Some found → IsHeadFor r found.head
  -- and the version that it had at mounting
  pub versions : l.versions ≡ map (λ found. version_counted found.head) l.heads
  -- from the one that is committed in on none is sealed
  pub unsealed : (i : ℕ) (found : Found) → l.committing ≤ i → slice_get l.heads i ≡ Some found
      → found.head.sealed ≡ Bool.false
  -- the arena that is committed in; where there is none left, nothing is queued
  pub base : l.base ≤ l.committing
  pub committing : l.committing ≤ length l.layout
  pub arena : (r : ArenaRegion) (found : Found) → slice_get l.layout l.committing ≡ Some r
      → slice_get l.heads l.committing ≡ Some found → IsArenaOf r found l.arena
  pub none : l.committing ≡ length l.layout
      → (l.arena.staged ≡ []) × (l.arena.next.sealed ≡ Bool.false)
  pub number : l.arena.next.number ≡ l.arena.number
  pub clumps : l.arena.next.clumps ≡ l.arena.head.clumps + length l.arena.staged
  pub runs : l.stopped ≡ None → l.arena.failed ≡ Bool.false
  -- a commit adds blocks or seals, and one that seals makes way for a block that waits for the next
  -- arena
  pub some : IsTrue (is_committing l.arena) → l.arena.staged ≡ [] → l.arena.next.sealed ≡ Bool.true
  pub way : l.arena.next.sealed ≡ Bool.true → WaitsFor (l.committing + 1) l.queue.waiting
  -- the queue leads from that arena, as its next commit leaves it, to the one that is being filled
  pub queue : Fill l.layout l.versions l.heads (filled_as l.committing l.arena.next)
      l.queue.waiting l.filling
  pub places : length l.queue.places ≡ length l.arena.staged + length l.queue.waiting
  pub most : length l.queue.places ≤ QUEUE_MAX
  -- the committed blocks are those that the heads count
  pub durable : l.durable ≡ sum_by (λ found. found.head.clumps) l.heads
