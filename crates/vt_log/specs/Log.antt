-- A log as its calls see it.
use Rattle.std.specs.Prelude.{◌≡◌, ℕ, ◌+◌, ◌==◌, ◌&&◌, not, Bool, IsFalse, if◌then◌else◌, is_some, Option, Some, None, Result, Ok, Err, Vec, List, [], ◌++◌, length, map, sum_by, slice_get, slice_index}
use Rattle.std.specs.declared.alloc.Global.{Global}
use Rattle.std.specs.Option.{option_map_or}
use Rattle.vt_clump.specs.declared.packed.Packed.{Packed}
use Rattle.vt_model.specs.declared.TheConstants.{WRITTEN_VERSION}
use Rattle.vt_model.specs.History.{History}
use Rattle.vt_model.specs.Places.{Setup}
use Rattle.vt_part.specs.declared.layout.ArenaRegion.{ArenaRegion}
use Rattle.vt_part.specs.declared.part.Part.{Part}
use Rattle.vt_part.specs.Parts.{disk_of}
use Rattle.vt_part.specs.Table.{Table}
use Rattle.vt_arena.specs.declared.head.ArenaHead.{ArenaHead}
use Rattle.vt_arena.specs.declared.head.Found.{Found}
use Rattle.vt_arena.specs.Arena.{ArenaState, added_by_commit, is_committing}
use Rattle.vt_arena.specs.Places.{block_room, has_room}
use Rattle.vt_log.specs.declared.filling.Filling.{Filling}
use Rattle.vt_log.specs.Logs.{accepted_in}
use Rattle.vt_log.specs.Queue.{QueueState, no_queue, waiting_block}

-- A log: the disks of its partitions and their tables, the regions of all arenas, and each one's
-- head as mounted or last committed, and its version; the first arena that wasn't sealed at
-- mounting; the arena that is committed in, by its number and as it is in memory; the blocks that
-- are queued; how full the arena is that the next block goes to, these counted; how many blocks are
-- committed; how many device calls `advance` has made, and the number of the one that failed.
pub record LogState (D : Type 0) : Type 0 where
  pub disks : List D
  pub tables : List Table
  pub layout : List ArenaRegion
  pub heads : List Found
  pub versions : List ℕ
  pub base : ℕ
  pub committing : ℕ
  pub arena : ArenaState
  pub queue : QueueState
  pub filling : Filling
  pub durable : ℕ
  pub calls : ℕ
  pub stopped : Option ℕ

-- how many blocks are queued, and how many were accepted
abbrev pub queued : {D : Type 0} → LogState D → ℕ
queued l = length l.queue.places

-- How many blocks the log has accepted: those on the disks, and those that are queued.
abbrev pub front : {D : Type 0} → LogState D → ℕ
front l = l.durable + queued l

-- the setup of the model; a log knows no buckets
abbrev pub setup_of_log : {D : Type 0} → LogState D → Setup
setup_of_log l = record {
  arenas = map (λ r. r.region.len) l.layout;
  versions = l.versions;
  base = l.base;
  sections = [];
}

-- the queued blocks: those that are staged for the commit under way, and those that wait
abbrev pub queue_of : {D : Type 0} → LogState D → History
queue_of l =
    map (accepted_in l.committing) (added_by_commit l.arena) ++ map waiting_block l.queue.waiting

-- The clumps of the queued blocks.
abbrev pub packed_of : {D : Type 0} → LogState D → List Packed
packed_of l = l.arena.staged ++ map (λ w. w.packed) l.queue.waiting

-- ---- where blocks go

-- an arena of this number with this head
abbrev pub filled_as : (arena : ℕ) → ArenaHead → Filling
filled_as arena head = record { arena = arena; used = head.used; clumps = head.clumps }

-- the arena of this number as it was found; past the last one there is none
abbrev pub found_filling : List Found → (arena : ℕ) → Filling
found_filling heads arena =
    option_map_or (λ found. filled_as arena found.head) (slice_get heads arena)
    (record { arena = arena; used = 0; clumps = 0 })

-- A block of n bytes fits behind what fills an arena so far. Where there is no arena none does, and
-- only one of the version that is written takes more.
abbrev pub fits_in : List ArenaRegion → (versions : List ℕ) → Filling → (n : ℕ) → Bool
fits_in layout versions f n =
    slice_index versions f.arena == WRITTEN_VERSION
    && has_room WRITTEN_VERSION (slice_index (map (λ r. r.region.len) layout) f.arena) f.used
    f.clumps n

-- An arena can be sealed unless it is of version 2.
abbrev pub can_close : (versions : List ℕ) → (arena : ℕ) → Bool
can_close versions arena = not (slice_index versions arena == 2)

-- the arena with that block
abbrev pub with_room_taken : (n : ℕ) → Filling → Filling
with_room_taken n f =
    record f { used = f.used + block_room WRITTEN_VERSION n; clumps = f.clumps + 1 }

-- the arena that a block of n bytes goes to, as it is before the block: the one that is being
-- filled if it fits there, else the next one, if this one can be sealed and it fits there
abbrev pub next_filling : {D : Type 0} → LogState D → (n : ℕ) → Option Filling
next_filling l n =
    let next = found_filling l.heads (l.filling.arena + 1) in
    if fits_in l.layout l.versions l.filling n then Some l.filling
    else if can_close l.versions l.filling.arena && fits_in l.layout l.versions next n
    then Some next
    else None

-- Whether an arena has room for a block of n bytes: the one that is being filled, or the next one.
abbrev pub has_next : {D : Type 0} → LogState D → (n : ℕ) → Bool
has_next l n = is_some (next_filling l n)

-- ---- mounting

-- the disks of these partitions
abbrev pub disks_of : {D : Type 0} → List (Part D) → List D
disks_of parts = map (λ part. disk_of part) parts

-- a log that has made no call: nothing is queued, staged or under way, and the arena that is
-- committed in is the base
pub record IsMountedLog {D : Type 0} (l : LogState D) : Type 0 where
  pub committing : l.committing ≡ l.base
  pub staged : l.arena.staged ≡ []
  pub rest : IsFalse (is_committing l.arena)
  pub queue : l.queue ≡ no_queue
  pub filling : l.filling ≡ found_filling l.heads l.base
  pub durable : l.durable ≡ sum_by (λ found. found.head.clumps) l.heads
  pub calls : l.calls ≡ 0
  pub stopped : l.stopped ≡ None

-- the disks after mounting, whatever the answer
abbrev pub disks_after : {D E : Type 0} → Result (LogState D) (E × Vec (Part D) Global) → List D
disks_after (Ok l) = l.disks
disks_after (Err refusal) = disks_of refusal.1.items
