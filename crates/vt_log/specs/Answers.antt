-- What the calls of a log answer.
use Rattle.std.specs.Prelude.{◌≡◌, ◌≢◌, ℕ, ◌+◌, ◌<◌, ◌≤◌, IsTrue, Some, None, Result, Ok, Err, List, [], ◌∷◌, ◌++◌, length, map, drop, sum_by, slice_get, slice_set}
use Rattle.vt_base.specs.declared.place.Place.{Place}
use Rattle.vt_base.specs.Faults.{CountsFault}
use Rattle.vt_disk.specs.Members.{DiskOf}
use Rattle.vt_clump.specs.declared.packed.Packed.{Packed}
use Rattle.vt_clump.specs.Clumps.{stored_of}
use Rattle.vt_disk.specs.Calls.{WritesWithin, MadeCalls}
use Rattle.vt_disk.specs.Disk.{AreAmong}
use Rattle.vt_base.specs.Faults.{one_more}
use Rattle.vt_model.specs.declared.TheConstants.{ARENA_HEAD_LEN}
use Rattle.vt_model.specs.History.{History}
use Rattle.vt_model.specs.Places.{next_arena, place_of}
use Rattle.vt_part.specs.declared.layout.ArenaRegion.{ArenaRegion}
use Rattle.vt_arena.specs.declared.head.Found.{Found}
use Rattle.vt_arena.specs.Arena.{is_committing}
use Rattle.vt_log.specs.declared.error.Full.{Full}
use Rattle.vt_log.specs.declared.error.Progress.{Progress}
use Rattle.vt_log.specs.declared.error.Progress.TheVariants.{Idle, Step, Durable}
use Rattle.vt_log.specs.declared.error.LogErr.{LogErr}
use Rattle.vt_log.specs.declared.error.LogErr.TheVariants.{Fault, Stopped}
use Rattle.vt_log.specs.declared.filling.Filling.{Filling}
use Rattle.vt_log.specs.Faults.{is_fault_now}
use Rattle.vt_log.specs.Log.{LogState, setup_of_log, queued, packed_of, next_filling, with_room_taken}
use Rattle.vt_log.specs.Logs.{accepted_in}
use Rattle.vt_log.specs.Owed.{owed}
use Rattle.vt_log.specs.Queue.{with_waiting_block, spot_of}
use Rattle.vt_log.specs.Sound.{IsSoundLog}

-- The block is added behind the history, in the next arena that has room, at the place where it
-- then stands; where none has room nothing changes.
abbrev pub AppendsBlock : {D : Type 0} → (score_of : List ℕ → List ℕ) → DiskOf D
    → (old new : LogState D) → History → Packed → Result Place Full → Type 0
AppendsBlock score_of disk old new h packed (Ok place) =
    let longer : History = h ++ accepted_in place.arena (stored_of packed) ∷ [] in
    (next_arena (setup_of_log old) h packed.len ≡ Some place.arena)
    × (place_of (setup_of_log old) longer (length h) ≡ Some (spot_of place))
    × IsSoundLog score_of disk new longer
AppendsBlock score_of disk old new h packed (Err full) =
    next_arena (setup_of_log old) h packed.len ≡ None

-- What taking a block in makes of a log: the block goes to the arena that has room, behind what
-- fills that.
pub record TakesIn {D : Type 0} (packed : Packed) (place : Place) (old new : LogState D)
    : Type 0 where
  pub filling : Filling
  pub next : next_filling old packed.len ≡ Some filling
  pub arena : place.arena ≡ filling.arena
  pub offset : place.offset ≡ ARENA_HEAD_LEN + filling.used
  pub new_is : new ≡ record old {
    queue = with_waiting_block (record { arena = place.arena; packed = packed }) place old.queue;
    filling = with_room_taken packed.len filling;
  }

-- the packed block is queued at the place that was told, or no arena has room and nothing changed
abbrev pub TakesOrRefuses : {D : Type 0} → Packed → (old new : LogState D) → Result Place Full
    → Type 0
TakesOrRefuses packed old new (Ok place) = TakesIn packed place old new
TakesOrRefuses packed old new (Err full) =
    (next_filling old packed.len ≡ None) × (new ≡ old)

-- a device call was made that ended no commit; the queue is what it was, and a commit that was
-- under way has the blocks and the head that it had
pub record LogMakesCall {D : Type 0} (old new : LogState D) : Type 0 where
  pub calls : new.calls ≡ one_more old.calls
  pub heads : new.heads ≡ old.heads
  pub durable : new.durable ≡ old.durable
  pub packed : packed_of new ≡ packed_of old
  pub places : new.queue.places ≡ old.queue.places
  pub commit : IsTrue (is_committing old.arena)
      → (new.arena.staged ≡ old.arena.staged) × (new.arena.next ≡ old.arena.next)

-- one was made that ended a commit of so many blocks: they leave the queue, and the arena's head is
-- the one that the commit was to bring
pub record EndsCommit {D : Type 0} (blocks : ℕ) (old new : LogState D) : Type 0 where
  pub calls : new.calls ≡ one_more old.calls
  pub head : (found : Found) → slice_get old.heads old.committing ≡ Some found
      → slice_get new.heads old.committing ≡ Some (record found { head = old.arena.next })
  pub heads : (i : ℕ) → i ≢ old.committing → slice_get new.heads i ≡ slice_get old.heads i
  pub durable : new.durable ≡ old.durable + blocks
  pub packed : packed_of new ≡ drop blocks (packed_of old)
  pub places : new.queue.places ≡ drop blocks old.queue.places

-- what a call of `advance` leaves
abbrev pub LogAdvances : {D : Type 0} → Result Progress LogErr → (old new : LogState D) → Type 0
LogAdvances (Ok Idle) old new = (queued old ≡ 0) × (new ≡ old)
LogAdvances (Ok Step) old new =
    LogMakesCall old new × (new.stopped ≡ None) × (owed new < owed old)
LogAdvances (Ok (Durable n)) old new =
    EndsCommit (length old.arena.staged) old new × (new.durable ≡ n) × (new.stopped ≡ None)
    × (owed new < owed old)
LogAdvances (Err Fault) old new = LogMakesCall old new × (new.stopped ≡ Some old.calls)
LogAdvances (Err (Stopped n)) old new = (old.stopped ≡ Some n) × (new ≡ old)

-- One device call was made, of the disk on which the arena stands that is committed in. It changed
-- nothing but in the arena's region, and a fault is told exactly where it failed. The other disks
-- are as they were.
pub record CallsArena {D : Type 0} (disk : DiskOf D) (result : Result Progress LogErr)
    (old new : LogState D) : Type 0 where
  pub r : ArenaRegion
  pub arena : slice_get old.layout old.committing ≡ Some r
  pub before : D
  pub after : D
  pub was : slice_get old.disks r.part ≡ Some before
  pub disks : new.disks ≡ slice_set old.disks r.part after
  pub writes : WritesWithin disk r.region 1 before after
  pub calls : MadeCalls disk 1 before after
  pub cause : CountsFault is_fault_now result (disk.faults before) (disk.faults after)

-- every disk but that of this partition is the same
pub record Spares {D : Type 0} (part : ℕ) (old new : List D) : Type 0 where
  pub many : length new ≡ length old
  pub others : (i : ℕ) → i ≢ part → slice_get new i ≡ slice_get old i

-- the disks hold what they held, and a crash leaves no more of them
pub record HoldTheSame {D : Type 0} (disk : DiskOf D) (old new : List D) : Type 0 where
  pub bytes_are : map disk.bytes new ≡ map disk.bytes old
  pub sizes_are : map disk.size new ≡ map disk.size old
  pub images_are : (i : ℕ) (before after : D) → slice_get old i ≡ Some before
      → slice_get new i ≡ Some after → AreAmong (disk.images after) (disk.images before)

-- the log reads from its disks, at most so many times, and nothing else changes
pub record OnlyReadsLog {D : Type 0} (score_of : List ℕ → List ℕ) (disk : DiskOf D) (most : ℕ)
    (old new : LogState D) : Type 0 where
  pub same : new ≡ record old { disks = new.disks }
  pub sound : (h : History) → IsSoundLog score_of disk old h → IsSoundLog score_of disk new h
  pub disks : HoldTheSame disk old.disks new.disks
  pub calls : IsTrue disk.tells → sum_by disk.calls new.disks ≤ sum_by disk.calls old.disks + most
