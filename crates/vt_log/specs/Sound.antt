-- What the disks of a log hold, and what a crash leaves of them.
use Rattle.std.specs.Prelude.{◌≡◌, ◌≢◌, ◌%◌, ℕ, ◌+◌, ◌<◌, ◌≤◌, Bool, Some, List, All, length, take, drop, sum_by, slice_get, slice_index}
use Rattle.vt_base.specs.declared.place.Place.{Place}
use Rattle.vt_disk.specs.Members.{DiskOf}
use Rattle.vt_disk.specs.Disk.{WithinCall}
use Rattle.vt_twin.specs.Frames.{named_number}
use Rattle.vt_clump.specs.Clumps.{IsPacked}
use Rattle.vt_model.specs.History.{History}
use Rattle.vt_model.specs.Places.{lengths_in, current_arena, place_of}
use Rattle.vt_part.specs.declared.layout.ArenaRegion.{ArenaRegion}
use Rattle.vt_arena.specs.declared.TheConstants.{FRAME_LEN}
use Rattle.vt_arena.specs.declared.head.Found.{Found}
use Rattle.vt_arena.specs.Layout.{Content, IsArena, arena_head}
use Rattle.vt_arena.specs.Places.{block_room}
use Rattle.vt_arena.specs.Sound.{IsSettled, IsSoundArena}
use Rattle.vt_log.specs.declared.filling.Filling.{Filling}
use Rattle.vt_log.specs.Log.{LogState, setup_of_log, front, queue_of}
use Rattle.vt_log.specs.Logs.{blocks_from, IsSealed, IsUntouched, LogStandsFor}
use Rattle.vt_log.specs.Queue.{spot_of}
use Rattle.vt_log.specs.Whole.{IsWholeLog}

-- arena i stands here, on this disk
pub record IsArenaAt {D : Type 0} (l : LogState D) (i : ℕ) (r : ArenaRegion) (disk : D)
    : Type 0 where
  pub arena : slice_get l.layout i ≡ Some r
  pub disk_is : slice_get l.disks r.part ≡ Some disk

-- the arenas before the one that is committed in are sealed, it isn't, and those behind it are
-- untouched
pub record IsSplit (committing : ℕ) (contents : List Content) : Type 0 where
  pub before : All IsSealed (take committing contents)
  pub current : (a : Content) → slice_get contents committing ≡ Some a → a.sealed ≡ Bool.false
  pub behind : All IsUntouched (drop (committing + 1) contents)

-- an arena of this version is filled by blocks of these lengths
pub record IsFilledBy (version : ℕ) (lengths : List ℕ) (f : Filling) : Type 0 where
  pub used : f.used ≡ sum_by (block_room version) lengths
  pub clumps : f.clumps ≡ length lengths

-- The disks, by what they read as and by their images, are sound for a log that has accepted this
-- history.
pub record IsSoundLog {D : Type 0} (score_of : List ℕ → List ℕ) (disk : DiskOf D) (l : LogState D)
    (h : History) : Type 0 where
  pub whole : IsWholeLog disk l
  -- what each arena holds
  pub contents : List Content
  pub many : length contents ≡ length l.layout
  pub split : IsSplit l.committing contents
  -- the arena that is committed in is sound; of any other a crash leaves just what is read of it
  pub current : (r : ArenaRegion) (device : D) (a : Content) → IsArenaAt l l.committing r device
      → slice_get contents l.committing ≡ Some a
      → IsSoundArena score_of l.arena r.region a (disk.bytes device) (disk.images device)
  pub others : (i : ℕ) (r : ArenaRegion) (device : D) (a : Content) → i ≢ l.committing
      → IsArenaAt l i r device → slice_get contents i ≡ Some a
      → IsSettled r.region (disk.bytes device) (disk.images device)
      × IsArena score_of r.region r.number a (disk.bytes device)
  -- the heads are those of what is committed, and behind that arena the selectors are as they are
  -- read
  pub heads : (i : ℕ) (r : ArenaRegion) (found : Found) (a : Content)
      → slice_get l.layout i ≡ Some r → slice_get l.heads i ≡ Some found
      → slice_get contents i ≡ Some a → found.head ≡ arena_head score_of r.number a
  pub selectors : (i : ℕ) (r : ArenaRegion) (device : D) (found : Found) → l.committing < i
      → IsArenaAt l i r device → slice_get l.heads i ≡ Some found
      → found.selector % 2 ≡ named_number r.region FRAME_LEN (disk.bytes device)
  -- the history is what the arenas hold and, behind it, the queue
  pub committed : take l.durable h ≡ blocks_from 0 contents
  pub queued : drop l.durable h ≡ queue_of l
  pub front : front l ≡ length h
  pub packed : All (λ w. IsPacked score_of w.packed) l.queue.waiting
  -- the blocks stand where the model puts them
  pub places : (i : ℕ) (place : Place) → slice_get l.queue.places i ≡ Some place
      → place_of (setup_of_log l) h (l.durable + i) ≡ Some (spot_of place)
  pub filling : IsFilledBy (slice_index l.versions l.filling.arena)
      (lengths_in l.filling.arena h) l.filling
  pub last : l.filling.arena ≡ current_arena (setup_of_log l) h
  pub arenas : All (λ e. e.arena ≤ l.filling.arena) h

-- one file for each disk, which a crash may leave of it
pub record AreImagesOf {D : Type 0} (disk : DiskOf D) (disks : List D)
    (files : List (List ℕ)) : Type 0 where
  pub many : length files ≡ length disks
  pub each : (i : ℕ) (device : D) (file : List ℕ) → slice_get disks i ≡ Some device
      → slice_get files i ≡ Some file → disk.images device file

-- One file for each disk, which a crash may leave of it at a moment within a call that turns the
-- one list of disks into the other.
pub record AreWithinCallOf {D : Type 0} (disk : DiskOf D) (old new : List D)
    (files : List (List ℕ)) : Type 0 where
  pub many : length files ≡ length old
  pub each : (i : ℕ) (before after : D) (file : List ℕ) → slice_get old i ≡ Some before
      → slice_get new i ≡ Some after → slice_get files i ≡ Some file
      → WithinCall (disk.images before) (disk.images after) file

-- the files stand for a prefix of the history that has all durable blocks
abbrev pub LogStandsForPrefix : {D : Type 0} → (score_of : List ℕ → List ℕ) → LogState D
    → (files : List (List ℕ)) → History → Type 0
LogStandsForPrefix score_of l files h =
    (n : ℕ) × (l.durable ≤ n) × (n ≤ length h)
    × LogStandsFor score_of (setup_of_log l) l.layout files h n
