-- How a log is found.
use Rattle.std.specs.Prelude.{◌≡◌, ◌⊎◌, ⊤, ℕ, ◌+◌, ◌%◌, ◌<◌, ◌≤◌, All, Bool, IsTrue, None, Some, List, [], ◌∷◌, length, map, sum_by, take, slice_get, Result, Ok, Err}
use Rattle.vt_disk.specs.Members.{DiskOf}
use Rattle.vt_disk.specs.Calls.{IsSynced}
use Rattle.vt_twin.specs.Frames.{named_number}
use Rattle.vt_part.specs.declared.layout.ArenaRegion.{ArenaRegion}
use Rattle.vt_part.specs.declared.part.Part.{Part}
use Rattle.vt_part.specs.Layout.{layout_of}
use Rattle.vt_part.specs.Parts.{tables_of}
use Rattle.vt_part.specs.Table.{Table}
use Rattle.vt_arena.specs.declared.TheConstants.{FRAME_LEN}
use Rattle.vt_arena.specs.declared.error.ArenaBad.{ArenaBad}
use Rattle.vt_arena.specs.declared.error.ArenaBad.TheVariants.{Fault as ArenaFault, NotFormatted, Torn, NoMemory as ArenaNoMemory}
use Rattle.vt_arena.specs.declared.head.ArenaHead.{ArenaHead}
use Rattle.vt_arena.specs.declared.head.Found.{Found}
use Rattle.vt_arena.specs.Arena.{ArenaState, fresh_arena, version_counted}
use Rattle.vt_arena.specs.Faults.{first_bad_head, read_at, reads_to_find, CanStand}
use Rattle.vt_arena.specs.Heads.{fields_of, own_fields}
use Rattle.vt_arena.specs.Layout.{Content, IsArena, arena_head}
use Rattle.vt_log.specs.declared.error.LogBad.{LogBad}
use Rattle.vt_log.specs.declared.error.LogBad.TheVariants.{Part as PartRefused, Arena, Order, Fault, NoMemory}
use Rattle.vt_log.specs.Answers.{HoldTheSame}
use Rattle.vt_log.specs.Faults.{bad_arena, first_bad_log}
use Rattle.vt_log.specs.Log.{LogState, disks_of, filled_as}
use Rattle.vt_log.specs.Queue.{no_queue}

-- so many calls at most were made of partitions' disks, and they wrote nothing
pub record OnlyReadsParts {D : Type 0} (disk : DiskOf D) (most : ℕ) (old new : List (Part D))
    : Type 0 where
  pub tables : tables_of new ≡ tables_of old
  pub disks : HoldTheSame disk (disks_of old) (disks_of new)
  pub calls_most : IsTrue disk.tells
      → sum_by disk.calls (disks_of new) ≤ sum_by disk.calls (disks_of old) + most

-- how many reads find these arenas, of which this is read
abbrev pub reads_to_find_all : List ArenaRegion → (fields : List (List ℕ)) → ℕ
reads_to_find_all [] fields = 0
reads_to_find_all (r ∷ rest) [] = 0
reads_to_find_all (r ∷ rest) (f ∷ fields) =
    reads_to_find r.number r.region.len f + reads_to_find_all rest fields

-- A log was mounted by so many calls at most: a sync of each disk, and the reads that find its
-- arenas, of which this is read.
abbrev pub MountsInCalls : {D : Type 0} → DiskOf D → List (Part D) → (fields : List (List ℕ))
    → LogState D → Type 0
MountsInCalls disk parts fields log = IsTrue disk.tells
    → sum_by disk.calls log.disks ≤ sum_by disk.calls (disks_of parts) + length parts
    + reads_to_find_all (layout_of (tables_of parts)) fields

-- a crash leaves of these partitions' disks just what a read gives
abbrev pub AreSettled : {D : Type 0} → DiskOf D → List (Part D) → Type 0
AreSettled disk parts = All (IsSynced disk) (disks_of parts)

-- Syncing them stopped at this one's disk: one call was made of it and of each before it, and the
-- partitions behind it are as they were.
pub record StopsSyncing {D : Type 0} (disk : DiskOf D) (old new : List (Part D)) : Type 0 where
  pub part : ℕ
  pub within : part < length old
  pub calls_most : IsTrue disk.tells
      → sum_by disk.calls (disks_of new) ≤ sum_by disk.calls (disks_of old) + (part + 1)
  pub behind : (i : ℕ) → part < i → slice_get new i ≡ slice_get old i

-- What is told of the disks' bytes is told of settled ones. Nothing is read behind a sync that
-- fails, and where two partitions have one name no call is made.
abbrev pub TellsOfSettled : {D : Type 0} → DiskOf D → (old new : List (Part D)) → LogBad → Type 0
TellsOfSettled disk old new (PartRefused bad) = new ≡ old
TellsOfSettled disk old new (Arena i bad) = AreSettled disk new
TellsOfSettled disk old new (Order i clumps) = AreSettled disk new
TellsOfSettled disk old new Fault = StopsSyncing disk old new ⊎ AreSettled disk new
TellsOfSettled disk old new NoMemory = (new ≡ old) ⊎ AreSettled disk new

-- a refusal before any call
abbrev pub IsBeforeCalls : LogBad → Type 0
IsBeforeCalls (PartRefused bad) = ⊤
IsBeforeCalls (Arena i bad) = ⊥
IsBeforeCalls (Order i clumps) = ⊥
IsBeforeCalls Fault = ⊥
IsBeforeCalls NoMemory = ⊤

-- this is what mounting reads of an arena, as the files have it
abbrev pub AreFieldsAt : (files : List (List ℕ)) → ArenaRegion → (fields : List ℕ) → Type 0
AreFieldsAt files r fields =
    (file : List ℕ) → slice_get files r.part ≡ Some file → fields ≡ read_at r.region r.number file

-- what finding arena i answers where these are its fields; `behind` is whether an unsealed one
-- stands before it
abbrev pub FindsNext : (behind : Bool) (i : ℕ) → ArenaRegion → (fields : List ℕ)
    → Result Found LogBad → Type 0
FindsNext behind i r fields (Ok found) =
    (bad_arena behind i (first_bad_head r.number r.region.len fields) fields ≡ None)
    × (fields_of found.head ≡ own_fields fields)
FindsNext behind i r fields (Err (PartRefused bad)) = ⊥
FindsNext behind i r fields (Err (Arena j bad)) =
    bad_arena behind i (first_bad_head r.number r.region.len fields) fields ≡ Some (Arena j bad)
FindsNext behind i r fields (Err (Order j clumps)) =
    bad_arena behind i (first_bad_head r.number r.region.len fields) fields ≡ Some (Order j clumps)
FindsNext behind i r fields (Err Fault) = ⊤
FindsNext behind i r fields (Err NoMemory) = ⊥

-- what is told of a log whose arena i can't be mounted
abbrev pub arena_refusal : (i : ℕ) → ArenaBad → LogBad
arena_refusal i ArenaFault = Fault
arena_refusal i NotFormatted = Arena i NotFormatted
arena_refusal i (Torn field found want) = Arena i (Torn field found want)
arena_refusal i ArenaNoMemory = Arena i ArenaNoMemory

-- what is found of an arena whose disk reads as this file
pub record IsFoundArena (tells : Bool) (r : ArenaRegion) (file : List ℕ) (found : Found)
    : Type 0 where
  pub stands : CanStand r.number r.region.len found.head
  pub selector : IsTrue tells → found.selector % 2 ≡ named_number r.region FRAME_LEN file
  pub head : (score_of : List ℕ → List ℕ) (a : Content) → IsTrue tells
      → IsArena score_of r.region r.number a file → found.head ≡ arena_head score_of r.number a

-- what is found of these arenas
pub record AreFound (tells : Bool) (layout : List ArenaRegion) (files : List (List ℕ))
    (heads : List Found) : Type 0 where
  pub many : length heads ≡ length layout
  pub each : (i : ℕ) (r : ArenaRegion) (file : List ℕ) (found : Found)
      → slice_get layout i ≡ Some r → slice_get files r.part ≡ Some file
      → slice_get heads i ≡ Some found → IsFoundArena tells r file found

-- the arenas are refused for the first one that can't stand; a fault and want of memory need none
abbrev pub RefusesArenas : List ArenaRegion → (fields : List (List ℕ)) → LogBad → Type 0
RefusesArenas layout fields (PartRefused bad) = ⊥
RefusesArenas layout fields (Arena i bad) =
    first_bad_log Bool.false 0 layout fields ≡ Some (Arena i bad)
RefusesArenas layout fields (Order i clumps) =
    first_bad_log Bool.false 0 layout fields ≡ Some (Order i clumps)
RefusesArenas layout fields Fault = ⊤
RefusesArenas layout fields NoMemory = ⊤

-- All arenas pass the tests, and these are their heads.
pub record ArePassed (layout : List ArenaRegion) (fields : List (List ℕ)) (heads : List Found)
    : Type 0 where
  pub passed : first_bad_log Bool.false 0 layout fields ≡ None
  pub heads_are : map (λ found. fields_of found.head) heads ≡ map own_fields fields

-- the arenas before this one are sealed, and it isn't, if it is there
pub record IsFirstOpen (heads : List Found) (arena : ℕ) : Type 0 where
  pub before : All (λ found. found.head.sealed ≡ Bool.true) (take arena heads)
  pub at : (found : Found) → slice_get heads arena ≡ Some found
      → found.head.sealed ≡ Bool.false
  pub most : arena ≤ length heads

-- Room to commit in an arena; where there is none of this number, it is that of an arena without
-- blocks.
pub record IsRoomFor (layout : List ArenaRegion) (heads : List Found) (arena : ℕ) (a : ArenaState)
    : Type 0 where
  pub len : ℕ
  pub current : ℕ
  pub head : ArenaHead
  pub fresh : a ≡ fresh_arena len current head
  pub there : (r : ArenaRegion) (found : Found) → slice_get layout arena ≡ Some r
      → slice_get heads arena ≡ Some found
      → (len ≡ r.region.len) × (current ≡ found.selector % 2) × (head ≡ found.head)
  pub past : length layout ≤ arena
      → (head.sealed ≡ Bool.false) × (head.used ≡ 0) × (head.clumps ≡ 0)

-- a log that was just found
abbrev pub found_log : {D : Type 0} → List D → List Table → List ArenaRegion → List Found
    → (base : ℕ) → ArenaState → LogState D
found_log disks tables layout heads base arena = record {
  disks = disks;
  tables = tables;
  layout = layout;
  heads = heads;
  versions = map (λ found. version_counted found.head) heads;
  base = base;
  committing = base;
  arena = arena;
  queue = no_queue;
  filling = filled_as base arena.head;
  durable = sum_by (λ found. found.head.clumps) heads;
  calls = 0;
  stopped = None;
}
