-- What a disk holds for an arena, and what a crash leaves of it.
use Rattle.std.specs.Prelude.{◌≡◌, ◌⊎◌, [], ℕ, ◌+◌, ◌<◌, ◌≤◌, List, All, IsSome, IsTrue, length, take}
use Rattle.vt_disk.specs.declared.region.Region.{Region}
use Rattle.vt_disk.specs.Disk.{IsAligned}
use Rattle.vt_disk.specs.Region.{FitsDisk, region_bytes}
use Rattle.vt_twin.specs.Twin.{next_frame, twin_calls_made}
use Rattle.vt_twin.specs.Sound.{IsSoundTwin, TwinHasBegunSelector}
use Rattle.vt_clump.specs.Spelling.{Stored}
use Rattle.vt_clump.specs.Clumps.{IsPacked}
use Rattle.vt_model.specs.declared.TheConstants.{WRITTEN_VERSION}
use Rattle.vt_arena.specs.declared.TheConstants.{FRAME_LEN}
use Rattle.vt_arena.specs.Arena.{ArenaState, added_by_commit, next_content, pieces}
use Rattle.vt_arena.specs.Heads.{fields_of, head_frame, own_fields}
use Rattle.vt_arena.specs.Places.{IsArenaLen}
use Rattle.vt_arena.specs.Layout.{Content, IsArenaContent, IsArena, HasBlocks, BytesStandAt, ClumpsStandAt, directory_of, clumps_place, directory_place, has_directory, arena_head}

-- a region of a disk of this size that an arena may have, from a sector's start on
pub record IsRegion (region : Region) (size : ℕ) : Type 0 where
  pub within : FitsDisk region size
  pub aligned : IsAligned region.start
  pub len : IsArenaLen region.len

-- a crash leaves in the region nothing but what a read gives
abbrev pub IsSettled : Region → (read : List ℕ) → (images : List ℕ → Type 0) → Type 0
IsSettled region read images =
    (c : List ℕ) → images c → region_bytes region c ≡ region_bytes region read

-- the blocks whose clumps the commit under way has written
abbrev pub clumps_made : ArenaState → List Stored
clumps_made a = take a.written (added_by_commit a)

-- the pieces that it has written stand in the region: clumps behind those of the blocks that were
-- there and, once all are, the directory below theirs
pub record HasPieces (a : ArenaState) (region : Region) (old : Content) (file : List ℕ)
    : Type 0 where
  pub clumps : ClumpsStandAt WRITTEN_VERSION (clumps_place region old.version old.stored)
      (clumps_made a) file
  pub directory : length a.staged < a.written
      → BytesStandAt (directory_place region (length old.stored + length a.staged))
      (directory_of (added_by_commit a)) file

-- A disk, by what it reads as and by its images, is sound for an arena in this region that holds
-- `old`.
pub record IsSoundArena (score_of : List ℕ
    → List ℕ) (a : ArenaState) (region : Region) (old : Content)
    (read : List ℕ) (images : List ℕ → Type 0) : Type 0 where
  -- the heads in memory are those of what is committed and of what the next commit makes of it
  pub len : a.len ≡ region.len
  pub frame_len : a.twin.frame_len ≡ FRAME_LEN
  pub head : a.head ≡ arena_head score_of a.number old
  pub next : a.next ≡ arena_head score_of a.number (next_content a old)
  pub chain : length a.next.chain.0 ≡ 20
  pub packed : All (IsPacked score_of) a.staged
  pub content : IsArenaContent score_of region.len old
  pub next_content_is : IsArenaContent score_of region.len (next_content a old)
  -- the version stays, but for an arena without blocks, and a directory is added to one that stands
  pub version : (old.stored ≡ []) ⊎ ((next_content a old).version ≡ old.version)
  pub grows : IsTrue (has_directory (next_content a old))
      → (old.stored ≡ []) ⊎ IsTrue (has_directory old)
  -- the head changes to the next one once all pieces are written
  pub begun : IsSome a.twin.change
      → (a.written ≡ pieces a) × (next_frame a.twin ≡ head_frame a.next)
  -- the twin is sound for a frame with the head
  pub frame : List ℕ
  pub twin : IsSoundTwin a.twin region frame read images
  pub fields : own_fields frame ≡ fields_of a.head
  -- what is committed stands in every image, whatever is under way
  pub kept : (c : List ℕ) → images c → HasBlocks region old c
  -- the pieces are written, and then synced with the idle frame, so that they stand in every image
  pub written : HasPieces a region old read
  pub synced : 2 ≤ twin_calls_made a.twin → (c : List ℕ) → images c → HasPieces a region old c

-- the selector's write began: the last call but one of the commit
abbrev pub HasBegunSelector : ArenaState → Type 0
HasBegunSelector a = TwinHasBegunSelector a.twin

-- the file is the old arena or, once the selector's write began, the old one or the next
abbrev pub GivesOldOrNext : (began : Type 0) → (score_of : List ℕ → List ℕ) → Region
    → (number : ℕ) → (old next : Content) → (file : List ℕ) → Type 0
GivesOldOrNext began score_of region number old next file =
    IsArena score_of region number old file ⊎ (began × IsArena score_of region number next file)
