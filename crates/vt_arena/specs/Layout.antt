-- What the bytes of an arena stand for (Quinlan and Dorward 2002, the data log; the layout is this
-- project's): a head that is changed whole, clumps one behind another, and at the region's end a
-- directory that grows downwards, so that its last entry stands first. An arena of version 2 has
-- its directory only once it is sealed; until then its clumps tell the way from the last to the
-- first, since each names how many sectors the one before it takes.
use Rattle.std.specs.Prelude.{◌≡◌, ⊤, ℕ, ◌+◌, ◌-◌, ◌==◌, ◌||◌, if◌then◌else◌, Bool, IsTrue, List, [], ◌∷◌, ◌++◌, All, length, reverse, replicate, fold, sum_by}
use Rattle.std.specs.List.{flat_map}
use Rattle.byteorder.specs.Endian.{big_bytes}
use Rattle.vt_disk.specs.declared.region.Region.{Region}
use Rattle.vt_disk.specs.Disk.{part}
use Rattle.vt_disk.specs.Region.{Inside}
use Rattle.vt_twin.specs.Frames.{current_frame}
use Rattle.vt_clump.specs.Spelling.{Stored, IsStoredBlock, clump_bytes, sizes}
use Rattle.vt_model.specs.declared.TheConstants.{ARENA_HEAD_LEN}
use Rattle.vt_arena.specs.declared.head.ArenaHead.{ArenaHead}
use Rattle.vt_arena.specs.declared.TheConstants.{FRAME_LEN}
use Rattle.vt_arena.specs.Heads.{fields_of, own_fields}
use Rattle.vt_arena.specs.Places.{IsVersion, block_room, entries_len, last_sectors, lengths_of, sectors_of, Fit}

-- a directory entry: type[1] size[2] uncsize[2] score[20]
abbrev pub entry_bytes : (kind n : ℕ) → (score : List ℕ) → List ℕ
entry_bytes kind n score = kind ∷ (sizes n ++ score)

-- the directory entry of a block that is stored
abbrev pub arena_entry : Stored → List ℕ
arena_entry s = entry_bytes s.kind (length s.block) s.score

-- the directory of stored blocks, which grows from the arena's end to its front
abbrev pub directory_of : List Stored → List ℕ
directory_of stored = flat_map arena_entry (reverse stored)

-- How many bytes the clumps of these blocks take in an arena of this version.
abbrev pub used_of : (version : ℕ) → List Stored → ℕ
used_of version stored = sum_by (block_room version) (lengths_of stored)

-- Behind a clump of so many sectors, each header names how many sectors the clump before it takes.
abbrev pub AreLinked : (before : ℕ) → List Stored → Type 0
AreLinked before [] = ⊤
AreLinked before (s ∷ rest) =
    (s.creator ≡ big_bytes 4 before) × AreLinked (sectors_of (length s.block)) rest

-- A chain begins as 20 zeros. Each entry makes it the score of what it was and of the entry.
abbrev pub chain_of_blocks : (List ℕ → List ℕ) → List Stored → List ℕ
chain_of_blocks score_of stored =
    fold (λ chain s. score_of (chain ++ arena_entry s)) (replicate 20 0) stored

-- what an arena holds: in which version, its blocks in order, and whether it is closed for more
pub record Content : Type 0 where
  pub version : ℕ
  pub sealed : Bool
  pub stored : List Stored

-- an arena as it is formatted
abbrev pub empty : Content
empty = record { version = 1; sealed = Bool.false; stored = [] }

-- how many sectors the last clump of an arena takes, as its head says; version 1 doesn't say
abbrev pub last_of : Content → ℕ
last_of a = if a.version == 2 then last_sectors 0 (lengths_of a.stored) else 0

-- The head of the arena of this number that holds this.
abbrev pub arena_head : (score_of : List ℕ → List ℕ) → (number : ℕ) → Content → ArenaHead
arena_head score_of number a = record {
  version = a.version;
  number = number;
  sealed = a.sealed;
  clumps = length a.stored;
  used = used_of a.version a.stored;
  chain = record { 0 = chain_of_blocks score_of a.stored };
  last = last_of a;
}

-- these bytes stand at a place of the file
abbrev pub BytesStandAt : (place : ℕ) → (bytes file : List ℕ) → Type 0
BytesStandAt place bytes file = part place (length bytes) file ≡ bytes

-- The clumps of these blocks stand from this place on, each behind what the one before it takes.
-- What lies between a clump and the end of its last sector doesn't matter.
abbrev pub ClumpsStandAt : (version place : ℕ) → List Stored → (file : List ℕ) → Type 0
ClumpsStandAt version place [] file = ⊤
ClumpsStandAt version place (s ∷ rest) file =
    BytesStandAt place (clump_bytes s) file
    × ClumpsStandAt version (place + block_room version (length s.block)) rest file

-- where the clumps behind those of these blocks stand
abbrev pub clumps_place : Region → (version : ℕ) → (before : List Stored) → ℕ
clumps_place region version before = region.start + ARENA_HEAD_LEN + used_of version before

-- where a directory of so many entries begins, which ends with the arena
abbrev pub directory_place : Region → (entries : ℕ) → ℕ
directory_place region entries = region.start + region.len - entries_len entries

-- where the head of the region's arena stands
abbrev pub head_place : Region → Region
head_place region = record { start = region.start; len = ARENA_HEAD_LEN }

-- place i of the disk lies in it
abbrev pub InHead : Region → ℕ → Type 0
InHead region i = Inside (head_place region) i

-- an arena has a directory where it is sealed, and in version 1 always
abbrev pub has_directory : Content → Bool
has_directory a = a.sealed || a.version == 1

-- the clumps of the arena's blocks stand in the region, and their directory, where it has one
pub record HasBlocks (region : Region) (a : Content) (file : List ℕ) : Type 0 where
  pub clumps : ClumpsStandAt a.version (region.start + ARENA_HEAD_LEN) a.stored file
  pub directory : IsTrue (has_directory a)
      → BytesStandAt (directory_place region (length a.stored)) (directory_of a.stored) file

-- Each of the blocks is one with its score, and an arena of this length has room for all of them. In
-- version 2 each names how many sectors the clump before it takes, and the first one none.
pub record IsArenaContent (score_of : List ℕ → List ℕ) (len : ℕ) (a : Content) : Type 0 where
  pub version : IsVersion a.version
  pub stored : All (IsStoredBlock score_of) a.stored
  pub linked : a.version ≡ 2 → AreLinked 0 a.stored
  pub fit : Fit a.version len a.stored

-- the fields of the head that is current: a twin is found by its region's start alone
abbrev pub fields_at : Region → (file : List ℕ) → List ℕ
fields_at region file = own_fields (current_frame region FRAME_LEN file)

-- The file's bytes in the region are the arena of this number that holds this.
pub record IsArena (score_of : List ℕ → List ℕ) (region : Region) (number : ℕ) (a : Content)
    (file : List ℕ) : Type 0 where
  pub content : IsArenaContent score_of region.len a
  pub head : fields_at region file ≡ fields_of (arena_head score_of number a)
  pub blocks : HasBlocks region a file
