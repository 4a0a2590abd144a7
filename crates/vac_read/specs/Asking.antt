-- How many blocks are asked for at most.
use Rattle.std.specs.Prelude.{ℕ, ◌≡◌, ◌+◌, ◌*◌, ◌/◌, ◌≤◌, List, Result, length}
use Rattle.std.specs.List.{AllByRecursion}
use Rattle.vt_tree.specs.declared.entry.Entry.{Entry}
use Rattle.vt_tree.specs.Calls.{Call, TellsOfMap}
use Rattle.vt_tree.specs.Content.{size_of, way_to}
use Rattle.vt_tree.specs.Maps.{BlockMap, Maps, IsWriteOnce}
use Rattle.vac_read.specs.declared.error.VacBad.{VacBad}
use Rattle.vac_read.specs.declared.kept.KeptFolder.{KeptFolder}
use Rattle.vac_read.specs.declared.node.Stored.{Stored}
use Rattle.vac_read.specs.declared.node.Stored.TheVariants as stored
use Rattle.vac_read.specs.Kept.{KeepsFolder, KeepsStored}
use Rattle.vac_read.specs.Reading.{ReadsArchive}

-- So blocks were read, and by each write-once map of which the answers are true, so many calls as were made for that
-- are few.
pub record ReadsFew {S X : Type 0} (does : S → Call → S → Type 0) (holds : S → Maps → Type 0)
    (score_of : List ℕ → List ℕ) (s s' : S) (result : Result X VacBad)
    (is_right : BlockMap → Type 0) (are_few : BlockMap → ℕ → Type 0) : Type 0 where
  pub reads : ReadsArchive does holds score_of s s' result is_right
  pub few : (map : BlockMap) → IsWriteOnce score_of map
      → AllByRecursion (TellsOfMap score_of map) reads.calls → are_few map (length reads.calls)

-- for a leaf of a stream: it, and what stands above it
abbrev pub leaf_blocks : Entry → ℕ
leaf_blocks stream = stream.depth + 1

-- for a whole stream: its blocks, each once
abbrev pub stream_blocks : (zero_score : List ℕ) → Entry → BlockMap → ℕ
stream_blocks zero_score e map = length (way_to zero_score map e 0 (size_of e))

-- for the entries of one item of a folder: a leaf for each of the two
abbrev pub item_blocks : Stored → ℕ
item_blocks (stored.File e) = 0
item_blocks (stored.Folder entries metadata) = 2 * leaf_blocks entries

-- how many items a folder may have, since a record has 28 bytes at least
abbrev pub most_items : Stored → ℕ
most_items (stored.File e) = 0
most_items (stored.Folder entries metadata) = size_of metadata / 28

-- for the records of a folder
abbrev pub record_blocks : (zero_score : List ℕ) → Stored → BlockMap → ℕ
record_blocks zero_score (stored.File e) map = 0
record_blocks zero_score (stored.Folder entries metadata) map =
    stream_blocks zero_score metadata map

-- so many blocks at most, to list what is stored so
abbrev pub ListAsks : (zero_score : List ℕ) → Stored → BlockMap → (n : ℕ) → Type 0
ListAsks zero_score s map n =
    n ≤ record_blocks zero_score s map + most_items s * item_blocks s

-- So many blocks at most, to look for one name in what is stored so, where this is kept of folders: the records of a
-- folder that is kept aren't asked for.
pub record FindAsks (zero_score : List ℕ) (s : Stored) (kept : List KeptFolder) (map : BlockMap)
    (n : ℕ) : Type 0 where
  pub most : n ≤ record_blocks zero_score s map + item_blocks s
  pub again : KeepsStored s kept → n ≤ item_blocks s

-- So many blocks at most, until the records of the folder of these two entries are there.
pub record EnterAsks (zero_score : List ℕ) (entries metadata : Entry) (kept : List KeptFolder)
    (map : BlockMap) (n : ℕ) : Type 0 where
  pub most : n ≤ stream_blocks zero_score metadata map
  pub again : KeepsFolder entries metadata kept → n ≡ 0
