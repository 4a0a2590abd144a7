-- What is kept of the folders in which names were looked for.
use Rattle.std.specs.Prelude.{ℕ, zero, suc, ◌≡◌, ◌+◌, ◌≤◌, ◌⊎◌, ⊤, List, [], ◌∷◌, length}
use Rattle.std.specs.List.{AllByRecursion}
use Rattle.vt_tree.specs.declared.entry.Entry.{Entry}
use Rattle.vt_tree.specs.Content.{size_of}
use Rattle.vt_tree.specs.Maps.{BlockMap}
use Rattle.vac_meta.specs.Records.{AreRecords, all_spelled}
use Rattle.vac_model.specs.declared.TheConstants.{MAX_METADATA}
use Rattle.vac_model.specs.Trees.{AreFolder}
use Rattle.vac_read.specs.declared.TheConstants.{KEPT_FOLDER, MAX_KEPT}
use Rattle.vac_read.specs.declared.kept.KeptFolder.{KeptFolder}
use Rattle.vac_read.specs.declared.node.Stored.{Stored}
use Rattle.vac_read.specs.declared.node.Stored.TheVariants as stored
use Rattle.vac_read.specs.Folders.{KeepsLeaf}
use Rattle.vac_read.specs.Nodes.{IsDirectory, IsFileEntry}

-- ---- whatever the blocks are

-- its entries are those of a folder, and its records may stand in metadata, and have no more bytes
-- than that
pub record IsKeptFolder (k : KeptFolder) : Type 0 where
  pub stream : IsDirectory k.directory.stream
  pub metadata : IsFileEntry k.metadata
  pub are_records : AreRecords k.records
  pub short : length (all_spelled k.records) ≤ size_of k.metadata
  pub most : size_of k.metadata ≤ MAX_METADATA

-- what a folder counts: its metadata, and something for itself
abbrev pub kept_cost : KeptFolder → ℕ
kept_cost k = KEPT_FOLDER + size_of k.metadata

-- what folders count together
abbrev pub all_cost : List KeptFolder → ℕ
all_cost [] = 0
all_cost (k ∷ folders) = kept_cost k + all_cost folders

-- all that is kept, which counts no more than may be kept
pub record AreKept (folders : List KeptFolder) : Type 0 where
  pub each : AllByRecursion IsKeptFolder folders
  pub most : all_cost folders ≤ MAX_KEPT

-- ---- which folders

-- the folder has these two entries
pub record IsKeptOf (entries metadata : Entry) (k : KeptFolder) : Type 0 where
  pub stream : k.directory.stream ≡ entries
  pub metadata_is : k.metadata ≡ metadata

-- the folder of these two entries is kept at this place
abbrev pub IsKeptAt : (entries metadata : Entry) → List KeptFolder → (at : ℕ) → Type 0
IsKeptAt entries metadata [] at = ⊥
IsKeptAt entries metadata (k ∷ folders) zero = IsKeptOf entries metadata k
IsKeptAt entries metadata (k ∷ folders) (suc at) = IsKeptAt entries metadata folders at

-- the folder of these two entries is kept
abbrev pub KeepsFolder : (entries metadata : Entry) → List KeptFolder → Type 0
KeepsFolder entries metadata folders = (at : ℕ) × IsKeptAt entries metadata folders at

-- what is stored so is kept; of a file there is nothing to keep
abbrev pub KeepsStored : Stored → List KeptFolder → Type 0
KeepsStored (stored.File e) folders = ⊤
KeepsStored (stored.Folder entries metadata) folders = KeepsFolder entries metadata folders

-- ---- what stays

-- what this folder counts, once it is kept; a file isn't
abbrev pub stored_cost : Stored → ℕ
stored_cost (stored.File e) = 0
stored_cost (stored.Folder entries metadata) = KEPT_FOLDER + size_of metadata

-- this is kept, or there is room for it beside all that is
abbrev pub HasRoom : Stored → List KeptFolder → Type 0
HasRoom s folders = KeepsStored s folders ⊎ (all_cost folders + stored_cost s ≤ MAX_KEPT)

-- What is kept behind looking for a name in what is stored so: where that has room, all that was kept still is; and no
-- more room is taken than it counts, and none where it was kept.
pub record StaysKept (s : Stored) (old new : List KeptFolder) : Type 0 where
  pub stays : HasRoom s old → (other : Stored) → KeepsStored other old → KeepsStored other new
  pub again : KeepsStored s old → all_cost new ≤ all_cost old
  pub costs : all_cost new ≤ all_cost old + stored_cost s

-- ---- what is right by the blocks

-- the records are the folder's, and the leaf is of its entries
pub record IsRightFolder (map : BlockMap) (k : KeptFolder) : Type 0 where
  pub are : AreFolder map k.directory.stream k.metadata k.records
  pub leaf : KeepsLeaf map k.directory

-- what is kept of folders is what the blocks have of them
abbrev pub IsRightKept : BlockMap → List KeptFolder → Type 0
IsRightKept map folders = AllByRecursion (IsRightFolder map) folders
