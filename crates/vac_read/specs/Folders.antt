-- What the parts of a reader of folders answer.
use Rattle.std.specs.Prelude.{ℕ, ◌≡◌, ◌+◌, ◌-◌, ◌*◌, ◌/◌, ◌%◌, ◌<◌, ◌≤◌, ◌⊎◌, min, Bool, true, false, Option, Some, None, Result, Ok, Err, List, [], ◌∷◌, ◌++◌, codes, length, take, drop, slice_index_or}
use Rattle.vt_base.specs.Filled.{filled}
use Rattle.vt_tree.specs.declared.entry.Entry.{Entry}
use Rattle.vt_tree.specs.declared.root.Root.{Root as TreeRoot}
use Rattle.vt_tree.specs.Entries.{IsTreeEntry, SpellsEntry}
use Rattle.vt_tree.specs.Content.{size_of, byte_of, AreGiven}
use Rattle.vt_tree.specs.Maps.{BlockMap}
use Rattle.vt_tree.specs.Roots.{IsRoot, root_bytes}
use Rattle.vac_meta.specs.declared.record.Record.{Record}
use Rattle.vac_meta.specs.declared.record.RecordKind.{RecordKind}
use Rattle.vac_model.specs.declared.TheConstants.{MIN_BLOCK_SIZE, MAX_BLOCK_SIZE}
use Rattle.vac_model.specs.Trees.{entry_place, HasEntry, AreFolder}
use Rattle.vac_read.specs.declared.directory.Directory.{Directory}
use Rattle.vac_read.specs.declared.error.RootField.{RootField}
use Rattle.vac_read.specs.declared.error.VacBad.{VacBad}
use Rattle.vac_read.specs.declared.error.VacBad.TheVariants.{Tree, Root, Meta, NoMemory}
use Rattle.vac_read.specs.declared.node.Node.{Node}
use Rattle.vac_read.specs.declared.node.Stored.{Stored}
use Rattle.vac_read.specs.declared.node.Stored.TheVariants as stored
use Rattle.vac_read.specs.Broken.{IsUnread, IsNoEntry, LacksDirectoryEntry, LacksEntries, LacksNode, LacksRecords, entry_field, root_flaw}
use Rattle.vac_read.specs.Nodes.{AreNodes, IsFoundItem, IsNode, IsStoredNode, named}
use Rattle.vac_read.specs.Reading.{AnswersOrTells}

-- ---- entries

-- the bytes are the leaf of a directory that begins there, as far as the directory goes
pub record IsLeaf (map : BlockMap) (stream : Entry) (start : ℕ) (bytes : List ℕ) : Type 0 where
  pub all : length bytes ≡ min stream.dsize (size_of stream - start)
  pub given : AreGiven (byte_of map stream) start bytes

-- what is kept of a directory is a leaf of it, or nothing
abbrev pub KeepsLeaf : BlockMap → Directory → Type 0
KeepsLeaf map d = (d.leaf ≡ []) ⊎ IsLeaf map d.stream d.start d.leaf

-- the place of an entry of a directory: its leaf begins at `start`, and the entry stands so far
-- inside it
pub record IsPlace (stream : Entry) (i start inside : ℕ) : Type 0 where
  pub whole : 40 ≤ stream.dsize
  pub start_is : start ≡ i / (stream.dsize / 40) * stream.dsize
  pub inside_is : inside ≡ 40 * (i % (stream.dsize / 40))
  pub within : inside + 40 ≤ stream.dsize
  pub there : start + inside + 40 ≤ size_of stream

-- the place of entry i, or none where the directory ends before
abbrev pub IsEntryPlace : (stream : Entry) → (i : ℕ) → Option (ℕ × ℕ) → Type 0
IsEntryPlace stream i (Some place) = IsPlace stream i place.0 place.1
IsEntryPlace stream i None = size_of stream < entry_place stream i + 40

-- the leaf that begins there is kept
abbrev pub TellsLeaf : (old new : Directory) → (start : ℕ) → Result (Unit {0}) VacBad → BlockMap
    → Type 0
TellsLeaf old new start result map =
    AnswersOrTells result (λ _. IsLeaf map old.stream start new.leaf)
    (IsUnread map old.stream start (min old.stream.dsize (size_of old.stream - start)))

-- forty bytes are this entry, or none of this kind
abbrev pub TellsBytes : (bytes : List ℕ) → (is_dir : Bool) → (field : ℕ) → Result Entry VacBad
    → Type 0
TellsBytes bytes is_dir field (Ok e) = IsTreeEntry e × SpellsEntry e bytes × (e.is_dir ≡ is_dir)
TellsBytes bytes is_dir field (Err bad) = IsNoEntry bytes is_dir field bad

-- the entry of this number
abbrev pub TellsEntry : (stream : Entry) → (i : ℕ) → (is_dir : Bool) → (field : ℕ)
    → Result Entry VacBad → BlockMap → Type 0
TellsEntry stream i is_dir field result map =
    AnswersOrTells result (λ e. HasEntry map stream i e × (e.is_dir ≡ is_dir))
    (LacksDirectoryEntry map stream i is_dir field)

-- the entries of a record
abbrev pub TellsStoredEntries : (stream : Entry) → RecordKind → (i field : ℕ) → Result Stored VacBad
    → BlockMap → Type 0
TellsStoredEntries stream kind i field result map =
    AnswersOrTells result (IsStoredNode map stream kind i) (LacksEntries map stream kind i field)

-- the item of a record
abbrev pub TellsNode : (stream : Entry) → Record → (field : ℕ) → Result Node VacBad → BlockMap
    → Type 0
TellsNode stream r field result map =
    AnswersOrTells result (IsNode map stream r) (LacksEntries map stream r.kind r.entry field)

-- the items of records, in their order
abbrev pub TellsNodes : (stream : Entry) → List Record → Result (List Node) VacBad → BlockMap
    → Type 0
TellsNodes stream records result map =
    AnswersOrTells result (AreNodes map stream records) (LacksNode map stream records)

-- ---- records

-- the records of the folder, or that the blocks don't have them and why
abbrev pub TellsRecords : (entries metadata : Entry) → Result (List Record) VacBad → BlockMap
    → Type 0
TellsRecords entries metadata result map =
    AnswersOrTells result (AreFolder map entries metadata) (LacksRecords map entries metadata)

-- a record behind these is the first of this name
pub record IsNamed (records : List Record) (name : List ℕ) (before : List Record) (r : Record)
    : Type 0 where
  pub rest : List Record
  pub among : records ≡ before ++ r ∷ rest
  pub is : named name records ≡ Some r

-- the record of this number is the first of this name
pub record IsNamedAt (records : List Record) (name : List ℕ) (number : ℕ) : Type 0 where
  pub within : number < length records
  pub is : (d : Record) → named name records ≡ Some (slice_index_or records number d)

-- why the entries of the record of this name aren't told
pub record LacksRecord (map : BlockMap) (stream : Entry) (records : List Record) (name : List ℕ)
    (bad : VacBad) : Type 0 where
  pub before : List Record
  pub r : Record
  pub named_so : IsNamed records name before r
  pub lacks : LacksEntries map stream r.kind r.entry (entry_field before r) bad

-- the same failure, where what can't stand in the metadata stands at this place
abbrev pub moved_to : (field : ℕ) → VacBad → VacBad
moved_to field (Tree err) = Tree err
moved_to field (Root root_field) = Root root_field
moved_to field (Meta at) = Meta field
moved_to field NoMemory = NoMemory

-- the item of the record of this name, if there is one
abbrev pub TellsNamed : (stream : Entry) → List Record → (name : List ℕ)
    → Result (Option Node) VacBad → BlockMap → Type 0
TellsNamed stream records name result map =
    AnswersOrTells result (IsFoundItem map stream (named name records))
    (LacksRecord map stream records name)

-- ---- roots

-- bytes are the root of an archive
pub record IsArchiveRoot (bytes : List ℕ) (root : TreeRoot) : Type 0 where
  pub allowed : IsRoot root
  pub is : bytes ≡ root_bytes root
  pub kind : root.kind ≡ filled 128 (codes "rvac")
  pub least : MIN_BLOCK_SIZE ≤ root.block_size
  pub most : root.block_size ≤ MAX_BLOCK_SIZE

-- bytes are the root of no archive
abbrev pub IsNoRoot : (bytes : List ℕ) → VacBad → Type 0
IsNoRoot bytes bad = (field : RootField) × (bad ≡ Root field) × (root_flaw bytes ≡ Some field)

-- bytes begin with the two entries of a folder
abbrev pub BeginsWithFolder : (bytes : List ℕ) → Stored → Type 0
BeginsWithFolder bytes (stored.File e) = ⊥
BeginsWithFolder bytes (stored.Folder entries metadata) =
    (80 ≤ length bytes) × IsTreeEntry entries × SpellsEntry entries (take 40 bytes)
    × (entries.is_dir ≡ true)
    × IsTreeEntry metadata × SpellsEntry metadata (take 40 (drop 40 bytes))
    × (metadata.is_dir ≡ false)
